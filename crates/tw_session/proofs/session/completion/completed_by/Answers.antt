use Rattle.std.proofs.Common.{rules, ◌≡◌, true}
use Rattle.tw_host.specs.CandidateView.{candidate_view, fits}
use Rattle.tw_session.proofs.CandidateLemmas.{IsFitting-from, lands-in}
use Rattle.tw_session.proofs.session.completion.completed_by.Goals as goal

pub range-requires-clause-end_boundary : goal.range-requires-clause-end_boundary
range-requires-clause-end_boundary c =
    let passes : fits c.args.line.now (candidate_view c.args.candidate.now) ≡ true = search (rules, c.in-Some.ensures) in
    search (rules, (IsFitting-from _ _ passes).from)

pub range_from-requires : goal.range_from-requires
range_from-requires c =
    let passes : fits c.args.line.now (candidate_view c.args.candidate.now) ≡ true = search (rules, c.in-Some.ensures) in
    search (rules, (IsFitting-from _ _ passes).to)

pub new-requires : goal.new-requires
new-requires c =
    let passes : fits c.args.line.now (candidate_view c.args.candidate.now) ≡ true = search (rules, c.in-Some.ensures) in
    lands-in c.args.line.now (candidate_view c.args.candidate.now) _ _ passes (search rules) (search (rules, c.in-Some.ensures))
