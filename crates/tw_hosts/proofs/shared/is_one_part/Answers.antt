use Rattle.std.proofs.Common.{sym, ◌∙◌, rules, tests}
use Rattle.std.proofs.lemmas.List.Folds.{list_all-map}
use Rattle.std.proofs.lemmas.Iterator.{YieldsList-from_slice}
use Rattle.std.proofs.lemmas.Iterator.Search.{all_from_yields_List}
use Rattle.tw_host.specs.CandidateView.{candidate_view}
use Rattle.tw_hosts.specs.SharedCandidate.{is_for_part}
use Rattle.tw_hosts.proofs.shared.is_one_part.Goals as goal

pub returns : goal.returns
returns c =
    let items = c.args.candidates.now in
    let test = is_for_part c.args.start c.args.end in
    all_from_yields_List (λ item. test (candidate_view item)) _ _ _ c.all.ensures.ran (YieldsList-from_slice items cc) (λ x b q k. search (rules, tests))
    ∙ sym (list_all-map test candidate_view items)
