use Rattle.std.proofs.Common.{◌≡◌, ◌∙◌, Some, ap, sym, rules}
use Rattle.std.specs.Option.{is_none}
use Rattle.tw_line.specs.HistoryAdditions.{match_view}
use Rattle.tw_line.specs.NearestMatch.{last_index}
use Rattle.tw_prompt_host.proofs.FailingLemmas.{failing_is, none_of_map}
use Rattle.tw_prompt_host.proofs.failing.is_failing.Goals as goal

pub returns : goal.returns
returns g c =
    let lines = g.L.History.lines c.args.history.now in
    let some : Some c.in-Some.last ≡ last_index lines = search (rules) in
    let none : c.is_none.result ≡ is_none c.in_ok-found.found = search (rules) in
    none ∙ sym (none_of_map match_view c.in_ok-found.found) ∙ ap is_none c.in_ok-found.ensures.found ∙ failing_is lines c.args.pattern.now c.in-Some.last some
