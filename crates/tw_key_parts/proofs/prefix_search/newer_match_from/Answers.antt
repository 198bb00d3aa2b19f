use Rattle.std.proofs.Common.{◌≡◌, Some, arith, rules, sym}
use Rattle.tw_line.specs.NearestMatch.{last_index}
use Rattle.tw_key_parts.proofs.StepLemmas.{least_steps}
use Rattle.tw_key_parts.proofs.prefix_search.newer_match_from.Goals as goal

pub returns-in-Some-2 : goal.returns-in-Some-2
returns-in-Some-2 g c =
    let last : Some c.in-Some.last ≡ last_index (g.L.History.lines c.args.lines.now) = search rules in
    search (rules, least_steps, sym last)

pub loop-index-preserved : goal.loop-index-preserved
loop-index-preserved g c =
    let last : Some c.in-Some.last ≡ last_index (g.L.History.lines c.args.lines.now) = search rules in
    grind (arith, least_steps, sym last, c.loop-index-test.true)
