use Rattle.std.proofs.Common.{arith, refl, ◌+◌}
use Rattle.tw_line.specs.HistoryAdditions.{match_view}
use Rattle.tw_line.specs.NearestMatch.{matches}
use Rattle.tw_line.proofs.SearchLemmas.{found_backwards, none_backwards, none_with_first}
use Rattle.tw_line.proofs.history.nearest.search_backwards.Goals as goal
use Rattle.tw_line.proofs.history.nearest.search_backwards.Goals.{else-loop-at-test, then-loop-at-test+in_default+else-at-gt0}

pub returns-in-Some-clause-found : goal.returns-in-Some-clause-found
returns-in-Some-clause-found g c =
    found_backwards (g.L.LentLines.lines c.args.lines.now) c.args.pattern.now c.args.idx c.requires c.loop-at.at (match_view c.in-Some.found)
    c.loop-at.auto.at c.in-Some.ensures.found.0 c.in-Some.ensures.found.1 c.loop-at.invariant

pub returns-clause-found : goal.returns-clause-found
returns-clause-found g c =
    let lines = g.L.LentLines.lines c.args.lines.now in
    none_backwards lines c.args.pattern.now c.args.idx c.requires
    (elim c.loop-at-test.branch [
      | else-loop-at-test w ↦ absurd (omega (arith, w.loop-at-test.false))
      | then-loop-at-test+in_default+else-at-gt0 w ↦ λ k low high.
          none_with_first (matches lines c.args.pattern.now) c.loop-at.at (c.loop-at.at + 1) (c.args.idx + 1)
          refl w.in_default.ensures.found c.loop-at.invariant k (omega arith) high
    ])
