use Rattle.std.proofs.Common.{◌+◌}
use Rattle.tw_line.specs.Extremes.{NonePasses}
use Rattle.tw_line.specs.NearestMatch.{matches}
use Rattle.tw_line.proofs.history.nearest.search_backwards.Given as goal

abbrev pub invariant-loop-at : goal.invariant-loop-at
invariant-loop-at g l = NonePasses (matches (g.L.LentLines.lines l.lines) l.pattern) (l.at + 1) (l.idx + 1)
