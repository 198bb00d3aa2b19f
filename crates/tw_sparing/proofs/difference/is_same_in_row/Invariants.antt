-- No column before this one differs.
use Rattle.tw_line.specs.Extremes.{NonePasses}
use Rattle.tw_sparing.specs.Differences.{differ_in}
use Rattle.tw_sparing.specs.Sending.{screen_cells}
use Rattle.tw_sparing.proofs.difference.is_same_in_row.Given as goal

abbrev pub invariant-loop-col : goal.invariant-loop-col
invariant-loop-col l = NonePasses (differ_in (screen_cells l.old l.row) (screen_cells l.new l.row)) 0 l.col
