-- No index before this row differs.
use Rattle.std.proofs.Common.{◌*◌}
use Rattle.tw_line.specs.Extremes.{NonePasses}
use Rattle.tw_sparing.specs.Differences.{differ_in}
use Rattle.tw_sparing.specs.Redrawings.{indexed}
use Rattle.tw_sparing.specs.Sending.{screen_cells}
use Rattle.tw_sparing.proofs.difference.is_same_before.Given as goal

abbrev pub invariant-loop-row : goal.invariant-loop-row
invariant-loop-row l = NonePasses (differ_in (indexed l.new.width (screen_cells l.old)) (indexed l.new.width (screen_cells l.new))) 0 (l.row * l.new.width)
