-- No column from this one on differs.
use Rattle.std.proofs.Common.{◌≤◌}
use Rattle.tw_line.specs.Extremes.{NonePasses}
use Rattle.tw_sparing.specs.Differences.{differ_in}
use Rattle.tw_sparing.specs.Redrawings.{left_of}
use Rattle.tw_sparing.specs.Sending.{screen_cells}
use Rattle.tw_sparing.proofs.difference.last_changed.Given as goal

abbrev pub invariant-loop-end : goal.invariant-loop-end
invariant-loop-end l = (l.end ≤ l.new.width) × NonePasses (differ_in (left_of l.old.width l.from (screen_cells l.old) l.row) (screen_cells l.new l.row)) l.end l.new.width

abbrev pub decreases-loop-end : goal.decreases-loop-end
decreases-loop-end l = l.end
