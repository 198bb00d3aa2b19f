-- Nothing stands from this index on.
use Rattle.std.proofs.Common.{◌≤◌, ◌*◌}
use Rattle.tw_line.specs.Extremes.{NonePasses}
use Rattle.tw_sparing.specs.Differences.{is_used}
use Rattle.tw_sparing.specs.Sending.{screen_cells}
use Rattle.tw_sparing.proofs.difference.end_of.Given as goal

abbrev pub invariant-loop-end : goal.invariant-loop-end
invariant-loop-end l = (l.end ≤ l.rows * l.screen.width) × NonePasses (is_used l.screen.width (screen_cells l.screen)) l.end (l.rows * l.screen.width)

abbrev pub decreases-loop-end : goal.decreases-loop-end
decreases-loop-end l = l.end
