use Rattle.std.proofs.Common.{◌≤◌, length}
use Rattle.tw_surface.proofs.CellClears.{AreBlankFrom}
use Rattle.tw_surface.proofs.screen.far.trim_cells.Given as goal

abbrev pub decreases-loop-end : goal.decreases-loop-end
decreases-loop-end l = l.end

-- what was passed is blank
abbrev pub invariant-loop-end : goal.invariant-loop-end
invariant-loop-end l = record {
  in_range : l.end ≤ length l.cells.items;
  blanks : AreBlankFrom l.cells.items l.end;
}
