use Rattle.std.proofs.Common.{◌≡◌, ℕ, ◌<◌, ◌≤◌, slice_index_or}
use Rattle.tw_surface.specs.declared.screen.far.Cell.{Cell}
use Rattle.tw_surface.specs.Cells.{higher_cell}
use Rattle.tw_surface.proofs.screen.scroll.raise_cells.Given as goal

abbrev pub invariant-loop-cell : goal.invariant-loop-cell
invariant-loop-cell l = record {
  done : (k : ℕ) (d : Cell) → k < l.cell-index → slice_index_or l.cells k d ≡ higher_cell l.fn.rows (slice_index_or l.fn.cells k d);
  rest : (k : ℕ) (d : Cell) → l.cell-index ≤ k → slice_index_or l.cells k d ≡ slice_index_or l.fn.cells k d;
}
