use Rattle.ecma_terminal.specs.Grids.{AreFilled}
use Rattle.ecma_terminal.proofs.grid.fill.Given as goal

abbrev pub invariant-loop-place : goal.invariant-loop-place
invariant-loop-place l = AreFilled l.from l.place l.cell l.fn.cells l.cells
