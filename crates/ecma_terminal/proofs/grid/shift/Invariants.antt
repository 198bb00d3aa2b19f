use Rattle.ecma_terminal.proofs.GridLemmas.{ShiftedTo}
use Rattle.ecma_terminal.proofs.grid.shift.Given as goal

abbrev pub invariant-loop-place : goal.invariant-loop-place
invariant-loop-place l = ShiftedTo l.by l.place l.fn.cells l.cells
