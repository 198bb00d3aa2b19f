use Rattle.std.proofs.Common.{take}
use Rattle.ecma_terminal.proofs.GridLemmas.{PutSoFar}
use Rattle.ecma_terminal.proofs.grid.Grid.put_all.Given as goal

abbrev pub invariant-loop-index : goal.invariant-loop-index
invariant-loop-index l = PutSoFar l.row l.col (take l.index l.cells) l.fn.self l.self
