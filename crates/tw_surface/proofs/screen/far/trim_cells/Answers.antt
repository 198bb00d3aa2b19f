use Rattle.std.proofs.Common.{arith}
use Rattle.std.proofs.lemmas.Grind.{common_steps}
use Rattle.tw_surface.proofs.CellClears.{cell_in-trimmed, sparse_take}
use Rattle.tw_surface.proofs.screen.far.trim_cells.Goals as goal

pub returns-clause-shown : goal.returns-clause-shown
returns-clause-shown c = rw c.truncate.ensures.items (cell_in-trimmed c.args.cells.now.items c.loop-end.end c.loop-end.invariant.in_range c.loop-end.invariant.blanks)

pub returns-clause-sparse : goal.returns-clause-sparse
returns-clause-sparse c = rw c.truncate.ensures.items (sparse_take c.args.cells.now.items c.loop-end.end c.loop-end.invariant.in_range)

pub returns-clause-ended : goal.returns-clause-ended
returns-clause-ended c = grind (arith, common_steps)
