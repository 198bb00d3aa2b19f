use Rattle.std.proofs.Common.{arith, rules}
use Rattle.ecma_terminal.proofs.GridLemmas.{put_more}
use Rattle.ecma_terminal.proofs.grid.Grid.put_all.Goals as goal

pub loop-index-preserved : goal.loop-index-preserved
loop-index-preserved c =
    put_more c.args.row c.args.col c.loop-index.index c.args.cells.now _ c.args.self.now c.loop-index.self c.put.new.self (omega arith) (search rules) c.loop-index.invariant c.put.ensures
