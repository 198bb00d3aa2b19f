use Rattle.ecma_terminal.proofs.GridLemmas.{put_redraws}
use Rattle.ecma_terminal.proofs.grid.Grid.put.Goals as goal

pub returns : goal.returns
returns c =
    let grid = c.self.inside in
    rw (← c.self.view_is) (put_redraws grid.rows grid.cols c.args.row c.args.col grid.cells.items c.args.cell
    (rw (← c.self.view_is) at c.requires.row) (rw (← c.self.view_is) at c.requires.col) c.self.invariant.all)
