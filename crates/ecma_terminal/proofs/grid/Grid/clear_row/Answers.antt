use Rattle.std.proofs.Common.{◌≡◌, ◌+◌, ◌*◌, ◌<◌, ◌&&◌, eqb, leb, length, arith}
use Rattle.std.proofs.lemmas.List.{with_items_is}
use Rattle.ecma_terminal.proofs.GridLemmas.{fill_redraws, row_test}
use Rattle.ecma_terminal.proofs.grid.Grid.clear_row.Goals as goal

pub returns : goal.returns
returns c =
    let grid = c.self.inside in
    let row = c.args.row in
    let col = c.args.col in
    let inner : col < grid.cols = rw (← c.self.view_is) at c.requires.col in
    let items : length c.fill.new.cells ≡ grid.cells.len = omega (arith, c.fill.auto.cells, c.as_mut_slice.ensures.len) in
    let filled = rw c.as_mut_slice.ensures.value at c.fill.ensures in
    rw (← c.self.view_is, with_items_is grid.cells c.fill.new.cells items)
    (fill_redraws grid.rows grid.cols (row * grid.cols + col) (row * grid.cols + grid.cols) grid.cells.items c.fill.new.cells c.args.paper
    (λ r k. eqb row r && leb col k) c.self.invariant.all filled
    (λ r k below within. row_test grid.cols row col r k inner within))
