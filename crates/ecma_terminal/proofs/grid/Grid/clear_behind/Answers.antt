use Rattle.std.proofs.Common.{◌≡◌, ◌+◌, ◌*◌, ◌<◌, ◌&&◌, ◌||◌, eqb, ltb, leb, length, arith}
use Rattle.std.proofs.lemmas.List.{with_items_is}
use Rattle.ecma_terminal.proofs.GridLemmas.{fill_redraws, behind_test}
use Rattle.ecma_terminal.proofs.grid.Grid.clear_behind.Goals as goal

pub returns : goal.returns
returns c =
    let grid = c.self.inside in
    let row = c.args.row in
    let col = c.args.col in
    let inner : col < grid.cols = rw (← c.self.view_is) at c.requires.col in
    let items : length c.fill.new.cells ≡ grid.cells.len = omega (arith, c.fill.auto.cells, c.as_mut_slice.ensures.len) in
    let end : c.len-end.result ≡ grid.rows * grid.cols = omega (arith, c.len-end.ensures, grid.cells.ok.0, c.self.invariant.all) in
    let filled = rw (c.as_mut_slice.ensures.value, end) at c.fill.ensures in
    rw (← c.self.view_is, with_items_is grid.cells c.fill.new.cells items)
    (fill_redraws grid.rows grid.cols (row * grid.cols + col) (grid.rows * grid.cols) grid.cells.items c.fill.new.cells c.args.paper
    (λ r k. ltb row r || (eqb row r && leb col k)) c.self.invariant.all filled
    (λ r k below within. behind_test grid.rows grid.cols row col r k inner below within))
