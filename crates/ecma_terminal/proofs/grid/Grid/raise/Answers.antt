use Rattle.std.proofs.Common.{◌≡◌, ◌*◌, length, arith}
use Rattle.std.proofs.lemmas.List.{with_items_is}
use Rattle.std.specs.Vec.{with_items}
use Rattle.ecma_terminal.proofs.GridLemmas.{raise_redraws}
use Rattle.ecma_terminal.proofs.grid.Grid.raise.Goals as goal

pub returns : goal.returns
returns c =
    let grid = c.self.inside in
    let first : length c.shift.new.cells ≡ grid.cells.len = omega (arith, c.shift.auto.cells, c.as_mut_slice.ensures.len) in
    let items : length c.fill.new.cells ≡ grid.cells.len = omega (arith, c.fill.auto.cells, c.as_mut_slice-2.ensures.len) in
    let end : c.len-end.result ≡ grid.rows * grid.cols = omega (arith, c.len-end.ensures, grid.cells.ok.0, c.self.invariant.all) in
    let shifted = rw c.as_mut_slice.ensures.value at c.shift.ensures in
    let filled = rw (c.as_mut_slice-2.ensures.value, with_items_is grid.cells c.shift.new.cells first, end) at c.fill.ensures in
    rw (← c.self.view_is, with_items_is (with_items grid.cells c.shift.new.cells) c.fill.new.cells items)
    (raise_redraws grid.rows grid.cols grid.cells.items c.shift.new.cells c.fill.new.cells c.args.blank c.self.invariant.all
    (omega (arith, first, grid.cells.ok.0, c.self.invariant.all)) shifted filled)
