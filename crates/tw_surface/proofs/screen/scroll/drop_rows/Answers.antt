use Rattle.std.proofs.Common.{◌≡◌, ◌∙◌, length, drop, map, ap}
use Rattle.std.proofs.lemmas.List.{with_items_is, length-map}
use Rattle.tw_surface.specs.Cells.{higher_cell, IsPartedAt}
use Rattle.tw_surface.proofs.RaisedCells.{low_enough, raised_drop, sparse_raised, ended_raised}
use Rattle.tw_surface.proofs.screen.scroll.drop_rows.Goals as goal

-- the cells that do not stand above are left
pub raise_cells-requires : goal.raise_cells-requires
raise_cells-requires c =
    let parted : IsPartedAt c.args.cells.now.items c.args.rows c.count_above-count.result = rw c.deref.ensures.value at c.count_above-count.ensures in
    rw (c.deref_mut.ensures.value ∙ c.drop_first.ensures) (low_enough c.args.cells.now.items c.args.rows c.count_above-count.result parted)

-- and they are raised
raised_items : (c : goal.After-cells-1) → c.raise_cells.new.cells ≡ map (higher_cell c.args.rows) (drop c.count_above-count.result c.args.cells.now.items)
raised_items c = c.raise_cells.ensures ∙ ap (map (higher_cell c.args.rows)) (c.deref_mut.ensures.value ∙ c.drop_first.ensures)

pub returns-clause-raised : goal.returns-clause-raised
returns-clause-raised c =
    rw (with_items_is c.drop_first.new.cells c.raise_cells.new.cells (ap length c.raise_cells.ensures ∙ length-map c.deref_mut.result.now (higher_cell c.args.rows) ∙ c.deref_mut.ensures.len), raised_items c)
    (raised_drop c.args.cells.now.items c.args.rows c.count_above-count.result (rw c.deref.ensures.value at c.count_above-count.ensures))

pub returns-clause-sparse : goal.returns-clause-sparse
returns-clause-sparse c =
    rw (with_items_is c.drop_first.new.cells c.raise_cells.new.cells (ap length c.raise_cells.ensures ∙ length-map c.deref_mut.result.now (higher_cell c.args.rows) ∙ c.deref_mut.ensures.len), raised_items c)
    (sparse_raised c.args.cells.now.items c.args.rows c.count_above-count.result (rw c.deref.ensures.value at c.count_above-count.ensures))

pub returns-clause-ended : goal.returns-clause-ended
returns-clause-ended c =
    rw (with_items_is c.drop_first.new.cells c.raise_cells.new.cells (ap length c.raise_cells.ensures ∙ length-map c.deref_mut.result.now (higher_cell c.args.rows) ∙ c.deref_mut.ensures.len), raised_items c)
    (ended_raised c.args.cells.now.items c.args.rows c.count_above-count.result (rw c.deref.ensures.value at c.count_above-count.ensures))
