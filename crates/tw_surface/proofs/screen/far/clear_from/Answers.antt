use Rattle.std.proofs.Common.{◌∙◌}
use Rattle.tw_surface.specs.Cells.{IsCountBefore}
use Rattle.tw_surface.proofs.CellClears.{cleared_take, sparse_take}
use Rattle.tw_surface.proofs.screen.far.clear_from.Goals as goal

-- the cells are cut where the search ends
cut : (c : goal.After-trim_cells) → IsCountBefore c.args.cells.now.items c.args.row c.args.col c.count_before.result
cut c = rw c.deref.ensures.value at c.count_before.ensures

pub returns-clause-cleared : goal.returns-clause-cleared
returns-clause-cleared c = c.trim_cells.ensures.shown ∙ rw c.truncate.ensures.items (cleared_take c.args.cells.now.items c.args.row c.args.col c.count_before.result (cut c))

pub returns-clause-sparse : goal.returns-clause-sparse
returns-clause-sparse c = λ width first sparse.
    c.trim_cells.ensures.sparse width first (rw c.truncate.ensures.items (sparse_take c.args.cells.now.items c.count_before.result (cut c).in_range width first sparse))
