use Rattle.std.proofs.Common.{rules}
use Rattle.std.proofs.lemmas.List.Sorted.{answers_always}
use Rattle.tw_surface.proofs.CellOrder.{searched}
use Rattle.tw_surface.proofs.screen.far.find_cell.Goals as goal

-- the closure gives a cell's row and column
pub returns : goal.returns
returns c =
    let facts = c.binary_search_by_key.ensures in
    let by_key = facts.position (λ cell. (cell.row, cell.col)) (answers_always _ _ _ (λ f a r g called. search rules)) in
    searched c.args.cells.now c.requires c.args.row c.args.col c.binary_search_by_key.result facts.bound by_key
