use Rattle.std.proofs.Common.{◌≡◌, ◌∙◌, length, map, sym, arith}
use Rattle.std.proofs.lemmas.Grind.{common_steps}
use Rattle.std.proofs.lemmas.List.{same_lists, get_or-map, length-map}
use Rattle.tw_surface.specs.Cells.{higher_cell}
use Rattle.tw_surface.proofs.screen.scroll.raise_cells.Goals as goal

pub returns : goal.returns
returns c =
    let size : length (map (higher_cell c.args.rows) c.args.cells.now) ≡ length c.args.cells.now = length-map c.args.cells.now (higher_cell c.args.rows) in
    same_lists c.loop-cell.cells (map (higher_cell c.args.rows) c.args.cells.now) (omega arith)
    (λ k d below. c.loop-cell.invariant.done k d (omega arith) ∙ sym (get_or-map (higher_cell c.args.rows) c.args.cells.now k d d (omega arith)))

pub loop-cell-preserved : goal.loop-cell-preserved
loop-cell-preserved c = grind (arith, common_steps)
