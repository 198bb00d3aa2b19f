use Rattle.std.proofs.Common.{map}
use Rattle.std.proofs.lemmas.Result.{err_from_is_err_and}
use Rattle.tw_host.specs.ElementView.{element_view, changes_of}
use Rattle.tw_session.proofs.PaintingSteps.{refused-with_edge, draws-with_edge}
use Rattle.tw_session.proofs.painter.draw_line.Goals as goal

pub returns-in_err-draw_elements : goal.returns-in_err-draw_elements
returns-in_err-draw_elements c =
    let p = err_from_is_err_and c.from_residual.result c.from_residual.ensures.1 in
    rw (p.1, p.2) (refused-with_edge c.args.drawing.now (changes_of (map element_view c.args.elements.items)) _ c.in_err-draw_elements.ensures)

pub returns : goal.returns
returns c = draws-with_edge c.args.cols _ _ _ _ _ c.requires c.in_ok-draw_elements.ensures c.draw_edge_space.ensures
