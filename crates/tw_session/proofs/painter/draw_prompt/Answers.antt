use Rattle.std.proofs.Common.{ap}
use Rattle.std.proofs.lemmas.Result.{err_from_is_err_and}
use Rattle.tw_host.specs.ElementView.{changes_of}
use Rattle.tw_session.proofs.PaintingSteps.{refused-before_line, draws-before_line}
use Rattle.tw_session.proofs.painter.draw_prompt.Goals as goal

pub returns-in_err-draw_elements : goal.returns-in_err-draw_elements
returns-in_err-draw_elements g c =
    let p = err_from_is_err_and c.from_residual-in_err-draw_elements.result c.from_residual-in_err-draw_elements.ensures.1 in
    rw (p.1, p.2)
    (refused-before_line _ _ _ _ _ _ _ c.default.ensures (ap changes_of c.in_ok-elements.ensures) c.in_ok-draw.ensures c.in_ok-draw-2.ensures c.in_err-draw_elements.ensures)

pub returns : goal.returns
returns g c =
    draws-before_line _ _ _ _ _ _ _ _ _ _ c.default.ensures (ap changes_of c.in_ok-elements.ensures) c.in_ok-draw.ensures c.in_ok-draw-2.ensures c.in_ok-draw_elements.ensures
    c.default-2.ensures c.draw-3.ensures
