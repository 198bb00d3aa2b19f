use Rattle.std.proofs.Common.{◌++◌, ◌∙◌, ap, [], false}
use Rattle.std.proofs.lemmas.Result.{err_from_is_err_and}
use Rattle.tw_surface.specs.PaintingBatches.{start_of}
use Rattle.tw_session.specs.Painting.{scene_with}
use Rattle.tw_session.specs.DrawSteps.{IsSized, lower_of}
use Rattle.tw_session.proofs.PaintedSizes.{refused-size, sized-from, refused-scene, painted-scene}
use Rattle.tw_session.proofs.painter.painting.Goals as goal

pub returns-in_err-drawing-clause-err : goal.returns-in_err-drawing-clause-err
returns-in_err-drawing-clause-err g c =
    let p = err_from_is_err_and c.from_residual.result c.from_residual.ensures.1 in
    rw (p.1, p.2)
    (refused-size c.args.size
    (scene_with g.H.LineEditorHost.rules (g.H.LineEditorHost.value c.args.host.now) c.args.prompt.now c.args.line.now (lower_of g.H.LineEditorHost.rules (g.H.LineEditorHost.value c.args.host.now) c.args.line.now c.args.below) false)
    c.new.result c.in_err-drawing.field-0.0 (record { cols = c.args.size.cols; changes = [] }) c.in_err-drawing.was c.new.ensures.zero c.new.ensures.large c.new.ensures.ok)

pub returns-in_err-mark-clause-err : goal.returns-in_err-mark-clause-err
returns-in_err-mark-clause-err g c =
    let p = err_from_is_err_and c.from_residual-in_err-mark.result c.from_residual-in_err-mark.ensures.1 in
    let sized : IsSized c.args.size = sized-from c.args.size c.new.result c.in_ok-drawing.drawing c.in_ok-drawing.was c.new.ensures.zero c.new.ensures.large in
    rw (p.1, p.2)
    (refused-scene c.args.size
    (scene_with g.H.LineEditorHost.rules (g.H.LineEditorHost.value c.args.host.now) c.args.prompt.now c.args.line.now (lower_of g.H.LineEditorHost.rules (g.H.LineEditorHost.value c.args.host.now) c.args.line.now c.args.below) false)
    c.in_err-mark.field-0.0 sized c.in_err-mark.ensures)

pub returns-clause-ok : goal.returns-clause-ok
returns-clause-ok g c =
    let sized : IsSized c.args.size = sized-from c.args.size c.new.result c.in_ok-drawing.drawing c.in_ok-drawing.was c.new.ensures.zero c.new.ensures.large in
    painted-scene c.args.size
    (scene_with g.H.LineEditorHost.rules (g.H.LineEditorHost.value c.args.host.now) c.args.prompt.now c.args.line.now (lower_of g.H.LineEditorHost.rules (g.H.LineEditorHost.value c.args.host.now) c.args.line.now c.args.below) false)
    c.args.before c.draw_scene.new.drawing _ _ sized
    (record { paintable = c.in_ok-mark.ensures.paintable; changes = c.in_ok-mark.ensures.changes; leaves = c.in_ok-mark.ensures.leaves })
    (c.in_ok-batch.ensures ∙ ap (λ b. start_of c.args.before ++ b) c.consume.ensures)
