use Rattle.std.proofs.Common.{◌∷◌, [], ◌++◌, append_assoc, ap, sym, ◌∙◌}
use Rattle.std.proofs.lemmas.Result.{err_from_is_err_and}
use Rattle.tw_session.proofs.DrawLemmas.{drawn-push, refused-at}
use Rattle.tw_session.proofs.painter.draw_elements.Goals as goal

pub loop-element-preserved : goal.loop-element-preserved
loop-element-preserved c = record {
  drawn = drawn-push _ _ _ c.loop-element.yielded c.in-Some.element _ c.into.ensures c.loop-element.invariant.drawn c.in_ok-draw.ensures;
  all = c.loop-element.invariant.all
      ∙ ap (λ xs. c.loop-element.yielded ++ xs) c.in-Some.ensures.steps.0
      ∙ sym (append_assoc c.loop-element.yielded (c.in-Some.element ∷ []) c.next.new.self.rest.items);
}

pub returns-in_err-draw : goal.returns-in_err-draw
returns-in_err-draw c =
    let p = err_from_is_err_and c.from_residual.result c.from_residual.ensures.1 in
    rw (p.1, p.2)
    (refused-at _ _ c.args.elements.items c.loop-element.yielded c.next.new.self.rest.items c.in-Some.element _ _
    (c.loop-element.invariant.all ∙ ap (λ xs. c.loop-element.yielded ++ xs) c.in-Some.ensures.steps.0)
    c.into.ensures c.loop-element.invariant.drawn c.in_err-draw.ensures)
