use Rattle.std.proofs.Common.{refl, ap, map, rules}
use Rattle.std.proofs.lemmas.Result.{err_from_is_err_and}
use Rattle.tw_surface.specs.ChangeView.{change_view}
use Rattle.tw_session.specs.declared.error.Error.TheVariants.{Terminal}
use Rattle.tw_terminal.specs.Uses.Call.{Other, Refused}
use Rattle.tw_lineedit.proofs.PaintLemmas.{paints, fails_to_show, same_frame}
use Rattle.tw_lineedit.proofs.UseLemmas.{used_once, used_then}
use Rattle.tw_lineedit.proofs.editor.LineEditor+T.paint.Goals as goal

pub returns-in_err-render-clause-err : goal.returns-in_err-render-clause-err
returns-in_err-render-clause-err g c =
    let p = err_from_is_err_and c.from_residual-in_err-render.result c.from_residual-in_err-render.ensures.1 in
    let sized = same_frame g.H.LineEditorHost.rules _ _ refl refl refl c.in_ok-size.ensures.ok in
    rw (p.1, p.2) (fails_to_show g.H.LineEditorHost.rules _ _ _ (Terminal c.in_err-render.field-0.0) c.in_ok-size.ensures.size sized c.in_ok-changes.ensures.ok (ap (map change_view) c.as_slice.ensures.value) (record { state = refl; value = refl; mark = refl }, c.in_err-render.ensures.err))

pub returns-clause-ok : goal.returns-clause-ok
returns-clause-ok g c =
    let sized = same_frame g.H.LineEditorHost.rules _ _ refl refl refl c.in_ok-size.ensures.ok in
    paints g.H.LineEditorHost.rules _ _ _ _ c.in_ok-size.ensures.size sized c.in_ok-changes.ensures.ok (ap (map change_view) c.as_slice.ensures.value) (record { keeps = record { state = refl; value = refl; mark = refl }; terminal = c.in_ok-render.ensures.ok }) (ap (λ s. s.state) c.set_mark.ensures) refl (ap (λ s. s.mark) c.set_mark.ensures) refl

pub returns-in_err-size-clause-terminal : goal.returns-in_err-size-clause-terminal
returns-in_err-size-clause-terminal g c = (search rules, used_once g.T.Terminal.follows Other _ _ c.get_screen_size.ensures.follows)

pub returns-in_err-changes-clause-terminal : goal.returns-in_err-changes-clause-terminal
returns-in_err-changes-clause-terminal g c = (search rules, used_once g.T.Terminal.follows Other _ _ c.get_screen_size.ensures.follows)

pub returns-in_err-render-clause-terminal : goal.returns-in_err-render-clause-terminal
returns-in_err-render-clause-terminal g c = (search rules, used_then g.T.Terminal.follows _ _ _ (used_once g.T.Terminal.follows Other _ _ c.get_screen_size.ensures.follows) (used_once g.T.Terminal.follows Refused _ _ c.in_err-render.ensures.refused))

pub returns-clause-terminal : goal.returns-clause-terminal
returns-clause-terminal g c = (search rules, used_then g.T.Terminal.follows _ _ _ (used_once g.T.Terminal.follows Other _ _ c.get_screen_size.ensures.follows) (used_once g.T.Terminal.follows _ _ _ c.in_ok-render.ensures.took))
