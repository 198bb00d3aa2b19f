use Rattle.std.proofs.Common.{◌++◌, ◌∙◌, refl, ap, map, rules}
use Rattle.std.proofs.lemmas.Result.{err_from_is_err_and}
use Rattle.tw_surface.specs.ChangeView.{change_view, batch_view}
use Rattle.tw_terminal.specs.Uses.Call.{Other, Refused}
use Rattle.tw_lineedit.specs.Above.{text_above}
use Rattle.tw_lineedit.specs.Frame.{frame}
use Rattle.tw_lineedit.proofs.AboveLemmas.{fails_to_print, prints, shows_above}
use Rattle.tw_lineedit.proofs.UseLemmas.{used_once, used_then}
use Rattle.tw_lineedit.proofs.editor.above.LineEditor+T.paint_below.Goals as goal

pub returns-in_err-render-clause-err : goal.returns-in_err-render-clause-err
returns-in_err-render-clause-err g c =
    let p = err_from_is_err_and c.from_residual-in_err-render.result c.from_residual-in_err-render.ensures.1 in
    rw (p.1, p.2)
    (fails_to_print g.H.LineEditorHost.rules c.args.text.now (frame g.T.Terminal.state g.H.LineEditorHost.value c.args.self.now c.args.host.now) _ _ c.in_err-render.field-0.0
    c.in_ok-size.ensures.size c.in_ok-size.ensures.ok c.in_ok-painting.ensures.ok
    (ap (map change_view) c.as_slice.ensures.value ∙ c.in_ok-batch.ensures ∙ ap (λ m. text_above m c.args.text.now ++ batch_view c.in_ok-painting.painting.items) c.mark.ensures)
    c.in_err-render.ensures.err (record { state = refl; value = refl; mark = refl }))

pub returns-clause-ok : goal.returns-clause-ok
returns-clause-ok g c =
    prints g.H.LineEditorHost.rules c.args.text.now (frame g.T.Terminal.state g.H.LineEditorHost.value c.args.self.now c.args.host.now) _ _
    c.in_ok-size.ensures.size c.in_ok-size.ensures.ok c.in_ok-painting.ensures.ok
    (ap (map change_view) c.as_slice.ensures.value ∙ c.in_ok-batch.ensures ∙ ap (λ m. text_above m c.args.text.now ++ batch_view c.in_ok-painting.painting.items) c.mark.ensures)
    c.in_ok-render.ensures.ok (ap (λ s. s.state) c.set_mark.ensures) refl (ap (λ s. s.mark) c.set_mark.ensures)

pub returns-clause-shows : goal.returns-clause-shows
returns-clause-shows g c = shows_above g.H.LineEditorHost.rules c.args.text.now _ _ (returns-clause-ok g c)

pub returns-in_err-size-clause-terminal : goal.returns-in_err-size-clause-terminal
returns-in_err-size-clause-terminal g c = (search rules, used_once g.T.Terminal.follows Other _ _ c.get_screen_size.ensures.follows)

pub returns-in_err-painting-clause-terminal : goal.returns-in_err-painting-clause-terminal
returns-in_err-painting-clause-terminal g c = (search rules, used_once g.T.Terminal.follows Other _ _ c.get_screen_size.ensures.follows)

pub returns-in_err-batch-clause-terminal : goal.returns-in_err-batch-clause-terminal
returns-in_err-batch-clause-terminal g c = (search rules, used_once g.T.Terminal.follows Other _ _ c.get_screen_size.ensures.follows)

pub returns-in_err-render-clause-terminal : goal.returns-in_err-render-clause-terminal
returns-in_err-render-clause-terminal g c = (search rules, used_then g.T.Terminal.follows _ _ _ (used_once g.T.Terminal.follows Other _ _ c.get_screen_size.ensures.follows) (used_once g.T.Terminal.follows Refused _ _ c.in_err-render.ensures.refused))

pub returns-clause-terminal : goal.returns-clause-terminal
returns-clause-terminal g c = (search rules, used_then g.T.Terminal.follows _ _ _ (used_once g.T.Terminal.follows Other _ _ c.get_screen_size.ensures.follows) (used_once g.T.Terminal.follows _ _ _ c.in_ok-render.ensures.took))
