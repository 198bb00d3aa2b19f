use Rattle.std.proofs.Common.{refl, sym, rules}
use Rattle.std.proofs.lemmas.Result.{err_from_is_err_and}
use Rattle.tw_terminal.specs.Uses.Call.{Other}
use Rattle.tw_session.specs.declared.error.Error.TheVariants.{Terminal}
use Rattle.tw_lineedit.proofs.PaintLemmas.{same_frame}
use Rattle.tw_lineedit.proofs.TurnLemmas.{over, done, poll_refused, event_refused, continues}
use Rattle.tw_lineedit.proofs.UseLemmas.{used_once, used_then}
use Rattle.tw_lineedit.proofs.editor.LineEditor+T.turn.Goals as goal

pub returns-then-is_over-clause-ok : goal.returns-then-is_over-clause-ok
returns-then-is_over-clause-ok g c = over g.H.LineEditorHost.rules g.H.LineEditorHost.OVERRIDES _ (sym c.if-is_over.ensures)

pub returns-in_err-event-clause-err : goal.returns-in_err-event-clause-err
returns-in_err-event-clause-err g c =
    let p = err_from_is_err_and c.from_residual.result c.from_residual.ensures.1 in
    rw (p.1, p.2) (poll_refused g.H.LineEditorHost.rules g.H.LineEditorHost.OVERRIDES _ _ (Terminal c.in_err-event.field-0.0) (sym c.if-is_over.ensures) (record { state = refl; value = refl; mark = refl }, c.in_err-event.ensures.err))

pub returns-in_err-advance-in-Some-clause-err : goal.returns-in_err-advance-in-Some-clause-err
returns-in_err-advance-in-Some-clause-err g c =
    let p = err_from_is_err_and c.from_residual-in_err-advance-in-Some.result c.from_residual-in_err-advance-in-Some.ensures.1 in
    rw (p.1, p.2) (event_refused g.H.LineEditorHost.rules g.H.LineEditorHost.OVERRIDES _ _ _ _ c.in_err-advance-in-Some.field-0.0 (sym c.if-is_over.ensures) (record { keeps = record { state = refl; value = refl; mark = refl }; terminal = rw c.in-Some.is at c.in_ok-event.ensures.ok }) c.in_err-advance-in-Some.ensures.err)

pub returns-in_ok-advance-in-Some-clause-ok : goal.returns-in_ok-advance-in-Some-clause-ok
returns-in_ok-advance-in-Some-clause-ok g c = continues g.H.LineEditorHost.rules g.H.LineEditorHost.OVERRIDES _ _ _ _ (sym c.if-is_over.ensures) (record { keeps = record { state = refl; value = refl; mark = refl }; terminal = rw c.in-Some.is at c.in_ok-event.ensures.ok }) c.in_ok-advance-in-Some.ensures.ok

pub returns-in-None-clause-ok : goal.returns-in-None-clause-ok
returns-in-None-clause-ok g c =
    let at_end = rw c.in-None.is at c.in_ok-event.ensures.ok in
    done g.H.LineEditorHost.rules g.H.LineEditorHost.OVERRIDES _ _ (record { same = same_frame g.H.LineEditorHost.rules _ _ refl refl refl at_end.rest; events = at_end.events })

pub returns-in_err-advance-in-Some-clause-terminal : goal.returns-in_err-advance-in-Some-clause-terminal
returns-in_err-advance-in-Some-clause-terminal g c = (search rules, used_then g.T.Terminal.follows _ _ _ (used_once g.T.Terminal.follows Other _ _ c.in_ok-event.ensures.follows) c.in_err-advance-in-Some.ensures.terminal.1)

pub returns-in_ok-advance-in-Some-clause-terminal : goal.returns-in_ok-advance-in-Some-clause-terminal
returns-in_ok-advance-in-Some-clause-terminal g c = (search rules, used_then g.T.Terminal.follows _ _ _ (used_once g.T.Terminal.follows Other _ _ c.in_ok-event.ensures.follows) c.in_ok-advance-in-Some.ensures.terminal.1)

pub returns-in_err-event-clause-terminal : goal.returns-in_err-event-clause-terminal
returns-in_err-event-clause-terminal g c = (search rules, used_once g.T.Terminal.follows Other _ _ c.in_err-event.ensures.follows)

pub returns-in-None-clause-terminal : goal.returns-in-None-clause-terminal
returns-in-None-clause-terminal g c = (search rules, used_once g.T.Terminal.follows Other _ _ c.in_ok-event.ensures.follows)
