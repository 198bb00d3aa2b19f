use Rattle.std.proofs.Common.{◌≡◌, ◌∙◌, ap, refl, subst, sym, true, false}
use Rattle.tw_input.specs.EventView.{event_view}
use Rattle.tw_lineedit.specs.EditorSteps.{FailsToHandle, Handles, IsClosedAfter}
use Rattle.tw_lineedit.specs.Frame.{frame}
use Rattle.tw_lineedit.specs.Outcomes.{is_open}
use Rattle.tw_lineedit.specs.declared.Error.TheVariants.{EndOfFile}
use Rattle.tw_device.proofs.HookedLemmas.{closed_at_end, handled_begun, keeps_then, not_open, shown_as, shown_state}
use Rattle.tw_device.proofs.LiveLemmas.{still_open}
use Rattle.tw_device.proofs.hooked.feed.Goals as goal

pub returns-in_err-show-in-Ok-Open-clause-terminal : goal.returns-in_err-show-in-Ok-Open-clause-terminal
returns-in_err-show-in-Ok-Open-clause-terminal g c =
    keeps_then g.T.Terminal.follows c.args.editor.now.terminal c.before-2.new.editor.terminal c.handle_event.new.self.terminal c.handle_event.new.self.terminal c.show.new.editor.terminal
    (ap (λ it. it.terminal) c.before-2.ensures.same) c.handle_event.ensures.terminal refl c.show.ensures.terminal

pub returns-in_ok-show-in-Ok-Open-clause-terminal : goal.returns-in_ok-show-in-Ok-Open-clause-terminal
returns-in_ok-show-in-Ok-Open-clause-terminal g c =
    keeps_then g.T.Terminal.follows c.args.editor.now.terminal c.before-2.new.editor.terminal c.handle_event.new.self.terminal c.handle_event.new.self.terminal c.show.new.editor.terminal
    (ap (λ it. it.terminal) c.before-2.ensures.same) c.handle_event.ensures.terminal refl c.show.ensures.terminal

pub returns-in_err-paint_line-in-Ok-Ended-clause-terminal : goal.returns-in_err-paint_line-in-Ok-Ended-clause-terminal
returns-in_err-paint_line-in-Ok-Ended-clause-terminal g c =
    keeps_then g.T.Terminal.follows c.args.editor.now.terminal c.before-2.new.editor.terminal c.handle_event.new.self.terminal c.handle_event.new.self.terminal c.paint_line.new.self.terminal
    (ap (λ it. it.terminal) c.before-2.ensures.same) c.handle_event.ensures.terminal refl c.paint_line.ensures.terminal

pub returns-in_ok-paint_line-in-Ok-Ended-clause-terminal : goal.returns-in_ok-paint_line-in-Ok-Ended-clause-terminal
returns-in_ok-paint_line-in-Ok-Ended-clause-terminal g c =
    keeps_then g.T.Terminal.follows c.args.editor.now.terminal c.before-2.new.editor.terminal c.handle_event.new.self.terminal c.handle_event.new.self.terminal c.paint_line.new.self.terminal
    (ap (λ it. it.terminal) c.before-2.ensures.same) c.handle_event.ensures.terminal refl c.paint_line.ensures.terminal

pub returns-in_ok-show-in-Ok-Open-clause-ok : goal.returns-in_ok-show-in-Ok-Open-clause-ok
returns-in_ok-show-in-Ok-Open-clause-ok g c =
    let handled = frame g.T.Terminal.state g.H.LineEditorHost.value c.handle_event.new.self c.handle_event.new.host in
    let final = frame g.T.Terminal.state g.H.LineEditorHost.value c.show.new.editor c.show.new.host in
    let handles = subst (λ it. Handles g.H.LineEditorHost.rules (event_view c.args.event.now) (frame g.T.Terminal.state g.H.LineEditorHost.value it c.before-2.new.host) handled) c.before-2.ensures.same
    (c.in-Ok-Open.ensures.ok (subst (λ it. is_open it.session.state.mode ≡ true) (sym c.before-2.ensures.same) c.requires)) in
    let going = still_open _ (sym c.in-Ok-Open.ensures.status ∙ c.in-Ok-Open.field-0-is) in
    let shows = c.in_ok-show-in-Ok-Open.ensures.ok in (
      record {
        asked = g.H.LineEditorHost.value c.before-2.new.host;
        asks = (c.args.host.now, c.before-2.new.host, refl, refl, c.before-2.ensures.changes, c.in_ok-before.ensures.ok);
        handled = handled;
        handles = handles;
        shows = shown_as g.H.LineEditorHost.rules g.H.LineEditorHost.value g.K.Hook.rules true handled final going shows;
      },
      ap (λ state. is_open state.mode) (shown_state g.H.LineEditorHost.rules g.H.LineEditorHost.value g.K.Hook.rules handled final shows) ∙ going,
    )

pub returns-in_ok-paint_line-in-Ok-Ended-clause-ok : goal.returns-in_ok-paint_line-in-Ok-Ended-clause-ok
returns-in_ok-paint_line-in-Ok-Ended-clause-ok g c =
    let handled = frame g.T.Terminal.state g.H.LineEditorHost.value c.handle_event.new.self c.handle_event.new.host in
    let final = frame g.T.Terminal.state g.H.LineEditorHost.value c.paint_line.new.self c.handle_event.new.host in
    let asked = frame g.T.Terminal.state g.H.LineEditorHost.value c.args.editor.now c.before-2.new.host in
    let handles = subst (λ it. Handles g.H.LineEditorHost.rules (event_view c.args.event.now) (frame g.T.Terminal.state g.H.LineEditorHost.value it c.before-2.new.host) handled) c.before-2.ensures.same
    (c.in-Ok-Ended.ensures.ok (subst (λ it. is_open it.session.state.mode ≡ true) (sym c.before-2.ensures.same) c.requires)) in
    let begun = handled_begun g.H.LineEditorHost.rules (event_view c.args.event.now) asked handled c.requires handles in
    let over = not_open _ (sym c.in-Ok-Ended.ensures.status ∙ c.in-Ok-Ended.field-0-is) in
    let paints = c.in_ok-paint_line-in-Ok-Ended.ensures.ok begun in (
      record {
        asked = g.H.LineEditorHost.value c.before-2.new.host;
        asks = (c.args.host.now, c.before-2.new.host, refl, refl, c.before-2.ensures.changes, c.in_ok-before.ensures.ok);
        handled = handled;
        handles = handles;
        shows = shown_as g.H.LineEditorHost.rules g.H.LineEditorHost.value g.K.Hook.rules false handled final over paints;
      },
      ap (λ state. is_open state.mode) paints.state ∙ over,
      λ inactive. begun (ap (λ state. state.mode) (sym paints.state) ∙ inactive),
    )

pub returns-in-Err-EndOfFile-clause-ok : goal.returns-in-Err-EndOfFile-clause-ok
returns-in-Err-EndOfFile-clause-ok g c =
    let fails = FailsToHandle g.H.LineEditorHost.rules g.H.LineEditorHost.OVERRIDES (event_view c.args.event.now) in
    let asked = frame g.T.Terminal.state g.H.LineEditorHost.value c.args.editor.now c.before-2.new.host in
    let left = frame g.T.Terminal.state g.H.LineEditorHost.value c.handle_event.new.self c.handle_event.new.host in
    let closed = subst (λ it. IsClosedAfter fails (frame g.T.Terminal.state g.H.LineEditorHost.value it c.before-2.new.host) left EndOfFile) c.before-2.ensures.same (rw c.in-Err-EndOfFile.field-0-is at c.in-Err-EndOfFile.ensures.err) in
    let ends = closed_at_end fails asked left closed in
    record {
      asked = g.H.LineEditorHost.value c.before-2.new.host;
      asks = (c.args.host.now, c.before-2.new.host, refl, refl, c.before-2.ensures.changes, c.in_ok-before.ensures.ok);
      refused = ends.0;
      refuses = ends.1;
      closes = ends.2;
    }
