use Rattle.std.proofs.Common.{rules, length, ◌++◌, ◌∷◌, [], Ok, Err, Some, None, ap, sym, ◌∙◌, refl}
use Rattle.std.proofs.lemmas.List.{append-nil, length-append}
use Rattle.std.proofs.lemmas.Result.{err_from_is_err_and}
use Rattle.tw_input.specs.EventView.{EventView, event_view}
use Rattle.tw_lineedit.specs.Frame.{frame}
use Rattle.tw_lineedit.specs.Outcomes.{is_open}
use Rattle.tw_device.specs.Live.{taken_on}
use Rattle.tw_device.specs.Steps.{seen_at, events_in, IsDueBy}
use Rattle.tw_device.proofs.InTimeLemmas.{answered_last, goes_feeding, told_asked, told_feeding}
use Rattle.tw_device.proofs.LiveLemmas.{comes_fed, comes_still, frame_as, refused_fed, still_open}
use Rattle.tw_device.proofs.reading.take_event.Goals as goal

pub returns-in_err-feed-in-Ok-Some-clause-err : goal.returns-in_err-feed-in-Ok-Some-clause-err
returns-in_err-feed-in-Ok-Some-clause-err g c =
    let p = err_from_is_err_and c.from_residual.result c.from_residual.ensures.1 in
    let f = frame g.D.Terminal.state g.H.LineEditorHost.value c.args.editor.now c.args.host.now in
    let event : EventView = event_view c.in-Ok-Some.event in
    let asks = rw c.in-Ok-Some.field-0-is at c.in-Ok-Some.ensures.asks in
    let sized = frame_as c.args.editor.now.session _ (g.H.LineEditorHost.value c.args.host.now) _ _ c.ask.ensures.session asks.terminal in
    rw (p.1, p.2) (
      event ∷ [],
      told_feeding g.D.Terminal.state g.D.Device.log g.D.Device.law g.D.Terminal.follows g.met.D.Device.call_notes g.met.D.Device.call_law g.met.D.Device.law_stays g.met.D.Device.law_joins (Ok (Some c.in-Ok-Some.event)) _ _ _ asks c.feed.ensures.terminal.1,
      refused_fed g.H.LineEditorHost.rules g.H.LineEditorHost.OVERRIDES event f (frame g.D.Terminal.state g.H.LineEditorHost.value c.ask.new.editor c.args.host.now) (frame g.D.Terminal.state g.H.LineEditorHost.value c.feed.new.self c.feed.new.host) c.in_err-feed-in-Ok-Some.field-0.0
          c.requires (g.met.D.Device.no_event c.args.editor.now.terminal.now) sized c.in_err-feed-in-Ok-Some.ensures.err,
    )

pub returns-in_err-feed-in-Ok-Some-clause-goes : goal.returns-in_err-feed-in-Ok-Some-clause-goes
returns-in_err-feed-in-Ok-Some-clause-goes g c =
    goes_feeding g.D.Terminal.state g.D.Device.log g.D.Device.law g.D.Terminal.follows g.met.D.Device.call_notes g.met.D.Device.call_law g.met.D.Device.law_stays g.met.D.Device.law_joins (IsDueBy (taken_on g.H.LineEditorHost.rules (frame g.D.Terminal.state g.H.LineEditorHost.value c.args.editor.now c.args.host.now))) (Ok (Some c.in-Ok-Some.event)) _ _ _
    (rw c.in-Ok-Some.field-0-is at c.in-Ok-Some.ensures.asks) c.ask.ensures.law c.feed.ensures.terminal.1 refl

pub returns-in-Open-clause-goes : goal.returns-in-Open-clause-goes
returns-in-Open-clause-goes g c =
    goes_feeding g.D.Terminal.state g.D.Device.log g.D.Device.law g.D.Terminal.follows g.met.D.Device.call_notes g.met.D.Device.call_law g.met.D.Device.law_stays g.met.D.Device.law_joins (IsDueBy (taken_on g.H.LineEditorHost.rules (frame g.D.Terminal.state g.H.LineEditorHost.value c.args.editor.now c.args.host.now))) (Ok (Some c.in-Ok-Some.event)) _ _ _
    (rw c.in-Ok-Some.field-0-is at c.in-Ok-Some.ensures.asks) c.ask.ensures.law c.feed.ensures.terminal.1 refl

pub returns-in-Ok-Some-clause-goes : goal.returns-in-Ok-Some-clause-goes
returns-in-Ok-Some-clause-goes g c =
    goes_feeding g.D.Terminal.state g.D.Device.log g.D.Device.law g.D.Terminal.follows g.met.D.Device.call_notes g.met.D.Device.call_law g.met.D.Device.law_stays g.met.D.Device.law_joins (IsDueBy (taken_on g.H.LineEditorHost.rules (frame g.D.Terminal.state g.H.LineEditorHost.value c.args.editor.now c.args.host.now))) (Ok (Some c.in-Ok-Some.event)) _ _ _
    (rw c.in-Ok-Some.field-0-is at c.in-Ok-Some.ensures.asks) c.ask.ensures.law c.feed.ensures.terminal.1 refl

pub returns-in-Open-clause-ok : goal.returns-in-Open-clause-ok
returns-in-Open-clause-ok g c =
    let f = frame g.D.Terminal.state g.H.LineEditorHost.value c.args.editor.now c.args.host.now in
    let event : EventView = event_view c.in-Ok-Some.event in
    let asks = rw c.in-Ok-Some.field-0-is at c.in-Ok-Some.ensures.asks in
    let sized = frame_as c.args.editor.now.session _ (g.H.LineEditorHost.value c.args.host.now) _ _ c.ask.ensures.session asks.terminal in (
      event ∷ [],
      told_feeding g.D.Terminal.state g.D.Device.log g.D.Device.law g.D.Terminal.follows g.met.D.Device.call_notes g.met.D.Device.call_law g.met.D.Device.law_stays g.met.D.Device.law_joins (Ok (Some c.in-Ok-Some.event)) _ _ _ asks c.feed.ensures.terminal.1,
      comes_fed g.H.LineEditorHost.rules g.H.LineEditorHost.OVERRIDES event f (frame g.D.Terminal.state g.H.LineEditorHost.value c.ask.new.editor c.args.host.now) (frame g.D.Terminal.state g.H.LineEditorHost.value c.feed.new.self c.feed.new.host) c.requires sized c.in_ok-feed-in-Ok-Some.ensures.ok,
    )

pub returns-in-Ok-Some-clause-ok : goal.returns-in-Ok-Some-clause-ok
returns-in-Ok-Some-clause-ok g c =
    let f = frame g.D.Terminal.state g.H.LineEditorHost.value c.args.editor.now c.args.host.now in
    let event : EventView = event_view c.in-Ok-Some.event in
    let asks = rw c.in-Ok-Some.field-0-is at c.in-Ok-Some.ensures.asks in
    let sized = frame_as c.args.editor.now.session _ (g.H.LineEditorHost.value c.args.host.now) _ _ c.ask.ensures.session asks.terminal in (
      event ∷ [],
      told_feeding g.D.Terminal.state g.D.Device.log g.D.Device.law g.D.Terminal.follows g.met.D.Device.call_notes g.met.D.Device.call_law g.met.D.Device.law_stays g.met.D.Device.law_joins (Ok (Some c.in-Ok-Some.event)) _ _ _ asks c.feed.ensures.terminal.1,
      comes_fed g.H.LineEditorHost.rules g.H.LineEditorHost.OVERRIDES event f (frame g.D.Terminal.state g.H.LineEditorHost.value c.ask.new.editor c.args.host.now) (frame g.D.Terminal.state g.H.LineEditorHost.value c.feed.new.self c.feed.new.host) c.requires sized c.in_ok-feed-in-Ok-Some.ensures.ok,
    )

pub returns-in-Open-clause-stopped : goal.returns-in-Open-clause-stopped
returns-in-Open-clause-stopped g c =
    let asks = rw c.in-Ok-Some.field-0-is at c.in-Ok-Some.ensures.asks in
    let told = told_feeding g.D.Terminal.state g.D.Device.log g.D.Device.law g.D.Terminal.follows g.met.D.Device.call_notes g.met.D.Device.call_law g.met.D.Device.law_stays g.met.D.Device.law_joins (Ok (Some c.in-Ok-Some.event)) _ _ _ asks c.feed.ensures.terminal.1 in
    (search rules, (still_open _ (sym c.in_ok-feed-in-Ok-Some.ensures.status ∙ c.in-Open.is), ap length told ∙ length-append (events_in (g.D.Device.log c.args.editor.now.terminal.now)) (event_view c.in-Ok-Some.event ∷ [])))

pub returns-in-Ok-None-clause-ok : goal.returns-in-Ok-None-clause-ok
returns-in-Ok-None-clause-ok g c =
    let f = frame g.D.Terminal.state g.H.LineEditorHost.value c.args.editor.now c.args.host.now in
    let asks = (rw c.in-Ok-None.field-0-is at c.in-Ok-None.ensures.asks) in
    comes_still g.H.LineEditorHost.rules g.H.LineEditorHost.OVERRIDES _ _ f _ (frame_as c.args.editor.now.session _ (g.H.LineEditorHost.value c.args.host.now) _ _ c.ask.ensures.session asks.terminal) (told_asked (Ok None) _ _ asks ∙ append-nil (events_in (g.D.Device.log c.args.editor.now.terminal.now)))

pub returns-in-Ok-None-clause-stopped : goal.returns-in-Ok-None-clause-stopped
returns-in-Ok-None-clause-stopped g c = (search rules, (ap (λ it. is_open it.state.mode) c.ask.ensures.session ∙ c.requires, answered_last (Ok None) _ _ (rw c.in-Ok-None.field-0-is at c.in-Ok-None.ensures.asks)))

pub returns-in-Ok-None-clause-goes : goal.returns-in-Ok-None-clause-goes
returns-in-Ok-None-clause-goes g c =
    goes_feeding g.D.Terminal.state g.D.Device.log g.D.Device.law g.D.Terminal.follows g.met.D.Device.call_notes g.met.D.Device.call_law g.met.D.Device.law_stays g.met.D.Device.law_joins (IsDueBy (taken_on g.H.LineEditorHost.rules (frame g.D.Terminal.state g.H.LineEditorHost.value c.args.editor.now c.args.host.now))) (Ok None) _ _ _ (rw c.in-Ok-None.field-0-is at c.in-Ok-None.ensures.asks) c.ask.ensures.law ([], refl) refl

pub returns-clause-ok : goal.returns-clause-ok
returns-clause-ok g c =
    let f = frame g.D.Terminal.state g.H.LineEditorHost.value c.args.editor.now c.args.host.now in
    let asks = c.in-Err.ensures.asks in
    comes_still g.H.LineEditorHost.rules g.H.LineEditorHost.OVERRIDES _ _ f _ (frame_as c.args.editor.now.session _ (g.H.LineEditorHost.value c.args.host.now) _ _ c.ask.ensures.session asks.terminal) (told_asked (Err c.in-Err.fault) _ _ asks ∙ append-nil (events_in (g.D.Device.log c.args.editor.now.terminal.now)))

pub returns-clause-stopped : goal.returns-clause-stopped
returns-clause-stopped g c = (search rules, (ap (λ it. is_open it.state.mode) c.ask.ensures.session ∙ c.requires, answered_last (Err c.in-Err.fault) _ _ c.in-Err.ensures.asks))

pub returns-clause-goes : goal.returns-clause-goes
returns-clause-goes g c =
    goes_feeding g.D.Terminal.state g.D.Device.log g.D.Device.law g.D.Terminal.follows g.met.D.Device.call_notes g.met.D.Device.call_law g.met.D.Device.law_stays g.met.D.Device.law_joins (IsDueBy (taken_on g.H.LineEditorHost.rules (frame g.D.Terminal.state g.H.LineEditorHost.value c.args.editor.now c.args.host.now))) (Err c.in-Err.fault) _ _ _ c.in-Err.ensures.asks c.ask.ensures.law ([], refl) refl
