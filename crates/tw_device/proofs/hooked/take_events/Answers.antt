use Rattle.std.proofs.Common.{rules, ◌∙◌, Ok, Some, None, [], refl}
use Rattle.std.proofs.lemmas.List.{append-nil}
use Rattle.tw_input.specs.EventView.{event_view}
use Rattle.tw_lineedit.specs.Frame.{frame}
use Rattle.tw_device.specs.Steps.{seen_at}
use Rattle.tw_device.proofs.HookedLemmas.{ends_on, ends_source, goes_turn, turns_on}
use Rattle.tw_device.proofs.InTimeLemmas.{answered_last, goes_still, told_asked, told_feeding}
use Rattle.tw_device.proofs.LiveLemmas.{frame_as}
use Rattle.tw_device.proofs.hooked.take_events.Goals as goal

pub loop-init : goal.loop-init
loop-init g c =
    record {
      same_reference = refl;
      goes = goes_still g.D.Terminal.state g.D.Device.log g.D.Device.law g.met.D.Device.law_joins _ c.args.editor.now.terminal.now (g.met.D.Device.law_stays c.args.editor.now.terminal.now);
      turns = search rules;
      still_open = c.requires;
    }

pub returns-in_err-event-clause-goes : goal.returns-in_err-event-clause-goes
returns-in_err-event-clause-goes g c =
    goes_turn g.H.LineEditorHost.rules g.H.LineEditorHost.OVERRIDES g.H.LineEditorHost.value g.K.Hook.rules g.D.Terminal.state g.D.Device.log g.D.Device.law g.D.Terminal.follows g.met.D.Device.call_notes g.met.D.Device.call_law g.met.D.Device.law_stays g.met.D.Device.law_joins c.ask.result c.args.editor.now.terminal.now c.loop.editor.terminal.now c.ask.new.editor.terminal.now _
    (frame g.D.Terminal.state g.H.LineEditorHost.value c.args.editor.now c.args.host.now) (frame g.D.Terminal.state g.H.LineEditorHost.value c.loop.editor c.loop.host) refl c.loop.invariant.goes c.loop.invariant.turns c.ask.ensures.asks c.ask.ensures.law ([], refl)

pub returns-in_default-clause-goes : goal.returns-in_default-clause-goes
returns-in_default-clause-goes g c =
    goes_turn g.H.LineEditorHost.rules g.H.LineEditorHost.OVERRIDES g.H.LineEditorHost.value g.K.Hook.rules g.D.Terminal.state g.D.Device.log g.D.Device.law g.D.Terminal.follows g.met.D.Device.call_notes g.met.D.Device.call_law g.met.D.Device.law_stays g.met.D.Device.law_joins c.ask.result c.args.editor.now.terminal.now c.loop.editor.terminal.now c.ask.new.editor.terminal.now _
    (frame g.D.Terminal.state g.H.LineEditorHost.value c.args.editor.now c.args.host.now) (frame g.D.Terminal.state g.H.LineEditorHost.value c.loop.editor c.loop.host) refl c.loop.invariant.goes c.loop.invariant.turns c.ask.ensures.asks c.ask.ensures.law ([], refl)

pub returns-in_default-clause-ok : goal.returns-in_default-clause-ok
returns-in_default-clause-ok g c =
    let asks = rw c.in_default.is at c.in_ok-event.ensures.asks in
    ends_source g.H.LineEditorHost.rules g.H.LineEditorHost.OVERRIDES g.H.LineEditorHost.value g.K.Hook.rules (seen_at g.D.Terminal.state g.D.Device.log c.args.editor.now.terminal.now) (seen_at g.D.Terminal.state g.D.Device.log c.loop.editor.terminal.now) (seen_at g.D.Terminal.state g.D.Device.log c.ask.new.editor.terminal.now) (frame g.D.Terminal.state g.H.LineEditorHost.value c.args.editor.now c.args.host.now) (frame g.D.Terminal.state g.H.LineEditorHost.value c.loop.editor c.loop.host) c.loop.invariant.turns c.loop.invariant.still_open (frame g.D.Terminal.state g.H.LineEditorHost.value c.ask.new.editor c.loop.host)
    (frame_as c.loop.editor.session _ (g.H.LineEditorHost.value c.loop.host) _ _ c.ask.ensures.session asks.terminal)
    (told_asked (Ok None) (seen_at g.D.Terminal.state g.D.Device.log c.loop.editor.terminal.now) (seen_at g.D.Terminal.state g.D.Device.log c.ask.new.editor.terminal.now) asks ∙ append-nil _) (answered_last (Ok None) (seen_at g.D.Terminal.state g.D.Device.log c.loop.editor.terminal.now) (seen_at g.D.Terminal.state g.D.Device.log c.ask.new.editor.terminal.now) asks)

pub returns-in_err-stop-clause-goes : goal.returns-in_err-stop-clause-goes
returns-in_err-stop-clause-goes g c =
    goes_turn g.H.LineEditorHost.rules g.H.LineEditorHost.OVERRIDES g.H.LineEditorHost.value g.K.Hook.rules g.D.Terminal.state g.D.Device.log g.D.Device.law g.D.Terminal.follows g.met.D.Device.call_notes g.met.D.Device.call_law g.met.D.Device.law_stays g.met.D.Device.law_joins c.ask.result c.args.editor.now.terminal.now c.loop.editor.terminal.now c.ask.new.editor.terminal.now _
    (frame g.D.Terminal.state g.H.LineEditorHost.value c.args.editor.now c.args.host.now) (frame g.D.Terminal.state g.H.LineEditorHost.value c.loop.editor c.loop.host) refl c.loop.invariant.goes c.loop.invariant.turns c.ask.ensures.asks c.ask.ensures.law c.feed.ensures.terminal.1

pub returns-in-Some-2-clause-goes : goal.returns-in-Some-2-clause-goes
returns-in-Some-2-clause-goes g c =
    goes_turn g.H.LineEditorHost.rules g.H.LineEditorHost.OVERRIDES g.H.LineEditorHost.value g.K.Hook.rules g.D.Terminal.state g.D.Device.log g.D.Device.law g.D.Terminal.follows g.met.D.Device.call_notes g.met.D.Device.call_law g.met.D.Device.law_stays g.met.D.Device.law_joins c.ask.result c.args.editor.now.terminal.now c.loop.editor.terminal.now c.ask.new.editor.terminal.now _
    (frame g.D.Terminal.state g.H.LineEditorHost.value c.args.editor.now c.args.host.now) (frame g.D.Terminal.state g.H.LineEditorHost.value c.loop.editor c.loop.host) refl c.loop.invariant.goes c.loop.invariant.turns c.ask.ensures.asks c.ask.ensures.law c.feed.ensures.terminal.1

pub returns-in-Some-2-clause-ok : goal.returns-in-Some-2-clause-ok
returns-in-Some-2-clause-ok g c =
    let asks = rw c.in-Some.is at c.in_ok-event.ensures.asks in
    ends_on g.H.LineEditorHost.rules g.H.LineEditorHost.OVERRIDES g.H.LineEditorHost.value g.K.Hook.rules (seen_at g.D.Terminal.state g.D.Device.log c.args.editor.now.terminal.now) (seen_at g.D.Terminal.state g.D.Device.log c.loop.editor.terminal.now) (seen_at g.D.Terminal.state g.D.Device.log c.feed.new.editor.terminal.now) (frame g.D.Terminal.state g.H.LineEditorHost.value c.args.editor.now c.args.host.now) (frame g.D.Terminal.state g.H.LineEditorHost.value c.loop.editor c.loop.host) c.loop.invariant.turns c.loop.invariant.still_open (event_view c.in-Some.event) (frame g.D.Terminal.state g.H.LineEditorHost.value c.ask.new.editor c.loop.host) (frame g.D.Terminal.state g.H.LineEditorHost.value c.feed.new.editor c.feed.new.host)
    (frame_as c.loop.editor.session _ (g.H.LineEditorHost.value c.loop.host) _ _ c.ask.ensures.session asks.terminal)
    (told_feeding g.D.Terminal.state g.D.Device.log g.D.Device.law g.D.Terminal.follows g.met.D.Device.call_notes g.met.D.Device.call_law g.met.D.Device.law_stays g.met.D.Device.law_joins (Ok (Some c.in-Some.event)) c.loop.editor.terminal.now c.ask.new.editor.terminal.now c.feed.new.editor.terminal.now asks c.feed.ensures.terminal.1) c.in-Some-2.stop (rw c.in-Some-2.is at c.in_ok-stop.ensures.ok)

pub loop-preserved : goal.loop-preserved
loop-preserved g c =
    let asks = rw c.in-Some.is at c.in_ok-event.ensures.asks in
    let fed = rw c.in_default-2.is at c.in_ok-stop.ensures.ok in
    record {
      same_reference = search rules;
      goes = goes_turn g.H.LineEditorHost.rules g.H.LineEditorHost.OVERRIDES g.H.LineEditorHost.value g.K.Hook.rules g.D.Terminal.state g.D.Device.log g.D.Device.law g.D.Terminal.follows g.met.D.Device.call_notes g.met.D.Device.call_law g.met.D.Device.law_stays g.met.D.Device.law_joins c.ask.result c.args.editor.now.terminal.now c.loop.editor.terminal.now c.ask.new.editor.terminal.now _
          (frame g.D.Terminal.state g.H.LineEditorHost.value c.args.editor.now c.args.host.now) (frame g.D.Terminal.state g.H.LineEditorHost.value c.loop.editor c.loop.host) refl c.loop.invariant.goes c.loop.invariant.turns c.ask.ensures.asks c.ask.ensures.law c.feed.ensures.terminal.1;
      turns = turns_on g.H.LineEditorHost.rules g.H.LineEditorHost.OVERRIDES g.H.LineEditorHost.value g.K.Hook.rules (seen_at g.D.Terminal.state g.D.Device.log c.args.editor.now.terminal.now) (seen_at g.D.Terminal.state g.D.Device.log c.loop.editor.terminal.now) (seen_at g.D.Terminal.state g.D.Device.log c.feed.new.editor.terminal.now) (frame g.D.Terminal.state g.H.LineEditorHost.value c.args.editor.now c.args.host.now) (frame g.D.Terminal.state g.H.LineEditorHost.value c.loop.editor c.loop.host) c.loop.invariant.turns c.loop.invariant.still_open (event_view c.in-Some.event) (frame g.D.Terminal.state g.H.LineEditorHost.value c.ask.new.editor c.loop.host) (frame g.D.Terminal.state g.H.LineEditorHost.value c.feed.new.editor c.feed.new.host)
          (frame_as c.loop.editor.session _ (g.H.LineEditorHost.value c.loop.host) _ _ c.ask.ensures.session asks.terminal)
          (told_feeding g.D.Terminal.state g.D.Device.log g.D.Device.law g.D.Terminal.follows g.met.D.Device.call_notes g.met.D.Device.call_law g.met.D.Device.law_stays g.met.D.Device.law_joins (Ok (Some c.in-Some.event)) c.loop.editor.terminal.now c.ask.new.editor.terminal.now c.feed.new.editor.terminal.now asks c.feed.ensures.terminal.1) fed;
      still_open = fed.1;
    }
