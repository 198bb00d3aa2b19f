use Rattle.std.proofs.Common.{rules, ◌+◌, arith, refl, ap, ◌∙◌}
use Rattle.std.proofs.lemmas.Result.{err_from_is_err_and}
use Rattle.tw_lineedit.specs.Frame.{frame}
use Rattle.tw_device.specs.Live.{taken_on}
use Rattle.tw_device.specs.Steps.{events_in, IsDueBy}
use Rattle.tw_device.proofs.InTimeLemmas.{goes_on, goes_still}
use Rattle.tw_device.proofs.LiveLemmas.{comes_still, comes_then, fails_then_by, stops_by, taken_from}
use Rattle.tw_device.proofs.reading.take_events.Goals as goal

pub loop-turn-init : goal.loop-turn-init
loop-turn-init g c =
    let log = g.D.Device.log in
    let old = c.args.editor.now.terminal.now in
    let f = frame g.D.Terminal.state g.H.LineEditorHost.value c.args.editor.now c.args.host.now in
    record {
      same_reference = refl;
      comes = comes_still g.H.LineEditorHost.rules g.H.LineEditorHost.OVERRIDES (events_in (log old)) (events_in (log old)) f f refl refl;
      count = omega arith;
      goes = goes_still g.D.Terminal.state log g.D.Device.law g.met.D.Device.law_joins (IsDueBy (taken_on g.H.LineEditorHost.rules f)) old (g.met.D.Device.law_stays old);
      still_open = c.requires;
    }

pub returns-in_err-stop-clause-err : goal.returns-in_err-stop-clause-err
returns-in_err-stop-clause-err g c =
    let p = err_from_is_err_and c.from_residual.result c.from_residual.ensures.1 in
    rw (p.1, p.2) (fails_then_by g.H.LineEditorHost.rules g.H.LineEditorHost.OVERRIDES _ _ _ _ _ _ _ c.loop-turn.invariant.comes c.in_err-stop.ensures.err)

pub returns-in_err-stop-clause-goes : goal.returns-in_err-stop-clause-goes
returns-in_err-stop-clause-goes g c =
    goes_on g.D.Terminal.state g.D.Device.log g.D.Device.law g.met.D.Device.law_joins _ _ _ c.loop-turn.editor.terminal.now _ c.loop-turn.invariant.goes c.take_event.ensures.goes
    (taken_from g.H.LineEditorHost.rules g.H.LineEditorHost.OVERRIDES _ _ _ _ c.loop-turn.invariant.comes)

pub returns-in-Some-clause-ok : goal.returns-in-Some-clause-ok
returns-in-Some-clause-ok g c =
    comes_then g.H.LineEditorHost.rules g.H.LineEditorHost.OVERRIDES _ _ _ _ _ _ c.loop-turn.invariant.comes c.in_ok-stop.ensures.ok

pub returns-in-Some-clause-stopped : goal.returns-in-Some-clause-stopped
returns-in-Some-clause-stopped g c =
    let stopped = rw c.in-Some.is at c.in_ok-stop.ensures.stopped in
    (stopped.0, stops_by c.in-Some.stop _ (g.D.Device.log c.loop-turn.editor.terminal.now) _ _ stopped.1)

pub returns-in-Some-clause-goes : goal.returns-in-Some-clause-goes
returns-in-Some-clause-goes g c =
    goes_on g.D.Terminal.state g.D.Device.log g.D.Device.law g.met.D.Device.law_joins _ _ _ c.loop-turn.editor.terminal.now _ c.loop-turn.invariant.goes c.take_event.ensures.goes
    (taken_from g.H.LineEditorHost.rules g.H.LineEditorHost.OVERRIDES _ _ _ _ c.loop-turn.invariant.comes)

pub loop-turn-preserved : goal.loop-turn-preserved
loop-turn-preserved g c =
    let stopped = rw c.in_default.is at c.in_ok-stop.ensures.stopped in
    record {
      same_reference = search rules;
      comes = comes_then g.H.LineEditorHost.rules g.H.LineEditorHost.OVERRIDES _ _ _ _ _ _ c.loop-turn.invariant.comes c.in_ok-stop.ensures.ok;
      count = stopped.1.1 ∙ ap (λ n. n + 1) c.loop-turn.invariant.count ∙ omega arith;
      goes = goes_on g.D.Terminal.state g.D.Device.log g.D.Device.law g.met.D.Device.law_joins _ _ _ c.loop-turn.editor.terminal.now _ c.loop-turn.invariant.goes c.take_event.ensures.goes
          (taken_from g.H.LineEditorHost.rules g.H.LineEditorHost.OVERRIDES _ _ _ _ c.loop-turn.invariant.comes);
      still_open = stopped.1.0;
    }
