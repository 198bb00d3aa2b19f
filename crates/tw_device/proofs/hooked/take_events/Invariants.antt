use Rattle.std.proofs.Common.{◌≡◌, true}
use Rattle.tw_lineedit.specs.Frame.{frame}
use Rattle.tw_lineedit.specs.Outcomes.{is_open}
use Rattle.tw_device.specs.Hooked.{TakesOn}
use Rattle.tw_device.specs.Steps.{seen_at, Goes}
use Rattle.tw_device.proofs.HookedLemmas.{TurnsBy}
use Rattle.tw_device.proofs.hooked.take_events.Given as goal

abbrev pub invariant-loop : goal.invariant-loop
invariant-loop g l =
    let state = g.D.Terminal.state in
    let log = g.D.Device.log in
    let value = g.H.LineEditorHost.value in
    let old = l.fn.editor.terminal.now in
    let new = l.editor.terminal.now in
    record {
      same_reference : l.editor.terminal.ghost_name ≡ l.fn.editor.terminal.ghost_name;
      goes : Goes state log g.D.Device.law (TakesOn g.H.LineEditorHost.rules value g.K.Hook.rules (frame state value l.fn.editor l.fn.host)) old new;
      turns : TurnsBy g.H.LineEditorHost.rules g.H.LineEditorHost.OVERRIDES value g.K.Hook.rules (seen_at state log old) (seen_at state log new) (frame state value l.fn.editor l.fn.host) (frame state value l.editor l.host);
      still_open : is_open l.editor.session.state.mode ≡ true;
    }
