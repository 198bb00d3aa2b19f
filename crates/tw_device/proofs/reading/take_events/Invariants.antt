use Rattle.std.proofs.Common.{◌≡◌, ◌+◌, length, true}
use Rattle.tw_lineedit.specs.Frame.{frame}
use Rattle.tw_lineedit.specs.Outcomes.{is_open}
use Rattle.tw_device.specs.Live.{taken_on, ComesBy}
use Rattle.tw_device.specs.Steps.{events_in, Goes, IsDueBy}
use Rattle.tw_device.proofs.reading.take_events.Given as goal

abbrev pub invariant-loop-turn : goal.invariant-loop-turn
invariant-loop-turn g l =
    let state = g.D.Terminal.state in
    let log = g.D.Device.log in
    let value = g.H.LineEditorHost.value in
    let before = frame state value l.fn.editor l.fn.host in
    let old = l.fn.editor.terminal.now in
    let new = l.editor.terminal.now in
    record {
      same_reference : l.editor.terminal.ghost_name ≡ l.fn.editor.terminal.ghost_name;
      comes : ComesBy g.H.LineEditorHost.rules g.H.LineEditorHost.OVERRIDES (events_in (log old)) (events_in (log new)) before (frame state value l.editor l.host);
      count : length (events_in (log new)) ≡ length (events_in (log old)) + l.turn;
      goes : Goes state log g.D.Device.law (IsDueBy (taken_on g.H.LineEditorHost.rules before)) old new;
      still_open : is_open l.editor.session.state.mode ≡ true;
    }
