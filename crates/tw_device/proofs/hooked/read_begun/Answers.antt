use Rattle.std.proofs.Common.{rules, refl}
use Rattle.tw_lineedit.proofs.ClosingLemmas.{reads_with}
use Rattle.tw_lineedit.proofs.FeedingLemmas.{open_is_begun}
use Rattle.tw_lineedit.specs.Frame.{frame, own_frame}
use Rattle.tw_device.specs.Steps.{seen_at}
use Rattle.tw_device.specs.declared.hooked.End.TheVariants.{Input, Line, Source}
use Rattle.tw_device.proofs.HookedLemmas.{ends_between}
use Rattle.tw_device.proofs.InTimeLemmas.{answered_calls, goes_closed, told_calls}
use Rattle.tw_device.proofs.hooked.read_begun.Goals as goal

pub returns-in-Ok-Input-clause-ok : goal.returns-in-Ok-Input-clause-ok
returns-in-Ok-Input-clause-ok g c =
    record { stop = Input; last = frame g.D.Terminal.state g.H.LineEditorHost.value c.take_events.new.editor c.take_events.new.host; ends = rw c.in-Ok-Input.field-0-is at c.in-Ok-Input.ensures.ok; answers = (search rules, refl) }

pub returns-in_ok-finish-in-Ok-Line : goal.returns-in_ok-finish-in-Ok-Line
returns-in_ok-finish-in-Ok-Line g c =
    let old = (seen_at g.D.Terminal.state g.D.Device.log c.args.editor.now.terminal.now) in
    let is = (seen_at g.D.Terminal.state g.D.Device.log c.take_events.new.editor.terminal.now) in
    let new = (seen_at g.D.Terminal.state g.D.Device.log c.finish.new.editor.terminal.now) in
    let f = (frame g.D.Terminal.state g.H.LineEditorHost.value c.args.editor.now c.args.host.now) in
    let last = (frame g.D.Terminal.state g.H.LineEditorHost.value c.take_events.new.editor c.take_events.new.host) in
    let ends = rw c.in-Ok-Line.field-0-is at c.in-Ok-Line.ensures.ok in
    record {
      same_reference = search rules;
      ok = record {
        stop = Line;
        last = last;
        ends = ends_between g.H.LineEditorHost.rules g.H.LineEditorHost.OVERRIDES g.H.LineEditorHost.value g.K.Hook.rules Line old is new f last (told_calls is new c.finish.ensures.calls.notes) (answered_calls is new c.finish.ensures.calls.notes) ends;
        answers = (
          c.in_ok-finish-in-Ok-Line.field-0,
          reads_with (g.H.LineEditorHost.value c.take_events.new.host) (own_frame g.D.Terminal.state c.take_events.new.editor) (own_frame g.D.Terminal.state c.finish.new.editor) _ (c.in_ok-finish-in-Ok-Line.ensures.ok ends.2.2),
          c.answer_of.ensures,
        );
      };
      goes = goes_closed g.D.Terminal.state g.D.Device.log g.D.Device.law g.met.D.Device.law_joins _ _ c.take_events.new.editor.terminal.now _ c.take_events.ensures.goes c.finish.ensures.calls;
    }

pub returns-in_ok-finish-in-Ok-Source : goal.returns-in_ok-finish-in-Ok-Source
returns-in_ok-finish-in-Ok-Source g c =
    let old = (seen_at g.D.Terminal.state g.D.Device.log c.args.editor.now.terminal.now) in
    let is = (seen_at g.D.Terminal.state g.D.Device.log c.take_events.new.editor.terminal.now) in
    let new = (seen_at g.D.Terminal.state g.D.Device.log c.finish-in-Ok-Source.new.editor.terminal.now) in
    let f = (frame g.D.Terminal.state g.H.LineEditorHost.value c.args.editor.now c.args.host.now) in
    let last = (frame g.D.Terminal.state g.H.LineEditorHost.value c.take_events.new.editor c.take_events.new.host) in
    let ends = rw c.in-Ok-Source.field-0-is at c.in-Ok-Source.ensures.ok in
    record {
      same_reference = search rules;
      ok = record {
        stop = Source;
        last = last;
        ends = ends_between g.H.LineEditorHost.rules g.H.LineEditorHost.OVERRIDES g.H.LineEditorHost.value g.K.Hook.rules Source old is new f last (told_calls is new c.finish-in-Ok-Source.ensures.calls.notes) (answered_calls is new c.finish-in-Ok-Source.ensures.calls.notes) ends;
        answers = (
          c.in_ok-finish-in-Ok-Source.field-0,
          reads_with (g.H.LineEditorHost.value c.take_events.new.host) (own_frame g.D.Terminal.state c.take_events.new.editor) (own_frame g.D.Terminal.state c.finish-in-Ok-Source.new.editor) _ (c.in_ok-finish-in-Ok-Source.ensures.ok (open_is_begun _ ends.2.1)),
          search rules,
        );
      };
      goes = goes_closed g.D.Terminal.state g.D.Device.log g.D.Device.law g.met.D.Device.law_joins _ _ c.take_events.new.editor.terminal.now _ c.take_events.ensures.goes c.finish-in-Ok-Source.ensures.calls;
    }

pub returns-in_err-finish-in-Ok-Line-clause-goes : goal.returns-in_err-finish-in-Ok-Line-clause-goes
returns-in_err-finish-in-Ok-Line-clause-goes g c =
    goes_closed g.D.Terminal.state g.D.Device.log g.D.Device.law g.met.D.Device.law_joins _ _ c.take_events.new.editor.terminal.now _ c.take_events.ensures.goes c.finish.ensures.calls

pub returns-in_err-finish-in-Ok-Source-clause-goes : goal.returns-in_err-finish-in-Ok-Source-clause-goes
returns-in_err-finish-in-Ok-Source-clause-goes g c =
    goes_closed g.D.Terminal.state g.D.Device.log g.D.Device.law g.met.D.Device.law_joins _ _ c.take_events.new.editor.terminal.now _ c.take_events.ensures.goes c.finish-in-Ok-Source.ensures.calls

pub returns-in-Err-clause-goes : goal.returns-in-Err-clause-goes
returns-in-Err-clause-goes g c =
    goes_closed g.D.Terminal.state g.D.Device.log g.D.Device.law g.met.D.Device.law_joins _ _ c.take_events.new.editor.terminal.now _ c.take_events.ensures.goes c.finish-closed.ensures.calls
