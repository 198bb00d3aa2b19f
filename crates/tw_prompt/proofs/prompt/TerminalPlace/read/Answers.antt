use Rattle.std.proofs.Common.{inr}
use Rattle.tw_device.specs.Joined.{seen_of}
use Rattle.tw_prompt.specs.Places.{line_begun, IsReadFrom, IsRefusedFrom}
use Rattle.tw_prompt.proofs.PlaceLemmas.{read_from}
use Rattle.tw_prompt.proofs.prompt.TerminalPlace.read.Goals as goal

pub returns-in-Ok-clause-ok : goal.returns-in-Ok-clause-ok
returns-in-Ok-clause-ok g c =
    let state = g.T.Terminal.state in
    let value = g.H.LineEditorHost.value in
    let line = line_begun g.H.LineEditorHost.rules g.H.LineEditorHost.OVERRIDES c.args.prompt.now (value c.args.host.now) in
    read_from IsReadFrom line (seen_of state c.args.self.now.device) (seen_of state c.begin.new.self.device) (seen_of state c.read_line_from.new.device)
    (value c.read_line_from.new.host) c.in-Ok.answer c.begin.ensures c.in-Ok.ensures.ok

pub returns-in-Err-clause-err : goal.returns-in-Err-clause-err
returns-in-Err-clause-err g c =
    let state = g.T.Terminal.state in
    let value = g.H.LineEditorHost.value in
    let line = line_begun g.H.LineEditorHost.rules g.H.LineEditorHost.OVERRIDES c.args.prompt.now (value c.args.host.now) in
    inr (
      c.in-Err.error,
      read_from IsRefusedFrom line (seen_of state c.args.self.now.device) (seen_of state c.begin.new.self.device) (seen_of state c.read_line_from.new.device)
          (value c.read_line_from.new.host) c.in-Err.error c.begin.ensures c.in-Err.ensures.err,
    )
