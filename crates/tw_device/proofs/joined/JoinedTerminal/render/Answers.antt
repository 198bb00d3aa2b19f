use Rattle.tw_surface.specs.ChangeView.{batch_view}
use Rattle.tw_terminal.specs.Uses.{Refused}
use Rattle.tw_device.proofs.JoinedLemmas.{follows_refused, follows_sent, follows_took, on_err}
use Rattle.tw_device.proofs.joined.JoinedTerminal.render.Goals as goal

pub returns-in_err-take-clause-refused : goal.returns-in_err-take-clause-refused
returns-in_err-take-clause-refused g c =
    on_err c.from_residual.result
    (follows_refused g.S.EventSource.told g.S.EventSource.follows g.T.Terminal.state g.T.DeviceTerminal.keeps g.T.DeviceTerminal.does
    Refused c.args.self.now c.take.new.self c.in_err-take.ensures.err c.in_err-take.ensures.untaken)

pub returns-then-not-may_keep-clause-took : goal.returns-then-not-may_keep-clause-took
returns-then-not-may_keep-clause-took g c =
    follows_sent g.S.EventSource.told g.S.EventSource.follows g.T.Terminal.state g.T.DeviceTerminal.keeps g.T.DeviceTerminal.does
    (batch_view c.args.changes.now) c.args.self.now c.take.new.self c.note_sent.new.self c.in_ok-take.ensures.ok c.in_ok-take.ensures.renders c.note_sent.ensures.leads c.note_sent.ensures.kept.1

pub returns-else-not-may_keep-clause-took : goal.returns-else-not-may_keep-clause-took
returns-else-not-may_keep-clause-took g c =
    follows_took g.S.EventSource.told g.S.EventSource.follows g.T.Terminal.state g.T.DeviceTerminal.keeps g.T.DeviceTerminal.does
    (batch_view c.args.changes.now) c.args.self.now c.take.new.self c.in_ok-take.ensures.ok c.in_ok-take.ensures.renders
