use Rattle.std.proofs.Common.{[], ◌∷◌, ap, refl}
use Rattle.tw_terminal.specs.TerminalState.{TerminalState}
use Rattle.tw_terminal.specs.Uses.{Other}
use Rattle.tw_device.specs.Deeds.{Called}
use Rattle.tw_device.specs.Steps.{Sent}
use Rattle.tw_device.proofs.JoinedLemmas.{leads_refused, leads_sent}
use Rattle.tw_device.proofs.StepLemmas.{unsent_next}
use Rattle.tw_device.proofs.joined.Joined.settle.Goals as goal

pub returns-in-Ok-clause-ok : goal.returns-in-Ok-clause-ok
returns-in-Ok-clause-ok g c =
    leads_sent g.S.EventSource.told g.S.EventSource.follows g.T.Terminal.state g.T.DeviceTerminal.keeps g.T.DeviceTerminal.does
    c.args.self.now c.settle.new.self c.note_sent.new.self c.note_sent.ensures (Called Other ∷ [], refl, (c.settle.new.self, c.in-Ok.ensures.sent, refl))
    c.settle.ensures.state c.settle.ensures.settled

pub returns-in-Ok-clause-sent : goal.returns-in-Ok-clause-sent
returns-in-Ok-clause-sent g c = unsent_next c.args.self.now.log c.note_sent.new.self Sent c.note_sent.ensures

pub returns-in-Err-clause-err : goal.returns-in-Err-clause-err
returns-in-Err-clause-err g c =
    leads_refused g.S.EventSource.told g.S.EventSource.follows g.T.Terminal.state g.T.DeviceTerminal.keeps g.T.DeviceTerminal.does
    c.args.self.now c.settle.new.self c.note_refused.new.self c.note_refused.ensures
    (ap (λ (t : TerminalState). t.flushed) c.settle.ensures.state) (ap (λ (t : TerminalState). t.batches) c.settle.ensures.state)
    (λ none. c.settle.ensures.settled)
