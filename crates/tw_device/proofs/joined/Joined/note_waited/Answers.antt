use Rattle.tw_device.proofs.JoinedLemmas.{leads_waited}
use Rattle.tw_device.proofs.joined.Joined.note_waited.Goals as goal

pub returns-clause-leads : goal.returns-clause-leads
returns-clause-leads g c =
    leads_waited g.S.EventSource.told g.S.EventSource.follows g.T.Terminal.state g.T.DeviceTerminal.keeps g.T.DeviceTerminal.does
    c.args.self.now c.note_waited.new.self c.note_waited.ensures c.requires.sent c.requires.settled
