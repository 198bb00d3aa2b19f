use Rattle.std.proofs.Common.{[], refl}
use Rattle.tw_device.proofs.JoinedLemmas.{leads_sent}
use Rattle.tw_device.proofs.joined.Joined.note_sent.Goals as goal

pub returns-clause-leads : goal.returns-clause-leads
returns-clause-leads g c =
    leads_sent g.S.EventSource.told g.S.EventSource.follows g.T.Terminal.state g.T.DeviceTerminal.keeps g.T.DeviceTerminal.does
    c.args.self.now c.args.self.now.terminal c.note_sent.new.self c.note_sent.ensures ([], refl, refl) refl c.requires
