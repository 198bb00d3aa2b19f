use Rattle.std.proofs.Common.{Err, refl}
use Rattle.tw_device.proofs.JoinedLemmas.{asks_then, law_then, leads_failed}
use Rattle.tw_device.proofs.joined.JoinedDevice.next_event.Goals as goal

pub returns-in-Err-clause-asks : goal.returns-in-Err-clause-asks
returns-in-Err-clause-asks g c =
    asks_then g.S.EventSource.told g.S.EventSource.follows g.T.Terminal.state g.T.DeviceTerminal.keeps g.T.DeviceTerminal.does
    (Err c.in-Err.fault) c.args.self.now c.attend.new.self _ c.attend.ensures
    (leads_failed g.S.EventSource.told g.S.EventSource.follows g.T.Terminal.state g.T.DeviceTerminal.keeps g.T.DeviceTerminal.does
    c.attend.new.self c.note_answer.new.self c.in-Err.fault c.note_answer.ensures) refl

pub returns-in-Err-clause-law : goal.returns-in-Err-clause-law
returns-in-Err-clause-law g c =
    law_then g.S.EventSource.told g.S.EventSource.follows g.T.Terminal.state g.T.DeviceTerminal.keeps g.T.DeviceTerminal.does
    (Err c.in-Err.fault) c.args.self.now c.attend.new.self _ c.attend.ensures
    (leads_failed g.S.EventSource.told g.S.EventSource.follows g.T.Terminal.state g.T.DeviceTerminal.keeps g.T.DeviceTerminal.does
    c.attend.new.self c.note_answer.new.self c.in-Err.fault c.note_answer.ensures)

pub returns-clause-asks : goal.returns-clause-asks
returns-clause-asks g c =
    asks_then g.S.EventSource.told g.S.EventSource.follows g.T.Terminal.state g.T.DeviceTerminal.keeps g.T.DeviceTerminal.does
    c.ask.result c.args.self.now c.attend.new.self c.ask.new.self c.attend.ensures c.ask.ensures.leads c.ask.ensures.state

pub returns-clause-law : goal.returns-clause-law
returns-clause-law g c =
    law_then g.S.EventSource.told g.S.EventSource.follows g.T.Terminal.state g.T.DeviceTerminal.keeps g.T.DeviceTerminal.does
    c.ask.result c.args.self.now c.attend.new.self c.ask.new.self c.attend.ensures c.ask.ensures.leads
