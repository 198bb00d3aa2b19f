use Rattle.tw_device.proofs.CallLemmas.{told_answer}
use Rattle.tw_device.proofs.JoinedLemmas.{leads_answer}
use Rattle.tw_device.proofs.joined.Joined.ask.Goals as goal

pub returns-clause-leads : goal.returns-clause-leads
returns-clause-leads g c =
    leads_answer g.S.EventSource.told g.S.EventSource.follows g.T.Terminal.state g.T.DeviceTerminal.keeps g.T.DeviceTerminal.does
    c.args.self.now _ c.next_event-answer.result c.note_answer.ensures c.next_event-answer.ensures.follows
    (told_answer _ c.next_event-answer.result _ _ c.next_event-answer.ensures.ok c.next_event-answer.ensures.told)
    c.follow.ensures.done c.follow.ensures.state c.follow.ensures.settled
