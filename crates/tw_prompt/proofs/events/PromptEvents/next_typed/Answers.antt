use Rattle.std.proofs.Common.{[], ◌∷◌, ap, sym}
use Rattle.tw_input.specs.EventView.{event_view}
use Rattle.tw_device.proofs.CallLemmas.{told_answer}
use Rattle.tw_prompt.specs.Joined.{pending_events}
use Rattle.tw_prompt.proofs.JoinedLemmas.{moves_as, moves_call, moves_held, moves_nothing}
use Rattle.tw_prompt.proofs.events.PromptEvents.next_typed.Goals as goal

pub returns-in-Nothing-clause-moves : goal.returns-in-Nothing-clause-moves
returns-in-Nothing-clause-moves g c =
    let told = g.S.EventSource.told in
    let follows = g.S.EventSource.follows in
    let grown = told_answer _ c.next_event.result _ _ c.next_event.ensures.ok c.next_event.ensures.told in
    moves_as told follows _ c.next_event.new.self [] _ [] _ _ (ap pending_events c.in-Nothing.ensures.value) (sym (ap pending_events c.replace.ensures.after))
    (moves_call told follows _ c.next_event.new.self _ c.next_event.ensures.follows grown)

pub returns-in-Event-clause-moves : goal.returns-in-Event-clause-moves
returns-in-Event-clause-moves g c =
    let told = g.S.EventSource.told in
    let follows = g.S.EventSource.follows in
    let source = c.args.self.now.source in
    let taken = event_view c.in-Event.event ∷ [] in
    moves_as told follows source source taken _ [] _ taken (ap pending_events c.in-Event.ensures.value) (sym (ap pending_events c.replace.ensures.after))
    (moves_held told follows source taken)

pub returns-in-Fault-clause-moves : goal.returns-in-Fault-clause-moves
returns-in-Fault-clause-moves g c =
    let told = g.S.EventSource.told in
    let follows = g.S.EventSource.follows in
    let source = c.args.self.now.source in
    moves_as told follows source source [] _ [] _ [] (ap pending_events c.in-Fault.ensures.value) (sym (ap pending_events c.replace.ensures.after))
    (moves_nothing told follows source [])
