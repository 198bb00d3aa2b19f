use Rattle.std.proofs.Common.{◌≡◌, ◌++◌, [], true, refl, ap, rules}
use Rattle.tw_prompt.specs.Joined.{pending_events, wake_if}
use Rattle.tw_prompt.proofs.JoinedLemmas.{moves_nothing}
use Rattle.tw_prompt.proofs.events.PromptEventsEventSource.next_event.Goals as goal

pub returns-then-self-clause-follows : goal.returns-then-self-clause-follows
returns-then-self-clause-follows g c =
    let it = c.args.self.now in
    let wakes : it.wakes ≡ true = search (rules) in
    ([], ap (λ b. wake_if b ++ []) wakes, (tt, moves_nothing g.S.EventSource.told g.S.EventSource.follows it.source (pending_events it.pending)), refl)
