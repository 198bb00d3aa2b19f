-- What was taken so far are sizes that no screen has: the prompt gets no event for them.
use Rattle.std.proofs.Common.{◌≡◌, List, []}
use Rattle.tw_prompt.specs.Joined.{Piece, Pieced, pending_events, told_in_all}
use Rattle.tw_prompt.proofs.events.PromptEvents.find.Given as goal

abbrev pub invariant-loop-turn : goal.invariant-loop-turn
invariant-loop-turn g l = record {
  pieces : (pieces : List Piece) × (told_in_all pieces ≡ [])
      × Pieced g.S.EventSource.told g.S.EventSource.follows l.fn.self.joins l.fn.self.source (pending_events l.fn.self.pending) l.self.source (pending_events l.self.pending) pieces;
  joins : l.self.joins ≡ l.fn.self.joins;
  wakes : l.self.wakes ≡ l.fn.self.wakes;
  told : l.self.told ≡ l.fn.self.told;
}
