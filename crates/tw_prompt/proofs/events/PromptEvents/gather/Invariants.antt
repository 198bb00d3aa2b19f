-- The characters that were appended are those that were taken.
use Rattle.std.proofs.Common.{◌≡◌, ◌++◌, ℕ, List, true, map, string_bytes}
use Rattle.std.specs.Prelude.{encode_utf8_all}
use Rattle.std.specs.List.{list_all}
use Rattle.tw_prompt.specs.Joined.{Moves, is_joining, pending_events, key_of_character}
use Rattle.tw_prompt.proofs.events.PromptEvents.gather.Given as goal

abbrev pub invariant-loop-turn : goal.invariant-loop-turn
invariant-loop-turn g l = record {
  moves : (more : List ℕ) × (list_all is_joining more ≡ true) × (string_bytes l.run ≡ string_bytes l.fn.run ++ encode_utf8_all more)
      × Moves g.S.EventSource.told g.S.EventSource.follows l.fn.self.source (pending_events l.fn.self.pending) l.self.source (pending_events l.self.pending) (map key_of_character more);
  joins : l.self.joins ≡ l.fn.self.joins;
  wakes : l.self.wakes ≡ l.fn.self.wakes;
  told : l.self.told ≡ l.fn.self.told;
}
