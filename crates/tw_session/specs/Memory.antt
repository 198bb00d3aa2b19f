-- What each action takes of memory.
use Rattle.std.specs.Prelude.{◌≡◌, ◌≢◌, ℕ, ◌+◌, ◌-◌, ◌<◌, ◌⊎◌, true, List, [], length, slice_get, Option, Some, None}
use Rattle.tw_line.specs.Cut.{Cut}
use Rattle.tw_line.specs.NearestMatch.{last_index}
use Rattle.tw_line.specs.declared.history.SearchDirection.{SearchDirection}
use Rattle.tw_line.specs.declared.history.SearchDirection.TheVariants.{Backwards, Forwards}
use Rattle.tw_host.specs.ActionView.{ActionView, InsertChar, InsertText, Kill, KillAndMove, HistoryPrevious, HistoryNext, Complete, HistoryIncSearchBackwards, HistoryIncSearchForwards}
use Rattle.tw_host.specs.CandidateView.{CandidateView, fits}
use Rattle.tw_host.specs.HostRules.{HostRules}
use Rattle.tw_host.specs.declared.host.Overrides.{Overrides}
use Rattle.tw_session.specs.EditState.{EditState, ModeView, CycleView, Searching}
use Rattle.tw_session.specs.Completion.{next_in}
use Rattle.tw_session.specs.Search.{search_start}

-- a line has the index
abbrev pub HasLine : List (List ℕ) → Option ℕ → Type 0
HasLine lines None = ⊥
HasLine lines (Some i) = i < length lines

-- a text is kept that is not empty
abbrev pub KeepsText : Option (List ℕ) → Type 0
KeepsText None = ⊥
KeepsText (Some text) = text ≢ []

-- the index from which a step back takes a line: the one before the index, and without one the last one
abbrev pub index_before : List (List ℕ) → Option ℕ → Option ℕ
index_before lines None = last_index lines
index_before lines (Some p) = Some (p - 1)

-- a step forth takes the line after the index, or the text that was kept; without an index nothing
abbrev pub TakesMemoryForth : List (List ℕ) → Option (List ℕ) → Option ℕ → Type 0
TakesMemoryForth lines typed None = ⊥
TakesMemoryForth lines typed (Some p) = HasLine lines (Some (p + 1)) ⊎ KeepsText typed

-- a search that goes on takes what it finds, where it starts at a line; in other modes memory is taken as said
abbrev pub SearchesOr : Type 0 → List (List ℕ) → SearchDirection → Option ℕ → ModeView → Type 0
SearchesOr other lines direction index (Searching style before matching) = HasLine lines (search_start lines direction index)
SearchesOr other lines direction index _ = other

-- while searching, a pattern that was edited is sought from the last line on
abbrev pub SeeksAgain : List (List ℕ) → ModeView → Type 0
SeeksAgain lines (Searching style direction matching) = HasLine lines (last_index lines)
SeeksAgain lines _ = ⊥

-- there is a candidate, and it fits
abbrev pub FitsIn : Cut → Option CandidateView → Type 0
FitsIn cut None = ⊥
FitsIn cut (Some c) = fits cut c ≡ true

-- the cycle's next candidate takes memory where it fits; without a cycle a host that completes for itself may
abbrev pub TakesMemoryToComplete : Overrides → Option CycleView → Type 0
TakesMemoryToComplete overrides None = overrides.complete ≡ true
TakesMemoryToComplete overrides (Some c) = FitsIn c.original (slice_get c.candidates (next_in c))

module _ {V : Type 0} (rules : HostRules V) (overrides : Overrides) (v : V) where
  -- whether an action may take memory at a state: no other action is refused for want of it
  abbrev pub TakesMemory : Option ActionView → EditState → Type 0
  TakesMemory (Some (InsertChar r x)) s = (r ≢ 0) ⊎ SeeksAgain (rules.lines v) s.mode
  TakesMemory (Some (InsertText r text)) s = ((r ≢ 0) × (text ≢ [])) ⊎ SeeksAgain (rules.lines v) s.mode
  TakesMemory (Some (Kill m)) s = SeeksAgain (rules.lines v) s.mode
  TakesMemory (Some (KillAndMove k m)) s = SeeksAgain (rules.lines v) s.mode
  TakesMemory (Some HistoryPrevious) s = SearchesOr (HasLine (rules.lines v) (index_before (rules.lines v) s.history_index)) (rules.lines v) Backwards s.history_index s.mode
  TakesMemory (Some HistoryNext) s = SearchesOr (TakesMemoryForth (rules.lines v) s.typed_line s.history_index) (rules.lines v) Forwards s.history_index s.mode
  TakesMemory (Some Complete) s = TakesMemoryToComplete overrides s.cycle
  TakesMemory (Some HistoryIncSearchBackwards) s = SearchesOr (HasLine (rules.lines v) (last_index (rules.lines v))) (rules.lines v) Backwards s.history_index s.mode
  TakesMemory (Some HistoryIncSearchForwards) s = SearchesOr (HasLine (rules.lines v) (last_index (rules.lines v))) (rules.lines v) Forwards s.history_index s.mode
  TakesMemory _ s = ⊥
