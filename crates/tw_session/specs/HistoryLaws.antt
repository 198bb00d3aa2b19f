-- Laws of walks and of searches in turn, over the definitions alone.
use Rattle.std.specs.Prelude.{⊤, ◌≡◌, ℕ, ◌-◌, ◌≤◌, ◌++◌, min, List, [], ◌∷◌, length, replicate, reverse, filter, slice_get, Option, Some, None, Result, Ok, Err, IsOkAnd}
use Rattle.tw_line.specs.Cut.{Cut, at_end}
use Rattle.tw_line.specs.Patterns.{contains}
use Rattle.tw_line.specs.NearestMatch.{last_line}
use Rattle.tw_host.specs.ActionView.{ActionView, InsertChar, InsertText, HistoryPrevious, HistoryNext, HistoryIncSearchBackwards}
use Rattle.tw_host.specs.HostRules.{HostRules}
use Rattle.tw_session.specs.Refusal.{Refusal}
use Rattle.tw_session.specs.EditState.{EditState, ModeView, Searching}
use Rattle.tw_session.specs.Search.{IsSearching}
use Rattle.tw_session.specs.Steps.{apply}
use Rattle.tw_line.specs.declared.history.SearchStyle.{SearchStyle}
use Rattle.tw_line.specs.declared.history.SearchDirection.TheVariants.{Backwards}

-- the rest of a list of actions, where the first one leads to a state
abbrev pub and_then : (EditState → Result EditState Refusal) → Result EditState Refusal → Result EditState Refusal
and_then rest (Err r) = Err r
and_then rest (Ok s) = rest s

-- the line that a search shows, while searching
abbrev pub match_in : ModeView → Option (List ℕ)
match_in (Searching style direction matching) = Some matching.line
match_in _ = None

-- the lines that contain a pattern, the newest first
abbrev pub newest_matches : List (List ℕ) → List ℕ → List (List ℕ)
newest_matches lines pattern = filter (contains pattern) (reverse lines)

-- the action inserts a character or a text
abbrev pub IsInsertion : ActionView → Type 0
IsInsertion (InsertChar r x) = ⊤
IsInsertion (InsertText r text) = ⊤
IsInsertion _ = ⊥

module _ {V : Type 0} (rules : HostRules V) (v : V) where
  -- the state after a list of actions, or the first refusal
  abbrev pub apply_all : List ActionView → EditState → Result EditState Refusal
  apply_all [] s = Ok s
  apply_all (a ∷ actions) s = and_then (apply_all actions) (apply rules v a s)

  -- k steps back through the history and k steps forth, which there are lines for, give the typed line with the cursor
  -- at its end
  abbrev pub WalksBack : Type 0
  WalksBack = (s : EditState) (k : ℕ) → s.history_index ≡ None → ¬ (IsSearching s.mode) → 1 ≤ k → k ≤ length (rules.lines v)
      → IsOkAnd (apply_all (replicate k HistoryPrevious ++ replicate k HistoryNext) s) (λ t. t.cut ≡ at_end s.cut.line)

  -- then there is no index and nothing is kept, so that one more step back shows the last line again
  abbrev pub LeavesHistory : Type 0
  LeavesHistory = (s : EditState) (k : ℕ) → s.history_index ≡ None → ¬ (IsSearching s.mode) → 1 ≤ k → k ≤ length (rules.lines v)
      → IsOkAnd (apply_all (replicate k HistoryPrevious ++ replicate k HistoryNext) s) (λ t.
      (t.history_index ≡ None) × (t.typed_line ≡ None) × IsOkAnd (apply rules v HistoryPrevious t) (λ u. Some u.cut.line ≡ last_line (rules.lines v)))

  -- an insertion while searching backwards, whose pattern some line contains, and k backward searches show the matching
  -- lines from the newest on, and then the oldest
  abbrev pub Enumerates : Type 0
  Enumerates = (s t : EditState) (style : SearchStyle) (matching : Cut) (a : ActionView) (k : ℕ)
      → s.mode ≡ Searching style Backwards matching → IsInsertion a → apply rules v a s ≡ Ok t
      → 1 ≤ length (newest_matches (rules.lines v) t.cut.line)
      → IsOkAnd (apply_all (replicate k HistoryIncSearchBackwards) t) (λ u.
      match_in u.mode ≡ slice_get (newest_matches (rules.lines v) t.cut.line) (min k (length (newest_matches (rules.lines v) t.cut.line) - 1)))
