-- The lines of a script.
use Rattle.std.specs.Prelude.{◌≡◌, ◌≢◌, ◌+◌, ◌<◌, ℕ, ◌⊎◌, eqb, if◌then◌else◌, List, [], ◌∷◌, ◌++◌, Some, Contains, slice_get}
use Rattle.script_player.specs.Directives.{IsDirective}

-- the first line, and what follows the line feed that ends it, or nothing
abbrev pub IsFirstLine : List ℕ → List ℕ → List ℕ → Type 0
IsFirstLine script line after = (¬ (Contains line 10)) × ((script ≡ line ++ (10 ∷ after)) ⊎ ((script ≡ line) × (after ≡ [])))

-- a byte stands in front of the first line
abbrev pub with_first_byte : ℕ → List (List ℕ) → List (List ℕ)
with_first_byte b [] = (b ∷ []) ∷ []
with_first_byte b (line ∷ lines) = (b ∷ line) ∷ lines

-- the lines of a script, each up to a line feed, which the last one may lack
unfoldable pub script_lines : List ℕ → List (List ℕ)
script_lines [] = []
script_lines (b ∷ script) = if eqb b 10 then [] ∷ script_lines script else with_first_byte b (script_lines script)

-- a line that is neither empty nor a directive
abbrev pub IsBad : List ℕ → Type 0
IsBad line = (line ≢ []) × ¬ (IsDirective line)

-- the line at an index is bad
abbrev pub IsBadAt : List (List ℕ) → ℕ → Type 0
IsBadAt lines i = (line : List ℕ) × (slice_get lines i ≡ Some line) × IsBad line

-- the number of the first bad line, counted from 1: the line at the index before it is bad, and none at a lesser index
-- is
abbrev pub IsFirstBad : List (List ℕ) → ℕ → Type 0
IsFirstBad lines n = (i : ℕ) × (n ≡ i + 1) × IsBadAt lines i × ((k : ℕ) → k < i → ¬ (IsBadAt lines k))
