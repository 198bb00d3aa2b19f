-- Laws of searches, over the definitions alone.
use Rattle.std.specs.Prelude.{ℕ, List, Option}
use Rattle.tw_line.specs.Patterns.{IsFirst}
use Rattle.tw_line.specs.NearestMatch.{nearest_match, IsNearestMatch}
use Rattle.tw_line.specs.declared.history.SearchDirection.{SearchDirection}

-- the function finds the first offset of every pattern in every line
abbrev pub FindsFirst : (List ℕ → List ℕ → Option ℕ) → Type 0
FindsFirst find = (pattern line : List ℕ) → IsFirst pattern line (find pattern line)

-- the nearest match is the one that the relation describes
abbrev pub FindsNearest : Type 0
FindsNearest = (lines : List (List ℕ)) (idx : ℕ) (direction : SearchDirection) (pattern : List ℕ) → IsNearestMatch lines idx direction pattern (nearest_match lines idx direction pattern)
