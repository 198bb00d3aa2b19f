-- Where a pattern stands in a line.
use Rattle.std.specs.Prelude.{ℕ, ◌+◌, Bool, List, length, drop, eqb, Option, Some, None}
use Rattle.std.specs.Option.{is_some}
use Rattle.std.specs.List.{starts_with}
use Rattle.tw_line.specs.Extremes.{least_from, IsLeast, NonePasses}

-- the pattern stands in the line at the byte offset
abbrev pub stands_at : List ℕ → List ℕ → ℕ → Bool
stands_at pattern line at = starts_with eqb (drop at line) pattern

-- the least offset at which the pattern stands in the line
unfoldable pub first : List ℕ → List ℕ → Option ℕ
first pattern line = least_from (stands_at pattern line) 0 (length line + 1)

-- the line contains the pattern
abbrev pub contains : List ℕ → List ℕ → Bool
contains pattern line = is_some (first pattern line)

-- the answer is the least offset at which the pattern stands in the line, or none
abbrev pub IsFirst : List ℕ → List ℕ → Option ℕ → Type 0
IsFirst pattern line (Some at) = IsLeast (stands_at pattern line) 0 (length line + 1) at
IsFirst pattern line None = NonePasses (stands_at pattern line) 0 (length line + 1)
