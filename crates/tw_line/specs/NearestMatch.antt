-- The nearest line of a history that contains a pattern.
use Rattle.std.specs.Prelude.{◌≡◌, ℕ, ◌+◌, ◌-◌, ◌^◌, ◌<◌, ◌≤◌, ◌⊎◌, ◌==◌, Bool, List, [], length, nat_lt, Option, Some, None, if◌then◌else◌, unwrap_or, option_map, slice_get}
use Rattle.std.specs.List.{slice_index_or}
use Rattle.tw_line.specs.Extremes.{least_from, greatest_below, IsLeast, IsGreatest, NonePasses}
use Rattle.tw_line.specs.Patterns.{first, contains, IsFirst}
use Rattle.tw_line.specs.declared.history.SearchDirection.{SearchDirection}
use Rattle.tw_line.specs.declared.history.SearchDirection.TheVariants.{Backwards, Forwards}

-- a line that was found: its bytes, its index and the offset of the pattern in it
pub record MatchView : Type 0 where
  pub line : List ℕ
  pub idx : ℕ
  pub cursor : ℕ

-- the line at an index
abbrev pub line_at : List (List ℕ) → ℕ → List ℕ
line_at lines i = slice_index_or lines i []

-- the index of the last line
abbrev pub last_index : List (List ℕ) → Option ℕ
last_index [] = None
last_index lines = Some (length lines - 1)

-- the last line
abbrev pub last_line : List (List ℕ) → Option (List ℕ)
last_line lines = slice_get lines (length lines - 1)

-- the index beside another in a direction
abbrev pub next_index : SearchDirection → ℕ → Option ℕ
next_index Backwards idx = if idx == 0 then None else Some (idx - 1)
next_index Forwards idx = if idx == 2 ^ 64 - 1 then None else Some (idx + 1)

-- the line at the index contains the pattern
abbrev pub matches : List (List ℕ) → List ℕ → ℕ → Bool
matches lines pattern i = contains pattern (line_at lines i)

-- the greatest index up to idx, or the least one from idx on, whose line contains the pattern
abbrev pub nearest_index : List (List ℕ) → ℕ → SearchDirection → List ℕ → Option ℕ
nearest_index lines idx Backwards pattern = greatest_below (matches lines pattern) (idx + 1)
nearest_index lines idx Forwards pattern = least_from (matches lines pattern) idx (length lines - idx)

-- the match at an index
abbrev pub match_at : List (List ℕ) → List ℕ → ℕ → MatchView
match_at lines pattern i = record { line = line_at lines i; idx = i; cursor = unwrap_or (first pattern (line_at lines i)) 0 }

-- the nearest match from the index of a line on, or none
unfoldable pub nearest_match : List (List ℕ) → ℕ → SearchDirection → List ℕ → Option MatchView
nearest_match lines idx direction pattern =
    if nat_lt idx (length lines) then option_map (match_at lines pattern) (nearest_index lines idx direction pattern) else None

-- the index is the nearest one on the side whose line contains the pattern
abbrev pub IsNearestIndex : List (List ℕ) → ℕ → SearchDirection → List ℕ → ℕ → Type 0
IsNearestIndex lines idx Backwards pattern i = IsGreatest (matches lines pattern) (idx + 1) i
IsNearestIndex lines idx Forwards pattern i = IsLeast (matches lines pattern) idx (length lines) i

-- no line on the side contains the pattern
abbrev pub HasNoMatch : List (List ℕ) → ℕ → SearchDirection → List ℕ → Type 0
HasNoMatch lines idx Backwards pattern = NonePasses (matches lines pattern) 0 (idx + 1)
HasNoMatch lines idx Forwards pattern = NonePasses (matches lines pattern) idx (length lines)

-- the answer is the nearest line on the side that contains the pattern, with the pattern's first offset in it; none
-- where there is no such line, or idx is not the index of a line
pub record IsMatch (lines : List (List ℕ)) (idx : ℕ) (direction : SearchDirection) (pattern : List ℕ) (m : MatchView) : Type 0 where
  pub start : idx < length lines
  pub nearest : IsNearestIndex lines idx direction pattern m.idx
  pub line : m.line ≡ line_at lines m.idx
  pub cursor : IsFirst pattern m.line (Some m.cursor)

abbrev pub IsNearestMatch : List (List ℕ) → ℕ → SearchDirection → List ℕ → Option MatchView → Type 0
IsNearestMatch lines idx direction pattern (Some m) = IsMatch lines idx direction pattern m
IsNearestMatch lines idx direction pattern None = (length lines ≤ idx) ⊎ HasNoMatch lines idx direction pattern
