-- Adding to a history in memory, and what is seen of an answer of its search.
use Rattle.std.specs.Prelude.{ℕ, ◌≡◌, Bool, true, false, List, [], ◌∷◌, ◌++◌, eqb, Option, Some, None, if◌then◌else◌}
use Rattle.std.specs.Cow.{cow_str_bytes}
use Rattle.std.specs.Cmp.Lexicographic.{pointwise}
use Rattle.tw_line.specs.NearestMatch.{MatchView, last_line, match_at, matches}
use Rattle.tw_line.specs.declared.history.SearchResult.{SearchResult}

-- the view of a search's answer
abbrev pub match_view : SearchResult → MatchView
match_view r = record { line = cow_str_bytes r.line; idx = r.idx; cursor = r.cursor }

-- the line of an index matches the pattern, and the answer of the search is this match
abbrev pub IsMatchAt : List (List ℕ) → List ℕ → ℕ → SearchResult → Type 0
IsMatchAt lines pattern at r = (matches lines pattern at ≡ true) × (match_view r ≡ match_at lines pattern at)

-- there is a line, and it is this one
abbrev pub is_line : List ℕ → Option (List ℕ) → Bool
is_line line None = false
is_line line (Some other) = pointwise eqb other line

-- the lines with one more, which is left out where it is the last one already
abbrev pub with_line : List (List ℕ) → List ℕ → List (List ℕ)
with_line lines line = if is_line line (last_line lines) then lines else lines ++ line ∷ []
