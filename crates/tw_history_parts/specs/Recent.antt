-- A history that keeps the newest lines, and no line twice if it is unique.
use Rattle.std.specs.Prelude.{◌≡◌, ◌≢◌, ◌-◌, ℕ, Bool, true, eqb, not, List, [], ◌∷◌, ◌++◌, drop, length, map, max, String, string_bytes, if◌then◌else◌}
use Rattle.std.specs.declared.alloc.Global.{Global}
use Rattle.std.specs.Cmp.Lexicographic.{pointwise}
use Rattle.std.specs.List.{AllPairs, filter}
use Rattle.tw_line.specs.HistoryAdditions.{is_line}
use Rattle.tw_line.specs.NearestMatch.{last_line}

-- the lines, how many are kept at most, and whether none is to stand twice
pub record RecentLines : Type 0 where
  pub lines : List (List ℕ)
  pub limit : ℕ
  pub is_unique : Bool

-- the lines of entries
abbrev pub lines_of_entries : List (String Global) → List (List ℕ)
lines_of_entries entries = map string_bytes entries

-- the history of no lines, of which one at least is kept
abbrev pub no_recent_lines : ℕ → Bool → RecentLines
no_recent_lines limit is_unique = record { lines = []; limit = max 1 limit; is_unique = is_unique }

-- whether an older line is another one
abbrev pub is_another : List ℕ → List ℕ → Bool
is_another line older = not (pointwise eqb older line)

-- the lines that stay where one is added: the others, if none is to stand twice
abbrev pub older_lines : Bool → List ℕ → List (List ℕ) → List (List ℕ)
older_lines is_unique line lines = if is_unique then filter (is_another line) lines else lines

-- the last of the lines, `limit` at most
abbrev pub newest : ℕ → List (List ℕ) → List (List ℕ)
newest limit lines = drop (length lines - limit) lines

-- the newest of these and the line; one that is the last line already changes nothing
abbrev pub with_recent : RecentLines → List ℕ → RecentLines
with_recent h line = if is_line line (last_line h.lines) then h else record h { lines = newest h.limit (older_lines h.is_unique line h.lines ++ line ∷ []) }

-- what a history gives for a line that is added
abbrev pub gives_recent : RecentLines → List ℕ → RecentLines → Type 0
gives_recent history line grown = grown ≡ with_recent history line

-- no line stands twice
abbrev pub AreUnique : List (List ℕ) → Type 0
AreUnique lines = AllPairs (λ older newer. older ≢ newer) lines

-- of lines none of which stands twice none does once a line is added
abbrev pub StaysUnique : Type 0
StaysUnique = (h : RecentLines) (line : List ℕ) → h.is_unique ≡ true → AreUnique h.lines → AreUnique (with_recent h line).lines
