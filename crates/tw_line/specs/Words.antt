-- Steps over words, by the indices of characters.
use Rattle.std.specs.Prelude.{ℕ, ◌-◌, Bool, true, false, not, ◌&&◌, nat_lt, List, length, slice_index, unwrap_or}
use Rattle.std.specs.Char.{is_whitespace}
use Rattle.tw_line.specs.Extremes.{least_from, greatest_below}

-- character i is whitespace
abbrev pub is_space : List ℕ → ℕ → Bool
is_space cs i = is_whitespace (slice_index cs i)

-- character i is not whitespace
abbrev pub is_no_space : List ℕ → ℕ → Bool
is_no_space cs i = not (is_space cs i)

-- i is above 0, and character i - 1 is whitespace
abbrev pub follows_space : List ℕ → ℕ → Bool
follows_space cs i = nat_lt 0 i && is_space cs (i - 1)

-- the greatest index below q that follows whitespace, or 0 where there is none
unfoldable pub word_before : List ℕ → ℕ → ℕ
word_before cs q = unwrap_or (greatest_below (follows_space cs) q) 0

-- the least index from q on that is whitespace, or the number of characters
unfoldable pub space_from : List ℕ → ℕ → ℕ
space_from cs q = unwrap_or (least_from (is_space cs) q (length cs - q)) (length cs)

-- the least index from q on that is not whitespace, or the number of characters
unfoldable pub word_from : List ℕ → ℕ → ℕ
word_from cs q = unwrap_or (least_from (is_no_space cs) q (length cs - q)) (length cs)

-- one or the other: whitespace, or what is none
abbrev pub kind_from : Bool → List ℕ → ℕ → ℕ
kind_from true = space_from
kind_from false = word_from

-- after the whitespace that ends the word at q
abbrev pub word_after : List ℕ → ℕ → ℕ
word_after cs q = word_from cs (space_from cs q)
