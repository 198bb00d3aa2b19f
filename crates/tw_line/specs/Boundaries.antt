-- The boundaries of a text: the byte offsets at which a character starts, and the length.
use Rattle.std.specs.Prelude.{ℕ, ◌+◌, Bool, ◌&&◌, ◌||◌, ◌==◌, nat_lt, nat_le, List, length, slice_index, unwrap_or}
use Rattle.tw_line.specs.Extremes.{greatest_below}

-- a character starts at the offset, or the text ends there
unfoldable pub is_boundary : List ℕ → ℕ → Bool
is_boundary text at =
    at == length text || (nat_lt at (length text) && (nat_lt (slice_index text at) 128 || nat_le 192 (slice_index text at)))

-- the greatest boundary that is not above the offset
unfoldable pub boundary_below : List ℕ → ℕ → ℕ
boundary_below text at = unwrap_or (greatest_below (is_boundary text) (at + 1)) 0
