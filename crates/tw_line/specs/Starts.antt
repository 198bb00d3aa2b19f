-- The byte offsets at which the characters of a text start, and the digits of a number.
use Rattle.std.specs.Prelude.{ℕ, ◌+◌, ◌^◌, ◌++◌, nat_lt, List, length, map, take, drop, encode_utf8_all, unwrap_or}
use Rattle.std.specs.List.{range_with_len}
use Rattle.std.specs.Str.{chars}
use Rattle.tw_line.specs.Extremes.{least_from}

-- the offsets at which these characters start where they stand one after the other from `at` on: each stands after
-- those before it
unfoldable pub starts_from : ℕ → List ℕ → List ℕ
starts_from at cs = map (λ k. at + length (encode_utf8_all (take k cs))) (range_with_len 0 (length cs))

-- the offsets at which the characters of the text start
abbrev pub starts_of : List ℕ → List ℕ
starts_of text = starts_from 0 (chars text)

-- the starts with those of a text put in at an index, where the text stands from the offset `at` on: what starts later
-- is raised
abbrev pub with_starts : ℕ → ℕ → List ℕ → List ℕ → List ℕ
with_starts index at text starts =
    take index starts ++ (starts_from at (chars text) ++ map (λ n. n + length text) (drop index starts))

-- how many binary digits the number has: the least d with n < 2 ^ d, which is 0 for 0
unfoldable pub binary_digits : ℕ → ℕ
binary_digits n = unwrap_or (least_from (λ d. nat_lt n (2 ^ d)) 0 (n + 1)) n
