-- Insertions and kills.
use Rattle.std.specs.Prelude.{ℕ, ◌+◌, List, length, min, max, encode_utf8}
use Rattle.std.specs.List.{insert_slice, remove_range}
use Rattle.tw_line.specs.Cut.{Cut, cut_at}
use Rattle.tw_line.specs.Boundaries.{boundary_below}
use Rattle.tw_line.specs.Clusters.{cluster_after}
use Rattle.tw_line.specs.Movements.{destination}
use Rattle.tw_line.specs.declared.movements.Movement.{Movement}

-- the character is inserted at the cursor, which goes to the least cluster boundary above
abbrev pub with_char : ℕ → Cut → Cut
with_char x c = let line = insert_slice c.line c.cursor (encode_utf8 x) in cut_at line (cluster_after line c.cursor)

-- the text is inserted at the cursor, which goes after it
abbrev pub with_text : List ℕ → Cut → Cut
with_text s c = cut_at (insert_slice c.line c.cursor s) (c.cursor + length s)

-- what lies between the cursor and `to` goes; the cursor is the greatest boundary not above `at`
abbrev pub without : ℕ → ℕ → Cut → Cut
without to at c =
    let line = remove_range c.line (min c.cursor to) (max c.cursor to) in
    cut_at line (boundary_below line (min at (length line)))

-- both movements are taken on the old cut text
abbrev pub after_kill : Movement → Movement → Cut → Cut
after_kill kill m c = without (destination kill c) (destination m c) c
