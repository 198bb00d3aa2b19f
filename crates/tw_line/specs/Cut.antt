-- A cut text: a text with a cursor at one of its boundaries.
use Rattle.std.specs.Prelude.{ℕ, List, [], length}
use Rattle.std.specs.Str.{IsUtf8, IsCharBoundary}

-- the bytes of the text, and the byte offset of the cursor
pub record Cut : Type 0 where
  pub line : List ℕ
  pub cursor : ℕ

-- the text is UTF-8, and the cursor stands at one of its boundaries
pub record IsCut (c : Cut) : Type 0 where
  pub utf8 : IsUtf8 c.line
  pub boundary : IsCharBoundary c.line c.cursor

-- a text with the cursor at an offset
abbrev pub cut_at : List ℕ → ℕ → Cut
cut_at line cursor = record { line = line; cursor = cursor }

-- the empty text
abbrev pub empty_cut : Cut
empty_cut = cut_at [] 0

-- a text with the cursor at its end
abbrev pub at_end : List ℕ → Cut
at_end line = cut_at line (length line)
