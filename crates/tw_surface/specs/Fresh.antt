-- What a fresh painting shows, by division alone.
use Rattle.std.specs.Prelude.{ℕ, ◌≡◌, ◌+◌, ◌/◌, ◌%◌, ◌<◌, ◌≤◌, ◌⊎◌, List, [], ◌∷◌, ◌++◌, length, slice_index}
use Rattle.std.specs.List.{sum_by}
use Rattle.tw_surface.specs.Scenes.{typed_text, Scene, lower_lines}
use Rattle.tw_surface.specs.Pictures.{Picture, blank}
use Rattle.tw_surface.specs.Lines.{rows_of}

-- cell (r, c) is the cell of character k of a text that starts at column 0 of row from
abbrev pub IsCellOf : ℕ → ℕ → ℕ → ℕ → ℕ → Type 0
IsCellOf width from k r c = (r ≡ from + k / width) × (c ≡ k % width)

-- each character of a text stands in its cell, the text from row from on
abbrev pub IsShown : ℕ → ℕ → List ℕ → Picture → Type 0
IsShown width from text after = (k : ℕ) → k < length text → after.cell (from + k / width) (k % width) ≡ slice_index text k

-- cell (r, c) is the cell of a character of the text
abbrev pub IsIn : ℕ → ℕ → List ℕ → ℕ → ℕ → Type 0
IsIn width from text r c = (k : ℕ) × (k < length text) × IsCellOf width from k r c

-- lines from row from on, each in the row after the rows of the line before
abbrev pub AreShown : ℕ → ℕ → List (List ℕ) → Picture → Type 0
AreShown width from [] after = Unit {0}
AreShown width from (line ∷ more) after = IsShown width from line after × AreShown width (from + rows_of width line) more after

-- cell (r, c) is the cell of a character of one of the lines
abbrev pub IsInLines : ℕ → ℕ → List (List ℕ) → ℕ → ℕ → Type 0
IsInLines width from [] r c = ⊥
IsInLines width from (line ∷ more) r c = IsIn width from line r c ⊎ IsInLines width (from + rows_of width line) more r c

-- the characters of the prompt and the line
abbrev pub text_of : Scene → List ℕ
text_of scene = typed_text scene.prompt ++ typed_text scene.line

-- the row in which the prompt and the line end, and the cursor's row, counted from the first row
abbrev pub line_row : ℕ → Scene → ℕ
line_row width scene = length (text_of scene) / width

abbrev pub cursor_row : ℕ → Scene → ℕ
cursor_row width scene = (length (typed_text scene.prompt) + scene.column) / width

-- a fresh painting of a scene from row s on
pub record IsFresh (width s : ℕ) (scene : Scene) (after : Picture) : Type 0 where
  pub shown : IsShown width s (text_of scene) after
  pub below : AreShown width (s + line_row width scene + 1) (lower_lines scene.lower) after
  pub rest : (r c : ℕ) → s ≤ r → c < width
      → (IsIn width s (text_of scene) r c → ⊥)
      → (IsInLines width (s + line_row width scene + 1) (lower_lines scene.lower) r c → ⊥)
      → after.cell r c ≡ blank
  pub row : after.row ≡ s + cursor_row width scene
  pub col : after.col ≡ (length (typed_text scene.prompt) + scene.column) % width

-- the rows above row s are as they were
abbrev pub IsSameAbove : ℕ → ℕ → Picture → Picture → Type 0
IsSameAbove width s before after = (r c : ℕ) → r < s → c < width → after.cell r c ≡ before.cell r c

-- the last row of a fresh painting
abbrev pub last_row : ℕ → ℕ → Scene → ℕ
last_row width s scene = s + line_row width scene + sum_by (rows_of width) (lower_lines scene.lower)

-- the cursor at column 0 of the row under the last one, all from there on blank, and the rows above as they were
pub record IsClosed (width last : ℕ) (before after : Picture) : Type 0 where
  pub row : after.row ≡ last + 1
  pub col : after.col ≡ 0
  pub blank_below : (i c : ℕ) → last < i → c < width → after.cell i c ≡ blank
  pub same_above : (i c : ℕ) → i ≤ last → c < width → after.cell i c ≡ before.cell i c
