-- A screen of some rows, which scrolls where a character or a move leads below its last row.
use Rattle.std.specs.Prelude.{ℕ, ◌≡◌, ◌+◌, ◌-◌, ◌<◌, ◌≤◌, List, [], ◌∷◌}
use Rattle.tw_surface.specs.ChangeView.{ChangeView, Batch}
use Rattle.tw_surface.specs.ChangeView.{Attribute, AllAttributes, Text, ClearScreen, ClearToEndOfScreen, CursorPosition}
use Rattle.tw_surface.specs.Pictures.{Picture, blank, play_char, play}

-- the picture of a screen of h rows: the cursor stands in one of them, and nothing is below them
pub record IsWithin (h : ℕ) (s : Picture) : Type 0 where
  pub row : s.row < h
  pub below : (r c : ℕ) → h ≤ r → s.cell r c ≡ blank

-- k rows go up: the picture from row k on
abbrev pub from_row : ℕ → Picture → Picture
from_row k s = record { cell = λ r c. s.cell (r + k) c; row = s.row - k; col = s.col }

-- the rows go up until the cursor stands in the last of h rows, where it stood below
abbrev pub scroll : ℕ → Picture → Picture
scroll h s = from_row (s.row + 1 - h) s

-- a text is played on h rows: the screen scrolls after each character
abbrev pub play_text_on : ℕ → ℕ → List ℕ → Picture → Picture
play_text_on h width [] s = s
play_text_on h width (ch ∷ text) s = play_text_on h width text (scroll h (play_char width ch s))

-- a change is played on h rows: the screen scrolls after a move too
abbrev pub play_on : ℕ → ℕ → ChangeView → Picture → Picture
play_on h width (Text text) s = play_text_on h width text s
play_on h width (CursorPosition x y) s = scroll h (play width (CursorPosition x y) s)
play_on h width (Attribute a) s = s
play_on h width (AllAttributes a) s = s
play_on h width (ClearScreen color) s = play width (ClearScreen color) s
play_on h width (ClearToEndOfScreen color) s = play width (ClearToEndOfScreen color) s

-- a batch is played on h rows
abbrev pub play_all_on : ℕ → ℕ → Batch → Picture → Picture
play_all_on h width [] s = s
play_all_on h width (change ∷ changes) s = play_all_on h width changes (play_on h width change s)

-- batches are played on h rows
abbrev pub play_batches_on : ℕ → ℕ → List Batch → Picture → Picture
play_batches_on h width [] s = s
play_batches_on h width (batch ∷ more) s = play_batches_on h width more (play_all_on h width batch s)
