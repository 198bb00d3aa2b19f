-- What a screen shows, and how changes are played on it.
use Rattle.std.specs.Prelude.{ℕ, pos, ◌+◌, ◌-◌, ◌&&◌, ◌||◌, eqb, ltb, leb, min, Bool, true, if◌then◌else◌, List, [], ◌∷◌}
use Rattle.std.specs.List.{list_all}
use Rattle.tw_surface.specs.ChangeView.{ChangeView, Batch}
use Rattle.tw_surface.specs.ChangeView.{Attribute, AllAttributes, Text, ClearScreen, ClearToEndOfScreen, CursorPosition}
use Rattle.tw_surface.specs.Characters.{is_plain, cr, lf}
use Rattle.tw_surface.specs.Positions.{position_after, at_least_0}

-- a screen without a bottom: the character at each row and column, and the cursor, which waits after the last column at
-- col = width
pub record Picture : Type 0 where
  pub cell : ℕ → ℕ → ℕ
  pub row : ℕ
  pub col : ℕ

-- the character of an empty cell
abbrev pub blank : ℕ
blank = 32

-- no cell written
abbrev pub no_cells : ℕ → ℕ → ℕ
no_cells i j = blank

-- nothing but a cursor
abbrev pub cursor_at : ℕ → ℕ → Picture
cursor_at row col = record { cell = no_cells; row = row; col = col }

-- ch at row r and column c, and every other cell as it was
abbrev pub cells_with : (ℕ → ℕ → ℕ) → ℕ → ℕ → ℕ → ℕ → ℕ → ℕ
cells_with cell r c ch i j = if eqb i r && eqb j c then ch else cell i j

-- blank from row r and column c on, in that row and in all rows below
abbrev pub cells_cleared_from : (ℕ → ℕ → ℕ) → ℕ → ℕ → ℕ → ℕ → ℕ
cells_cleared_from cell r c i j = if ltb r i || (eqb r i && leb c j) then blank else cell i j

-- a printable character goes into the cursor's cell, from after the last column into the first cell of the next row
abbrev pub picture_with : ℕ → ℕ → Picture → Picture
picture_with width ch s =
    if eqb s.col width
    then record { cell = cells_with s.cell (s.row + 1) 0 ch; row = s.row + 1; col = 1 }
    else record { cell = cells_with s.cell s.row s.col ch; row = s.row; col = s.col + 1 }

-- a character of a text is played
abbrev pub play_char : ℕ → ℕ → Picture → Picture
play_char width ch s =
    if eqb ch cr then record s { col = 0 } else if eqb ch lf then record s { row = s.row + 1 } else picture_with width ch s

-- a text is played
abbrev pub play_text : ℕ → List ℕ → Picture → Picture
play_text width [] s = s
play_text width (ch ∷ text) s = play_text width text (play_char width ch s)

-- a change is played
abbrev pub play : ℕ → ChangeView → Picture → Picture
play width (Attribute a) s = s
play width (AllAttributes a) s = s
play width (Text text) s = play_text width text s
play width (ClearScreen color) s = cursor_at 0 0
play width (ClearToEndOfScreen color) s = record s { cell = cells_cleared_from s.cell s.row s.col }
play width (CursorPosition x y) s =
    record s { row = at_least_0 (position_after y (pos s.row)); col = min (width - 1) (at_least_0 (position_after x (pos s.col))) }

-- a batch is played
abbrev pub play_all : ℕ → Batch → Picture → Picture
play_all width [] s = s
play_all width (change ∷ changes) s = play_all width changes (play width change s)

-- a change that a screen can play: any but a text with a character that is neither printable ASCII nor CR nor LF
abbrev pub can_play : ChangeView → Bool
can_play (Text text) = list_all is_plain text
can_play (Attribute a) = true
can_play (AllAttributes a) = true
can_play (ClearScreen color) = true
can_play (ClearToEndOfScreen color) = true
can_play (CursorPosition x y) = true
