-- What the steps of a screen are given, and what they leave.
use Rattle.std.specs.Prelude.{ℕ, ◌≡◌, ◌+◌, ◌-◌, ◌*◌, ◌<◌, ◌≤◌, ◌↔◌, true, pos, min, List, Result, Err, length, slice_index, vec_len, vec_capacity}
use Rattle.std.specs.Global.{Vec}
use Rattle.tw_surface.specs.declared.change.Position.{Position}
use Rattle.tw_surface.specs.declared.screen.far.Cell.{Cell}
use Rattle.tw_surface.specs.declared.screen.ScreenFault.{ScreenFault}
use Rattle.tw_surface.specs.declared.screen.ScreenFault.TheVariants.{OutOfRange}
use Rattle.tw_surface.specs.Characters.{is_printable}
use Rattle.tw_surface.specs.ChangeView.{ChangeView}
use Rattle.tw_surface.specs.Positions.{position_after, at_least_0}
use Rattle.tw_surface.specs.Pictures.{Picture, can_play, play, play_char, play_text}
use Rattle.tw_surface.specs.Cells.{ScreenView, picture, picture_of, reach_of, IsSparse}

-- where a position leads from a row or a column: to 0 in place of a negative one
abbrev pub moved_from : Position → ℕ → ℕ
moved_from position at = at_least_0 (position_after position (pos at))

-- the cursor goes where two positions lead, to the last column at most
abbrev pub with_cursor_moved : Position → Position → ScreenView → ScreenView
with_cursor_moved x y screen =
    record screen { row = moved_from y screen.row; col = min (screen.width - 1) (moved_from x screen.col) }

-- the change leads past the greatest row of all where the screen has no bottom
abbrev pub IsPastLimit : ChangeView → ScreenView → Type 0
IsPastLimit change screen = 4294967295 < (play screen.width change (picture screen)).row

-- a change that can be played is refused as out of range exactly where it leads past the limit
abbrev pub RefusesPastLimit : ChangeView → ScreenView → Result Unit ScreenFault → Type 0
RefusesPastLimit change screen result = can_play change ≡ true → ((result ≡ Err OutOfRange) ↔ IsPastLimit change screen)

-- these are the near cells from a place on
abbrev pub AreNearFrom : ℕ → List ℕ → List ℕ → Type 0
AreNearFrom place near cells = (k : ℕ) → k < length cells
    → (place + k < length near) × (slice_index cells k ≡ slice_index near (place + k))

-- the far cells stay sparse, where a character is put at a row and a column after the near ones
abbrev pub StaysSparse : ℕ → ℕ → List Cell → List Cell → Type 0
StaysSparse row col old new =
    (width first : ℕ) → IsSparse width first old → col < width → first ≤ row * width + col → IsSparse width first new

-- a place is after so many near cells, if the character takes one
abbrev pub IsBehind : ℕ → ℕ → ℕ → Type 0
IsBehind byte near place = is_printable byte ≡ true → near ≤ place

-- the picture of these cells after a text that is played from a cursor on
abbrev pub played_at : ℕ → List ℕ → List ℕ → List Cell → ℕ → ℕ → Picture
played_at width text near far row col = play_text width text (picture_of width near far row col)

-- a character is played from a cursor on over far cells, and leaves others and the cursor elsewhere, whatever near
-- cells stand before it
abbrev pub IsPlayedFar : ℕ → ℕ → List Cell → ℕ → ℕ → List Cell → ℕ → ℕ → Type 0
IsPlayedFar width byte old row col new new_row new_col = (near : List ℕ) → IsBehind byte (length near) (row * width + col)
    → picture_of width near new new_row new_col ≡ play_char width byte (picture_of width near old row col)

-- there is room for as many far cells as the text has characters, if it can reach after the near ones from a place on
abbrev pub HasRoomFor : ℕ → List ℕ → ℕ → List ℕ → Vec Cell → Type 0
HasRoomFor width text place near far =
    length near < place + reach_of width text → vec_len far + length text ≤ vec_capacity far
