-- What a terminal shows, as far as it is known.
use Rattle.std.specs.Prelude.{◌≡◌, ◌≤◌, ◌<◌, ◌+◌, ◌-◌, ◌⊎◌, ℕ, zero, pos, negsuc, ltb, max, Bool, true, false, not, Option, Some, None, [], ◌∷◌, ◌++◌, ⊤, leb, if◌then◌else◌}
use Rattle.tw_surface.specs.declared.change.Position.{Position}
use Rattle.tw_surface.specs.declared.change.Position.TheVariants.{Absolute, Relative}
use Rattle.tw_surface.specs.declared.color.ColorAttribute.{ColorAttribute}
use Rattle.tw_surface.specs.Defaults.{default_color}
use Rattle.tw_surface.specs.ChangeView.{ChangeView, Batch}
use Rattle.tw_surface.specs.ChangeView.{Attribute, AllAttributes, Text, ClearScreen, ClearToEndOfScreen, CursorPosition}
use Rattle.laws_screens.specs.Pens.{led, change_strokes, kept_after}
use Rattle.laws_screens.specs.Strokes.Stroke.{ClearBehind}
use Rattle.laws_screens.specs.StyledCells.{styled}
use Rattle.tw_ansi.specs.declared.encode.Encoder.{Encoder}
use Rattle.tw_ansi.specs.EcmaLaws.{IsAttribute}
use Rattle.tw_ansi.specs.Encoding.{Sent, sent_batch, terse_batch}
use Rattle.tw_ansi.specs.Sequences.{most_rows}
use Rattle.tw_sparing.specs.StyledScreens.{StyledView, AreDrawn, IsSameBut, IsShownSame, at_row, blank_styled, paper_cell, styled_cell, without_rows}
use Rattle.tw_sparing.specs.ChangedScreens.{AreByBytes, AreAllByBytes}
use Rattle.tw_sparing.specs.Sending.{IsTypable, screen_cells, changes_between}
use Rattle.tw_sparing.specs.declared.shown.Shown.{Shown}

-- ---- what is known

-- an empty screen, of which a terminal shows the first row
abbrev pub first_shown : ℕ → Shown
first_shown cols = record { screen = blank_styled cols; reached = 1 }

-- the rows that have left a terminal of so many rows
abbrev pub left_behind : ℕ → Shown → ℕ
left_behind rows shown = shown.reached - rows

-- how many of the rows in sight stand above the cursor
abbrev pub rows_above : ℕ → Shown → ℕ
rows_above rows shown = shown.screen.row - left_behind rows shown

-- what is known of the rows from the cursor's on
abbrev pub from_cursor : Shown → Shown
from_cursor shown = record { screen = without_rows shown.screen.row shown.screen; reached = shown.reached - shown.screen.row }

-- what is still known of what is shown: all of it, or the rows from the cursor's on, or nothing
abbrev pub IsStillKnown : Option Shown → Option Shown → Type 0
IsStillKnown shown None = ⊤
IsStillKnown None (Some left) = ⊥
IsStillKnown (Some shown) (Some left) = (left ≡ shown) ⊎ (left ≡ from_cursor shown)

-- a screen of no more rows than can be told, on a terminal of no more, with its cursor in one of its columns and in one
-- of the last rows that it has reached, and characters of one column under colours by bytes in its cells
pub record FitsTerminal (rows : ℕ) (shown : Shown) : Type 0 where
  pub tall : rows ≤ most_rows
  pub most : shown.reached ≤ 65535
  pub row : shown.reached - rows ≤ shown.screen.row
  pub low : shown.screen.row < shown.reached
  pub col : shown.screen.col < shown.screen.width
  pub typable : IsTypable shown.reached shown.screen
  pub colors : AreAllByBytes shown.screen.width shown.reached (screen_cells shown.screen)
  pub kept : AreByBytes shown.screen.kept

-- ---- what is drawn on it

-- a change was drawn on a screen: its cells and cursor, and its attributes
pub record IsDrawn (change : ChangeView) (old new : StyledView) : Type 0 where
  pub width : new.width ≡ old.width
  pub drawn : AreDrawn old (change_strokes styled old.kept change) new
  pub kept : new.kept ≡ kept_after styled old.kept change

-- a move to a row of those that are in sight, so many of them above the cursor
abbrev pub IsInSight : ℕ → Position → Type 0
IsInSight above (Absolute row) = ⊥
IsInSight above (Relative (pos n)) = ⊤
IsInSight above (Relative (negsuc n)) = n < above

-- a change that does on a terminal what it does on a screen without a bottom: a text that is shown as it is measured, attributes, a move in
-- sight, and a clearing to blanks from a cursor on that does not wait after the last column
abbrev pub IsPlayable : ℕ → Shown → ChangeView → Type 0
IsPlayable rows shown (Text text) = IsShownSame shown.screen.width (Text text)
IsPlayable rows shown (Attribute change) = IsAttribute change
IsPlayable rows shown (AllAttributes to) = AreByBytes to
IsPlayable rows shown (ClearScreen color) = ⊥
IsPlayable rows shown (ClearToEndOfScreen color) = (color ≡ default_color) × (shown.screen.col < shown.screen.width)
IsPlayable rows shown (CursorPosition x y) = IsInSight (rows_above rows shown) y

-- such a change was drawn, and the row of the cursor is reached
pub record IsPlayedOnce (rows : ℕ) (change : ChangeView) (old new : Shown) : Type 0 where
  pub playable : IsPlayable rows old change
  pub drawn : IsDrawn change old.screen new.screen
  pub reached : new.reached ≡ max old.reached (new.screen.row + 1)

-- the changes of a batch were played, one after the other
abbrev pub IsPlayed : ℕ → Batch → Shown → Shown → Type 0
IsPlayed rows [] old new = new ≡ old
IsPlayed rows (change ∷ changes) old new = (between : Shown) × IsPlayedOnce rows change old between × IsPlayed rows changes between new

-- the cursor was led to column 0 of a row, from which on all is blank
pub record IsEmptiedFrom (y : Position) (old new : Shown) : Type 0 where
  pub same : IsSameBut old.screen new.screen
  pub above : 0 < new.screen.width
  pub drawn : AreDrawn (at_row (led y old.screen.row) old.screen) (ClearBehind (styled_cell (paper_cell default_color)) ∷ []) new.screen
  pub reached : new.reached ≡ max old.reached (new.screen.row + 1)

-- the first rows of two screens show the same, and the cursor of the old one is after them
pub record KeepsAbove (top : ℕ) (old new : StyledView) : Type 0 where
  pub row : top ≤ old.row
  pub cell : (i j : ℕ) → i < top → j < new.width → screen_cells old i j ≡ screen_cells new i j

-- a change that sets all attributes
abbrev pub SetsAttributes : ChangeView → Type 0
SetsAttributes (Text text) = ⊥
SetsAttributes (Attribute change) = ⊥
SetsAttributes (AllAttributes to) = ⊤
SetsAttributes (ClearScreen color) = ⊥
SetsAttributes (ClearToEndOfScreen color) = ⊥
SetsAttributes (CursorPosition x y) = ⊥

-- a batch that empties what stands from the cursor on, and then sets all attributes
abbrev pub Empties : Batch → Type 0
Empties batch = (second : ChangeView) × (rest : Batch) × SetsAttributes second × (batch ≡ ClearToEndOfScreen default_color ∷ second ∷ rest)

-- a move by rows that leads as far at any terminal
abbrev pub IsShortMove : Position → Type 0
IsShortMove (Absolute row) = ⊥
IsShortMove (Relative (pos n)) = n ≤ most_rows
IsShortMove (Relative (negsuc n)) = n < most_rows

-- a batch that leads to column 0 first, and what is left of it
abbrev pub IsMovedBy : Batch → Batch → Type 0
IsMovedBy batch rest = (y : Position) × IsShortMove y × (batch ≡ CursorPosition (Absolute 0) y ∷ rest)

-- a batch that empties what stands from column 0 on, after a move to that column or not
abbrev pub IsBegunBy : Batch → Batch → Type 0
IsBegunBy batch rest = Empties rest × ((batch ≡ rest) ⊎ IsMovedBy batch rest)

-- a batch that leads to column 0 first
abbrev pub LeadsToStart : Batch → Type 0
LeadsToStart batch = (rest : Batch) × IsMovedBy batch rest

-- where something is known after a batch, and nothing was before, the batch comes in column 0, the cursor being in
-- column x, or leads there
abbrev pub IsFromStart : ℕ → Batch → Option Shown → Option Shown → Type 0
IsFromStart x batch None (Some new) = (x ≡ 0) ⊎ LeadsToStart batch
IsFromStart x batch None None = ⊤
IsFromStart x batch (Some old) new = ⊤

-- a batch that leaves the cursor in column 0: it clears the screen last, or leads there and empties what stands below
abbrev pub EndsAtStart : Batch → Type 0
EndsAtStart batch = (before : Batch) × (color : ColorAttribute)
    × ((batch ≡ before ++ ClearScreen color ∷ []) ⊎ ((y : Position) × (batch ≡ before ++ CursorPosition (Absolute 0) y ∷ ClearToEndOfScreen color ∷ [])))

-- ---- what is known after it

-- a batch was drawn on what was known, and the rows that have left the terminal then show what they showed before
abbrev pub IsDrawnAfter : ℕ → Batch → Shown → Shown → Type 0
IsDrawnAfter rows batch old new = FitsTerminal rows new × IsPlayed rows batch old new × KeepsAbove (left_behind rows new) old.screen new.screen

-- a batch leads first to column 0 of a row out of sight, higher above the cursor than the rows in sight: so to the first
-- row of the terminal
abbrev pub goes_out_of_sight : ℕ → Batch → Bool
goes_out_of_sight above (CursorPosition (Absolute zero) (Relative (negsuc n)) ∷ rest) = not (ltb n above)
goes_out_of_sight above batch = false

-- A terminal whose rows are all reached was emptied from its first row on, and filled again: what is shown is what the
-- rest of the batch leaves on an empty screen.
pub record IsRefilled (rows : ℕ) (batch : Batch) (old new : Shown) : Type 0 where
  pub fits : FitsTerminal rows new
  pub before : rows ≤ old.reached
  pub row : left_behind rows old ≤ old.screen.row
  pub after : rows ≤ new.reached
  pub rest : Batch
  pub moved : IsMovedBy batch rest
  pub empties : Empties rest
  pub played : IsPlayed rows rest (first_shown old.screen.width) new

-- so one screen becomes another one: by a batch that goes out of sight first, or by any other
abbrev pub IsKnownBy : Bool → ℕ → Batch → Shown → Shown → Type 0
IsKnownBy true rows batch old new = IsRefilled rows batch old new
IsKnownBy false rows batch old new = IsDrawnAfter rows batch old new

-- what is known after a batch: by what was known before, or else on an empty screen what came after its beginning
abbrev pub IsKnownAfter : ℕ → ℕ → Batch → Option Shown → Option Shown → Type 0
IsKnownAfter cols rows batch old None = Unit {0}
IsKnownAfter cols rows batch (Some old) (Some new) = IsKnownBy (goes_out_of_sight (rows_above rows old) batch) rows batch old new
IsKnownAfter cols rows batch None (Some new) = FitsTerminal rows new × ((rest : Batch) × IsBegunBy batch rest × IsPlayed rows rest (first_shown cols) new)

-- ---- what is sent for it

-- what differs of two screens, each without its first rows
abbrev pub changes_below : ℕ → ℕ → Shown → Shown → Batch
changes_below old_top top old new = changes_between (old.reached - old_top) (new.reached - top) (without_rows old_top old.screen) (without_rows top new.screen)

-- how many rows of the old screen have left the terminal once it shows the new one: those that had left it before, and
-- those that leave it now, unless the old cursor stands in one of these
abbrev pub gone_rows : ℕ → Shown → Shown → ℕ
gone_rows rows old new = if leb (left_behind rows new) old.screen.row then max (left_behind rows old) (left_behind rows new) else left_behind rows old

-- what is sent for a batch: where it is known what is shown before it and after it, what differs of the rows that have
-- not left the terminal, its moves by few bytes; and else the batch itself
abbrev pub sent_for : ℕ → Batch → Option Shown → Option Shown → Encoder → Sent
sent_for rows batch None new e = sent_batch batch e
sent_for rows batch (Some old) None e = sent_batch batch e
sent_for rows batch (Some old) (Some new) e =
    terse_batch (changes_below (gone_rows rows old new) (left_behind rows new) old new) e
