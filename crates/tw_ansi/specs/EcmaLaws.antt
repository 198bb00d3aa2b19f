-- What a terminal does that is sent the bytes of changes.
use Rattle.std.specs.Prelude.{◌≡◌, ◌<◌, ◌≤◌, ◌+◌, ◌-◌, ◌^◌, ℕ, min, pos, negsuc, false, ◌++◌, ⊤}
use Rattle.laws_screens.specs.Strokes.{cleared_in}
use Rattle.tw_surface.specs.declared.cell.AttributeChange.{AttributeChange}
use Rattle.tw_surface.specs.declared.cell.AttributeChange.TheVariants.{Foreground, Background}
use Rattle.tw_surface.specs.declared.change.Position.TheVariants.{Relative}
use Rattle.tw_surface.specs.declared.color.ColorAttribute.{ColorAttribute}
use Rattle.tw_surface.specs.declared.color.ColorAttribute.TheVariants.{Default, PaletteIndex, TrueColorWithDefaultFallback}
use Rattle.tw_surface.specs.declared.cell.CellAttributes.{CellAttributes}
use Rattle.tw_surface.specs.Attributes.{with_attribute}
use Rattle.laws_screens.specs.Pens.{Pen}
use Rattle.tw_ansi.specs.Sequences.{along_row, along_column, to_column, to_row, set_attribute, set_attributes, clear_below, clear_rows, clear_all, clear_with, to_first_cell, most_rows}
use Rattle.tw_ansi.specs.EcmaScreen.{EcmaScreen, receive_all, row_cleared}
use Rattle.tw_ansi.specs.EcmaScreen as terminal

-- a terminal that has read no part of a sequence
abbrev pub at_rest : {C : Type 0} → EcmaScreen C → EcmaScreen C
at_rest t = record t { reading = terminal.Text }

-- a colour by bytes
abbrev pub IsColor : ColorAttribute → Type 0
IsColor Default = ⊤
IsColor (PaletteIndex index) = index < 256
IsColor (TrueColorWithDefaultFallback red green blue) = (red < 256) × (green < 256) × (blue < 256)

-- an attribute whose colour is by bytes
abbrev pub IsAttribute : AttributeChange → Type 0
IsAttribute (Foreground color) = IsColor color
IsAttribute (Background color) = IsColor color
IsAttribute _ = ⊤

-- setting an attribute selects it, and shows nothing
abbrev pub AttributeIsSelected : {A C : Type 0} → Pen A C → Type 0
AttributeIsSelected {A} {C} pen = (h w : ℕ) (a : AttributeChange) (t : EcmaScreen C) → IsAttribute a
    → receive_all pen h w (set_attribute a) (at_rest t) ≡ record t { rendition = with_attribute a t.rendition; reading = terminal.Text }

-- setting all of them selects them, whatever was selected before, and shows nothing
abbrev pub AttributesAreSelected : {A C : Type 0} → Pen A C → Type 0
AttributesAreSelected {A} {C} pen = (h w : ℕ) (to : CellAttributes) (t : EcmaScreen C) → IsColor to.foreground → IsColor to.background
    → receive_all pen h w (set_attributes to) (at_rest t) ≡ record t { rendition = to; reading = terminal.Text }

-- going to a column of the screen leads there, from wherever the cursor stands or waits, and shows nothing
abbrev pub ColumnsAreReached : {A C : Type 0} → Pen A C → Type 0
ColumnsAreReached {A} {C} pen = (h w col : ℕ) (t : EcmaScreen C) → col < w → col < 2 ^ 64
    → receive_all pen h w (to_column col) (at_rest t) ≡ record t { col = col; waits = false; reading = terminal.Text }

-- going from the cursor's column to another one of the screen leads there, where the cursor does not wait, and shows
-- nothing
abbrev pub AlongRowsAreReached : {A C : Type 0} → Pen A C → Type 0
AlongRowsAreReached {A} {C} pen = (h w col : ℕ) (t : EcmaScreen C) → t.col < w → col < w → w < 2 ^ 64
    → receive_all pen h w (along_row t.col col) (record t { waits = false; reading = terminal.Text })
    ≡ record t { col = col; waits = false; reading = terminal.Text }

-- going up leads so many rows up, and no further than to row 0, and shows nothing
abbrev pub RowsAboveAreReached : {A C : Type 0} → Pen A C → Type 0
RowsAboveAreReached {A} {C} pen = (h w n : ℕ) (t : EcmaScreen C) → n < most_rows
    → receive_all pen h w (to_row (Relative (negsuc n))) (at_rest t) ≡ record t { row = t.row - (n + 1); waits = false; reading = terminal.Text }

-- going down to a row of the terminal leads there, and shows nothing
abbrev pub RowsBelowAreReached : {A C : Type 0} → Pen A C → Type 0
RowsBelowAreReached {A} {C} pen = (h w n : ℕ) (t : EcmaScreen C) → 0 < n → n ≤ most_rows → t.row + n < h
    → receive_all pen h w (along_column (Relative (pos n))) (at_rest t) ≡ record t { row = t.row + n; waits = false; reading = terminal.Text }

-- clearing from the cursor on, with any colour, leaves that colour's paper in the cells from the cursor's on
abbrev pub ClearsBelow : {A C : Type 0} → Pen A C → Type 0
ClearsBelow {A} {C} pen = (h w : ℕ) (color : ColorAttribute) (t : EcmaScreen C) → IsColor color → IsColor t.rendition.background
    → receive_all pen h w (clear_with clear_below color t.rendition.background) (at_rest t)
    ≡ record t { cell = cleared_in t.cell t.row t.col (pen.paper color); reading = terminal.Text }

-- the cells after clearing the row from a column on, and then all from the next column on, as far as there is one
abbrev pub rows_cleared : {C : Type 0} → ℕ → C → EcmaScreen C → ℕ → ℕ → C
rows_cleared w x t = cleared_in (row_cleared t.cell t.row t.col x) t.row (min (w - 1) (t.col + 1)) x

-- clearing by rows clears them, and leads to column 0
abbrev pub ClearsRows : {A C : Type 0} → Pen A C → Type 0
ClearsRows {A} {C} pen = (h w : ℕ) (color : ColorAttribute) (t : EcmaScreen C) → IsColor color → IsColor t.rendition.background
    → receive_all pen h w (clear_with clear_rows color t.rendition.background) (at_rest t)
    ≡ record t { cell = rows_cleared w (pen.paper color) t; col = 0; waits = false; reading = terminal.Text }

-- clearing the screen leaves paper everywhere, with the cursor in the first cell
abbrev pub ClearsAll : {A C : Type 0} → Pen A C → Type 0
ClearsAll {A} {C} pen = (h w : ℕ) (color : ColorAttribute) (t : EcmaScreen C) → IsColor color → IsColor t.rendition.background
    → receive_all pen h w (to_first_cell ++ clear_with clear_all color t.rendition.background) (at_rest t)
    ≡ record t { cell = λ r c. pen.paper color; row = 0; col = 0; waits = false; reading = terminal.Text }
