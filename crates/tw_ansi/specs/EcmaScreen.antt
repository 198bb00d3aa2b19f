-- A small terminal after ECMA-48: w columns and h rows of any kind of cells, and what each byte that comes does to it.
use Rattle.std.specs.Prelude.{ℕ, ◌+◌, ◌-◌, ◌&&◌, ◌||◌, eqb, ltb, leb, min, Bool, true, false, if◌then◌else◌, List, [], ◌∷◌, ◌++◌, length, chars}
use Rattle.std.specs.List.{list_all, sum_by}
use Rattle.laws_screens.specs.Strokes.{put_all, cleared_in}
use Rattle.tw_surface.specs.declared.cell.CellAttributes.{CellAttributes}
use Rattle.tw_surface.specs.Characters.{is_printable, cr, lf}
use Rattle.tw_surface.specs.Width.{char_columns}
use Rattle.laws_screens.specs.Pens.{Pen, cluster_cells}
use Rattle.laws_screens.specs.Screens.{blank_of}
use Rattle.tw_ansi.specs.KeyBytes.{is_digit, is_parameter, value_after, following_len}
use Rattle.tw_ansi.specs.Selections.{selected}
use Rattle.tw_ansi.specs.Sequences.{bs}

-- how far a control sequence was read: none, an ESC, or ESC [ and these parameters; or how far a character was: these
-- bytes of more
pub data Reading : Type 0 where
  Text : Reading
  Escaped : Reading
  Parameters : List ℕ → Reading
  Begun : List ℕ → Reading

-- the cells shown, the cursor, whether it waits after the last column, the columns of the character that was written
-- last, the attributes that are selected, and how far a sequence was read
pub record EcmaScreen (C : Type 0) : Type 0 where
  pub cell : ℕ → ℕ → C
  pub row : ℕ
  pub col : ℕ
  pub waits : Bool
  pub last : ℕ
  pub rendition : CellAttributes
  pub reading : Reading

-- to column 0
abbrev pub return_to_start : {C : Type 0} → EcmaScreen C → EcmaScreen C
return_to_start t = record t { col = 0; waits = false }

-- to the next row; in the last row all rows go up by one, and one of blanks comes
abbrev pub feed_line : {C : Type 0} → C → ℕ → EcmaScreen C → EcmaScreen C
feed_line blank h t =
    if eqb (t.row + 1) h
    then record t { cell = λ r c. if ltb (r + 1) h then t.cell (r + 1) c else blank; waits = false }
    else record t { row = t.row + 1; waits = false }

-- one column to the left
abbrev pub step_back : {C : Type 0} → EcmaScreen C → EcmaScreen C
step_back t = record t { col = t.col - 1; waits = false }

-- the cells of a character are written at the cursor, which moves on, and waits in the last column where they reach it
abbrev pub write_here : {C : Type 0} → ℕ → List C → EcmaScreen C → EcmaScreen C
write_here w cells t =
    if eqb (t.col + length cells) w
    then record t { cell = put_all t.cell t.row t.col cells; col = w - 1; waits = true; last = length cells }
    else record t { cell = put_all t.cell t.row t.col cells; col = t.col + length cells; last = length cells }

-- so it is at the start of the next row where the cursor waits, or where they do not fit in this one
abbrev pub write : {C : Type 0} → C → ℕ → ℕ → List C → EcmaScreen C → EcmaScreen C
write blank h w cells t =
    if t.waits || ltb w (t.col + length cells) then write_here w cells (return_to_start (feed_line blank h t)) else write_here w cells t

abbrev pub columns_of : List ℕ → ℕ
columns_of bytes = sum_by char_columns (chars bytes)

-- all bytes of a character have come
abbrev pub is_whole_character : List ℕ → Bool
is_whole_character [] = false
is_whole_character (lead ∷ more) = eqb (length more) (following_len lead)

-- a cell to which the bytes of a mark are added, and every other one as it was
abbrev pub joined_in : {C : Type 0} → (C → List ℕ → C) → (ℕ → ℕ → C) → ℕ → ℕ → List ℕ → ℕ → ℕ → C
joined_in join cell r c mark i j = if eqb i r && eqb j c then join (cell i j) mark else cell i j

-- a mark joins the character before the cursor, which was written last: in the cell in which that begins
abbrev pub join_mark : {A C : Type 0} → Pen A C → ℕ → List ℕ → EcmaScreen C → EcmaScreen C
join_mark pen w mark t = record t { cell = joined_in pen.join t.cell t.row ((if t.waits then w else t.col) - t.last) mark }

-- a character of several bytes is written by its columns, and is a mark where it has none
abbrev pub write_character : {A C : Type 0} → Pen A C → ℕ → ℕ → List ℕ → EcmaScreen C → EcmaScreen C
write_character pen h w bytes t =
    if eqb (columns_of bytes) 0 then join_mark pen w bytes t else write (blank_of pen) h w (cluster_cells pen (pen.attributes t.rendition) bytes (columns_of bytes)) t

-- x in the row from column col on
abbrev pub row_cleared : {C : Type 0} → (ℕ → ℕ → C) → ℕ → ℕ → C → ℕ → ℕ → C
row_cleared cell row col x r c = if eqb row r && leb col c then x else cell r c

-- a number of steps: none written means one
abbrev pub told_steps : ℕ → ℕ
told_steps n = if eqb n 0 then 1 else n

-- what a sequence of one number does: CUU, CUD, CUF and CUB stop at the edge, VPA and CUP count from 1, ED clears from
-- the cursor on or all, EL the row from the cursor on, and any other does nothing; what is cleared is under the colour
-- that is selected
abbrev pub act_by : {A C : Type 0} → Pen A C → ℕ → ℕ → ℕ → ℕ → EcmaScreen C → EcmaScreen C
act_by pen h w n letter t =
    let paper = pen.paper t.rendition.background in
    if eqb letter 65 then record t { row = t.row - told_steps n; waits = false }
    else if eqb letter 66 then record t { row = min (h - 1) (t.row + told_steps n); waits = false }
    else if eqb letter 67 then record t { col = min (w - 1) (t.col + told_steps n); waits = false }
    else if eqb letter 68 then record t { col = t.col - told_steps n; waits = false }
    else if eqb letter 72 then record t { row = min (h - 1) (told_steps n - 1); col = 0; waits = false }
    else if eqb letter 74 && eqb n 0 then record t { cell = cleared_in t.cell t.row t.col paper }
    else if eqb letter 74 && eqb n 2 then record t { cell = λ r c. paper }
    else if eqb letter 75 && eqb n 0 then record t { cell = row_cleared t.cell t.row t.col paper }
    else if eqb letter 100 then record t { row = min (h - 1) (told_steps n - 1); waits = false }
    else t

-- what a sequence does: SGR selects attributes, and one of other parameters than a number does nothing
abbrev pub act : {A C : Type 0} → Pen A C → ℕ → ℕ → List ℕ → ℕ → EcmaScreen C → EcmaScreen C
act pen h w parameters letter t =
    if eqb letter 109 then record t { rendition = selected parameters t.rendition }
    else if list_all is_digit parameters then act_by pen h w (value_after 0 parameters) letter t
    else t

-- a byte outside a sequence
abbrev pub receive_text : {A C : Type 0} → Pen A C → ℕ → ℕ → ℕ → EcmaScreen C → EcmaScreen C
receive_text pen h w b t =
    if eqb b 27 then record t { reading = Escaped }
    else if eqb b cr then return_to_start t
    else if eqb b lf then feed_line (blank_of pen) h t
    else if eqb b bs then step_back t
    else if is_printable b then write (blank_of pen) h w (cluster_cells pen (pen.attributes t.rendition) (b ∷ []) 1) t
    else if leb 194 b then record t { reading = Begun (b ∷ []) }
    else t

-- the bytes of a character so far
abbrev pub receive_begun : {A C : Type 0} → Pen A C → ℕ → ℕ → List ℕ → EcmaScreen C → EcmaScreen C
receive_begun pen h w bytes t = if is_whole_character bytes then write_character pen h w bytes (record t { reading = Text }) else record t { reading = Begun bytes }

-- a byte
abbrev pub receive_by : {A C : Type 0} → Pen A C → ℕ → ℕ → Reading → ℕ → EcmaScreen C → EcmaScreen C
receive_by pen h w Text b t = receive_text pen h w b t
receive_by pen h w Escaped b t = record t { reading = if eqb b 91 then Parameters [] else Text }
receive_by pen h w (Begun bytes) b t = receive_begun pen h w (bytes ++ b ∷ []) t
receive_by pen h w (Parameters parameters) b t =
    if is_parameter b then record t { reading = Parameters (parameters ++ b ∷ []) }
    else record (act pen h w parameters b t) { reading = Text }

abbrev pub receive : {A C : Type 0} → Pen A C → ℕ → ℕ → ℕ → EcmaScreen C → EcmaScreen C
receive pen h w b t = receive_by pen h w t.reading b t

-- bytes, one after the other
abbrev pub receive_all : {A C : Type 0} → Pen A C → ℕ → ℕ → List ℕ → EcmaScreen C → EcmaScreen C
receive_all pen h w [] t = t
receive_all pen h w (b ∷ bytes) t = receive_all pen h w bytes (receive pen h w b t)
