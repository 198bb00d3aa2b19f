-- The bytes of control sequences.
use Rattle.std.specs.Prelude.{ℕ, zero, Bool, true, false, eqb, ◌&&◌, ltb, leb, min, ◌+◌, ◌-◌, pos, negsuc, replicate, if◌then◌else◌, List, [], ◌∷◌, ◌++◌, codes}
use Rattle.std.specs.Fmt.{decimal}
use Rattle.std.specs.List.{flat_map}
use Rattle.tw_surface.specs.declared.change.Position.{Position}
use Rattle.tw_surface.specs.declared.change.Position.TheVariants.{Absolute, Relative}
use Rattle.tw_surface.specs.declared.cell.AttributeChange.{AttributeChange}
use Rattle.tw_surface.specs.declared.cell.AttributeChange.TheVariants.{Intensity, Underline, Italic, Blink, Reverse, StrikeThrough, Invisible, Foreground, Background}
use Rattle.tw_surface.specs.declared.cell.CellAttributes.{CellAttributes}
use Rattle.tw_surface.specs.declared.cell.Intensity.TheVariants as intensity
use Rattle.tw_surface.specs.declared.cell.Underline.TheVariants as underline
use Rattle.tw_surface.specs.declared.cell.Blink.TheVariants as blink
use Rattle.tw_surface.specs.declared.color.ColorAttribute.{ColorAttribute}
use Rattle.tw_surface.specs.declared.color.ColorAttribute.TheVariants.{Default, PaletteIndex, TrueColorWithDefaultFallback}
use Rattle.tw_surface.specs.Characters.{cr, lf}

-- BS, one column to the left
abbrev pub bs : ℕ
bs = 8

-- ESC
abbrev pub esc : ℕ
esc = 27

-- ESC [, some parameters and the text that says what they are for
abbrev pub sequence : List ℕ → List ℕ → List ℕ
sequence parameters letter = esc ∷ 91 ∷ parameters ++ letter

-- the most rows that a move leads up or down
abbrev pub most_rows : ℕ
most_rows = 65535

-- to a column of the row: to its first one by CR, and to the right by CUF
abbrev pub to_column : ℕ → List ℕ
to_column col = cr ∷ (if eqb col 0 then [] else sequence (decimal col) (codes "C"))

-- the parameter of some steps: none says one
abbrev pub step_count : ℕ → List ℕ
step_count n = if eqb n 1 then [] else decimal n

-- from a column to another one of the row: nothing where it is the same, to the first one by CR, to the right by CUF,
-- and to the left by BS, or by CUB where that is shorter
abbrev pub along_row : ℕ → ℕ → List ℕ
along_row from to =
    if eqb from to then []
    else if eqb to 0 then cr ∷ []
    else if ltb from to then sequence (step_count (to - from)) (codes "C")
    else if leb (from - to) 3 then replicate (from - to) bs
    else sequence (decimal (from - to)) (codes "D")

-- to a row: by VPA, which counts from 1, down by line feeds, so that the last row scrolls, and up by CUU
abbrev pub to_row : Position → List ℕ
to_row (Absolute row) = sequence (decimal (min row most_rows + 1)) (codes "d")
to_row (Relative (pos n)) = replicate (min n most_rows) lf
to_row (Relative (negsuc n)) = sequence (decimal (min (n + 1) most_rows)) (codes "A")

-- up by one row
abbrev pub up_a_row : List ℕ
up_a_row = sequence [] (codes "A")

-- to a row of the terminal, by few bytes: down by up to three line feeds, and further by CUD; up by one without a
-- number
abbrev pub along_column : Position → List ℕ
along_column (Relative (pos n)) = if leb n 3 then replicate n lf else sequence (decimal (min n most_rows)) (codes "B")
along_column (Relative (negsuc zero)) = up_a_row
along_column y = to_row y

-- from the cursor on all is cleared
abbrev pub clear_below : List ℕ
clear_below = sequence [] (codes "J")

-- from column 0 on all is cleared: the row first, then what stands from the next column on, and back. From the first
-- cell on, a terminal that keeps what scrolls off may take the clearing of its rows for the clearing of its screen, and
-- keep them all.
abbrev pub clear_rows : List ℕ
clear_rows = sequence [] (codes "K") ++ sequence [] (codes "C") ++ clear_below ++ cr ∷ []

-- the whole screen is cleared
abbrev pub clear_all : List ℕ
clear_all = sequence (codes "2") (codes "J")

-- to the first cell
abbrev pub to_first_cell : List ℕ
to_first_cell = sequence [] (codes "H")

-- the parameters of a colour, where 3 is the text's own and 4 the one after it
abbrev pub color_parameters : List ℕ → ColorAttribute → List ℕ
color_parameters kind Default = kind ++ codes "9"
color_parameters kind (PaletteIndex index) = kind ++ codes "8;5;" ++ decimal index
color_parameters kind (TrueColorWithDefaultFallback red green blue) =
    kind ++ codes "8;2;" ++ decimal red ++ codes ";" ++ decimal green ++ codes ";" ++ decimal blue

-- the parameters that set an attribute
abbrev pub attribute_parameters : AttributeChange → List ℕ
attribute_parameters (Intensity intensity.Normal) = codes "22"
attribute_parameters (Intensity intensity.Bold) = codes "22;1"
attribute_parameters (Intensity intensity.Half) = codes "22;2"
attribute_parameters (Underline underline.None) = codes "24"
attribute_parameters (Underline underline.Single) = codes "4"
attribute_parameters (Underline underline.Double) = codes "21"
attribute_parameters (Underline underline.Curly) = codes "4:3"
attribute_parameters (Underline underline.Dotted) = codes "4:4"
attribute_parameters (Underline underline.Dashed) = codes "4:5"
attribute_parameters (Blink blink.None) = codes "25"
attribute_parameters (Blink blink.Slow) = codes "25;5"
attribute_parameters (Blink blink.Rapid) = codes "25;6"
attribute_parameters (Italic false) = codes "23"
attribute_parameters (Italic true) = codes "3"
attribute_parameters (Reverse false) = codes "27"
attribute_parameters (Reverse true) = codes "7"
attribute_parameters (StrikeThrough false) = codes "29"
attribute_parameters (StrikeThrough true) = codes "9"
attribute_parameters (Invisible false) = codes "28"
attribute_parameters (Invisible true) = codes "8"
attribute_parameters (Foreground color) = color_parameters (codes "3") color
attribute_parameters (Background color) = color_parameters (codes "4") color

-- sets an attribute: SGR
abbrev pub set_attribute : AttributeChange → List ℕ
set_attribute change = sequence (attribute_parameters change) (codes "m")

-- whether an attribute is a colour
abbrev pub is_color : AttributeChange → Bool
is_color (Foreground color) = true
is_color (Background color) = true
is_color _ = false

-- the attribute has its first value
abbrev pub is_off : AttributeChange → Bool
is_off (Intensity intensity.Normal) = true
is_off (Underline underline.None) = true
is_off (Blink blink.None) = true
is_off (Italic false) = true
is_off (Reverse false) = true
is_off (StrikeThrough false) = true
is_off (Invisible false) = true
is_off (Foreground Default) = true
is_off (Background Default) = true
is_off _ = false

-- each attribute
abbrev pub attributes_of : CellAttributes → List AttributeChange
attributes_of a =
    Intensity a.intensity ∷ Underline a.underline ∷ Blink a.blink ∷ Italic a.italic ∷ Reverse a.reverse
    ∷ StrikeThrough a.strikethrough ∷ Invisible a.invisible ∷ Foreground a.foreground ∷ Background a.background ∷ []

-- sets an attribute that is not at its first value
abbrev pub set_unless_off : AttributeChange → List ℕ
set_unless_off change = if is_off change then [] else set_attribute change

-- sets all attributes: those that are on, from none on
abbrev pub set_attributes : CellAttributes → List ℕ
set_attributes a = sequence (codes "0") (codes "m") ++ flat_map set_unless_off (attributes_of a)

-- whether two colours are one
abbrev pub is_same_color : ColorAttribute → ColorAttribute → Bool
is_same_color Default Default = true
is_same_color (PaletteIndex a) (PaletteIndex b) = eqb a b
is_same_color (TrueColorWithDefaultFallback a b c) (TrueColorWithDefaultFallback d e f) = eqb a d && eqb b e && eqb c f
is_same_color _ _ = false

-- clears by a sequence, with this colour after the text; the colour that is set there stays set
abbrev pub clear_with : List ℕ → ColorAttribute → ColorAttribute → List ℕ
clear_with clear color set =
    if is_same_color color set then clear
    else set_attribute (Background color) ++ clear ++ set_attribute (Background set)
