-- What a terminal selects that keeps the numbers of colours in bytes.
use Rattle.std.specs.Prelude.{ℕ, ◌&&◌, eqb, ltb, not, Bool, true, if◌then◌else◌, List, [], ◌∷◌, Option, Some, None}
use Rattle.tw_surface.specs.declared.cell.AttributeChange.{AttributeChange}
use Rattle.tw_surface.specs.declared.cell.AttributeChange.TheVariants.{Foreground, Background}
use Rattle.tw_surface.specs.declared.cell.CellAttributes.{CellAttributes}
use Rattle.tw_surface.specs.declared.color.ColorAttribute.{ColorAttribute}
use Rattle.tw_surface.specs.Attributes.{with_attribute}
use Rattle.tw_ansi.specs.KeyBytes.{value_after}
use Rattle.tw_ansi.specs.Selections.{Awaited, NoColor, Color, Selection, fields, select, selected, selects}
use Rattle.ecma_terminal.specs.declared.rendition.Awaited as awaited
use Rattle.ecma_terminal.specs.declared.rendition.Awaited.TheVariants as awaited_variants
use Rattle.ecma_terminal.specs.declared.rendition.Ground.{Ground}
use Rattle.ecma_terminal.specs.declared.rendition.Ground.TheVariants.{Text, Paper}
use Rattle.ecma_terminal.specs.declared.rendition.Numbers.{Numbers}
use Rattle.ecma_terminal.specs.declared.rendition.Numbers.TheVariants as numbers
use Rattle.ecma_terminal.specs.declared.rendition.Selection as selection

-- a parameter that is a number of a colour is below 256
abbrev pub fits_awaited : Awaited → List ℕ → Bool
fits_awaited NoColor field = true
fits_awaited (Color kind numbers) field = ltb (value_after 0 field) 256

-- so are all numbers of colours among some parameters, after what was selected so far
abbrev pub all_fit : List (List ℕ) → Selection → Bool
all_fit [] s = true
all_fit (field ∷ more) s = fits_awaited s.awaited field && all_fit more (select s.awaited field s.attributes)

-- so are all among the parameters of an SGR sequence
abbrev pub colors_fit : List ℕ → CellAttributes → Bool
colors_fit parameters a = all_fit (fields parameters) (selects a)

-- parameters and the letter of SGR, where a number of a colour is above 255
abbrev pub ends_in_large : List ℕ → ℕ → CellAttributes → Bool
ends_in_large parameters letter a = eqb letter 109 && not (colors_fit parameters a)

-- what SGR selects where all numbers of colours are below 256
abbrev pub selected_if_fit : List ℕ → CellAttributes → Option CellAttributes
selected_if_fit parameters a = if colors_fit parameters a then Some (selected parameters a) else None

-- ---- what is kept meanwhile

-- what a colour is for
abbrev pub kind_of : Ground → ColorAttribute → AttributeChange
kind_of Text color = Foreground color
kind_of Paper color = Background color

-- the numbers that were read
abbrev pub numbers_in : Numbers → List ℕ
numbers_in numbers.None = []
numbers_in (numbers.One a) = a ∷ []
numbers_in (numbers.Two a b) = a ∷ b ∷ []
numbers_in (numbers.Three a b c) = a ∷ b ∷ c ∷ []

-- the colour that is awaited
abbrev pub awaited_of : awaited.Awaited → Awaited
awaited_of awaited_variants.Nothing = NoColor
awaited_of (awaited_variants.Color purpose read) = Color (kind_of purpose) (numbers_in read)

-- what was selected so far
abbrev pub selection_of : selection.Selection → Selection
selection_of s = record { attributes = s.attributes; awaited = awaited_of s.awaited }

-- the attributes after a change, if there is one
abbrev pub changed_by : Option AttributeChange → CellAttributes → CellAttributes
changed_by None a = a
changed_by (Some change) a = with_attribute change a
