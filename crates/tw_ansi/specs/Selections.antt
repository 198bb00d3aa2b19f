-- What a terminal selects by the parameters of SGR, by the same numbers of ECMA-48.
use Rattle.std.specs.Prelude.{ℕ, eqb, if◌then◌else◌, List, [], ◌∷◌, ◌++◌, codes}
use Rattle.std.specs.Cmp.Lexicographic.{pointwise}
use Rattle.tw_surface.specs.declared.cell.AttributeChange.{AttributeChange}
use Rattle.tw_surface.specs.declared.cell.AttributeChange.TheVariants.{Underline, Foreground, Background}
use Rattle.tw_surface.specs.declared.cell.CellAttributes.{CellAttributes}
use Rattle.tw_surface.specs.declared.cell.Underline.TheVariants as underline
use Rattle.tw_surface.specs.declared.color.ColorAttribute.{ColorAttribute}
use Rattle.tw_surface.specs.declared.color.ColorAttribute.TheVariants.{PaletteIndex, TrueColorWithDefaultFallback}
use Rattle.tw_surface.specs.Attributes.{with_attribute}
use Rattle.tw_surface.specs.Defaults.{default_attributes}
use Rattle.tw_ansi.specs.KeyBytes.{value_after}
use Rattle.tw_ansi.specs.Renditions.{Rendition, renditions, intensities, blinks, digits}

-- the parameters between semicolons
abbrev pub onto_first : ℕ → List (List ℕ) → List (List ℕ)
onto_first b [] = (b ∷ []) ∷ []
onto_first b (field ∷ more) = (b ∷ field) ∷ more

abbrev pub fields : List ℕ → List (List ℕ)
fields [] = [] ∷ []
fields (b ∷ bytes) = if eqb b 59 then [] ∷ fields bytes else onto_first b (fields bytes)

-- the attributes after a parameter that is the number of a row
abbrev pub selected_in : List Rendition → List ℕ → CellAttributes → CellAttributes
selected_in [] field a = a
selected_in (row ∷ rows) field a =
    if pointwise eqb field (digits row.number) then with_attribute row.change a else selected_in rows field a

-- underlines of other kinds, as terminals write them
abbrev pub underlined : List ℕ → CellAttributes → CellAttributes
underlined field a =
    if pointwise eqb field (codes "4:3") then with_attribute (Underline underline.Curly) a
    else if pointwise eqb field (codes "4:4") then with_attribute (Underline underline.Dotted) a
    else if pointwise eqb field (codes "4:5") then with_attribute (Underline underline.Dashed) a
    else selected_in (renditions ++ intensities ++ blinks) field a

-- a colour is awaited for the text or after it, and these numbers stand after its 38 or 48
pub data Awaited : Type 0 where
  NoColor : Awaited
  Color : (ColorAttribute → AttributeChange) → List ℕ → Awaited

-- what was selected so far
pub record Selection : Type 0 where
  pub attributes : CellAttributes
  pub awaited : Awaited

abbrev pub selects : CellAttributes → Selection
selects a = record { attributes = a; awaited = NoColor }

-- the numbers of a colour: after 5 its index, and after any other one red, green and blue
abbrev pub colored : (ColorAttribute → AttributeChange) → List ℕ → CellAttributes → Selection
colored kind (m ∷ index ∷ []) a =
    if eqb m 5 then selects (with_attribute (kind (PaletteIndex index)) a) else record { attributes = a; awaited = Color kind (m ∷ index ∷ []) }
colored kind (m ∷ red ∷ green ∷ blue ∷ more) a = selects (with_attribute (kind (TrueColorWithDefaultFallback red green blue)) a)
colored kind numbers a = record { attributes = a; awaited = Color kind numbers }

-- one more parameter
abbrev pub select : Awaited → List ℕ → CellAttributes → Selection
select NoColor field a =
    if eqb (value_after 0 field) 0 then selects default_attributes
    else if pointwise eqb field (codes "38") then record { attributes = a; awaited = Color Foreground [] }
    else if pointwise eqb field (codes "48") then record { attributes = a; awaited = Color Background [] }
    else selects (underlined field a)
select (Color kind numbers) field a = colored kind (numbers ++ value_after 0 field ∷ []) a

abbrev pub selected_by : List (List ℕ) → Selection → Selection
selected_by [] s = s
selected_by (field ∷ more) s = selected_by more (select s.awaited field s.attributes)

-- the attributes after an SGR sequence of these parameters
abbrev pub selected : List ℕ → CellAttributes → CellAttributes
selected parameters a = (selected_by (fields parameters) (selects a)).attributes
