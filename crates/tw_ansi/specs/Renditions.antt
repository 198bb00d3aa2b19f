-- The numbers by which ECMA-48 selects a graphic rendition (SGR), as a table that shares nothing with what is sent.
use Rattle.std.specs.Prelude.{◌≡◌, ℕ, ◌+◌, ◌/◌, ◌%◌, ltb, if◌then◌else◌, true, false, List, [], ◌∷◌, ◌++◌, codes}
use Rattle.std.specs.List.{AllByRecursion}
use Rattle.tw_surface.specs.declared.cell.AttributeChange.{AttributeChange}
use Rattle.tw_surface.specs.declared.cell.AttributeChange.TheVariants.{Intensity, Underline, Italic, Blink, Reverse, StrikeThrough, Invisible, Foreground, Background}
use Rattle.tw_surface.specs.declared.cell.Intensity.TheVariants as intensity
use Rattle.tw_surface.specs.declared.cell.Underline.TheVariants as underline
use Rattle.tw_surface.specs.declared.cell.Blink.TheVariants as blink
use Rattle.tw_surface.specs.declared.color.ColorAttribute.TheVariants.{Default}
use Rattle.tw_ansi.specs.Sequences.{sequence, set_attribute}

-- a change of an attribute, and its number
pub record Rendition : Type 0 where
  pub number : ℕ
  pub change : AttributeChange

-- what is sent by its number alone
abbrev pub renditions : List Rendition
renditions =
    record { number = 3; change = Italic true }
    ∷ record { number = 4; change = Underline underline.Single }
    ∷ record { number = 7; change = Reverse true }
    ∷ record { number = 8; change = Invisible true }
    ∷ record { number = 9; change = StrikeThrough true }
    ∷ record { number = 21; change = Underline underline.Double }
    ∷ record { number = 22; change = Intensity intensity.Normal }
    ∷ record { number = 23; change = Italic false }
    ∷ record { number = 24; change = Underline underline.None }
    ∷ record { number = 25; change = Blink blink.None }
    ∷ record { number = 27; change = Reverse false }
    ∷ record { number = 28; change = Invisible false }
    ∷ record { number = 29; change = StrikeThrough false }
    ∷ record { number = 39; change = Foreground Default }
    ∷ record { number = 49; change = Background Default }
    ∷ []

-- what is sent after 22, since a terminal may show bold and faint at once
abbrev pub intensities : List Rendition
intensities =
    record { number = 1; change = Intensity intensity.Bold }
    ∷ record { number = 2; change = Intensity intensity.Half }
    ∷ []

-- what is sent after 25, likewise
abbrev pub blinks : List Rendition
blinks =
    record { number = 5; change = Blink blink.Slow }
    ∷ record { number = 6; change = Blink blink.Rapid }
    ∷ []

-- a number below 100 in digits
abbrev pub digits : ℕ → List ℕ
digits n = if ltb n 10 then (48 + n) ∷ [] else (48 + n / 10) ∷ (48 + n % 10) ∷ []

-- the bytes of a change are an SGR sequence of these parameters and its number
abbrev pub IsSentBehind : List ℕ → Rendition → Type 0
IsSentBehind before row = set_attribute row.change ≡ sequence (before ++ digits row.number) (codes "m")

abbrev pub AttributesByNumber : Type 0
AttributesByNumber = AllByRecursion (IsSentBehind []) renditions × AllByRecursion (IsSentBehind (codes "22;")) intensities × AllByRecursion (IsSentBehind (codes "25;")) blinks
