-- The attributes and the colour that a cell has at first.
use Rattle.std.specs.Prelude.{false}
use Rattle.tw_surface.specs.declared.cell.CellAttributes.{CellAttributes}
use Rattle.tw_surface.specs.declared.cell.Intensity.TheVariants.{Normal}
use Rattle.tw_surface.specs.declared.cell.Underline.TheVariants as underline
use Rattle.tw_surface.specs.declared.cell.Blink.TheVariants as blink
use Rattle.tw_surface.specs.declared.color.ColorAttribute.{ColorAttribute}
use Rattle.tw_surface.specs.declared.color.ColorAttribute.TheVariants.{Default}

-- the colour of an untouched cell
abbrev pub default_color : ColorAttribute
default_color = Default

-- all attributes at their defaults
abbrev pub default_attributes : CellAttributes
default_attributes = record {
  intensity = Normal;
  underline = underline.None;
  blink = blink.None;
  italic = false;
  reverse = false;
  strikethrough = false;
  invisible = false;
  foreground = Default;
  background = Default;
}
