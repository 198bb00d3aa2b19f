-- Attributes in a colour.
use Rattle.tw_surface.specs.Defaults.{default_attributes}
use Rattle.tw_surface.specs.declared.cell.CellAttributes.{CellAttributes}
use Rattle.tw_surface.specs.declared.color.ColorAttribute.{ColorAttribute}

-- a text in a colour, on the terminal's own background
abbrev pub in_color : ColorAttribute → CellAttributes
in_color color = record default_attributes { foreground = color }
