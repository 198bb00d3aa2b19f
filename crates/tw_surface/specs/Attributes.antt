-- What setting one attribute makes of all of them.
use Rattle.tw_surface.specs.declared.cell.AttributeChange.{AttributeChange}
use Rattle.tw_surface.specs.declared.cell.AttributeChange.TheVariants as attribute
use Rattle.tw_surface.specs.declared.cell.CellAttributes.{CellAttributes}

-- attributes once one of them is set
abbrev pub with_attribute : AttributeChange → CellAttributes → CellAttributes
with_attribute (attribute.Intensity to) a = record a { intensity = to }
with_attribute (attribute.Underline to) a = record a { underline = to }
with_attribute (attribute.Italic to) a = record a { italic = to }
with_attribute (attribute.Blink to) a = record a { blink = to }
with_attribute (attribute.Reverse to) a = record a { reverse = to }
with_attribute (attribute.StrikeThrough to) a = record a { strikethrough = to }
with_attribute (attribute.Invisible to) a = record a { invisible = to }
with_attribute (attribute.Foreground to) a = record a { foreground = to }
with_attribute (attribute.Background to) a = record a { background = to }
