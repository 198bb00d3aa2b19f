-- What a cell of a terminal holds.
use Rattle.tw_surface.specs.declared.color.ColorAttribute.{ColorAttribute}
use Rattle.tw_surface.specs.Defaults.{default_attributes}
use Rattle.tw_surface.specs.Pictures.{blank}
use Rattle.laws_screens.specs.StyledCells.{StyledCell}
use Rattle.ecma_terminal.specs.declared.cell.TerminalCell.{TerminalCell}

-- a cell of the terminal, as one of a picture
abbrev pub shown_cell : TerminalCell → StyledCell
shown_cell cell = record { ch = cell.number; attributes = cell.attributes }

-- what a clearing to a colour leaves
abbrev pub cleared_cell : ColorAttribute → TerminalCell
cleared_cell color = record { number = blank; attributes = record default_attributes { background = color } }
