-- The cells that a terminal holds.
use Rattle.std.specs.Prelude.{ℕ, ◌≡◌, ◌+◌, ◌*◌, ◌^◌, ◌<◌, ◌≤◌, ◌&&◌, leb, ltb, if◌then◌else◌, Bool, List, length, slice_index_or}
use Rattle.tw_surface.specs.Defaults.{default_color}
use Rattle.laws_screens.specs.StyledCells.{StyledCell, number_from}
use Rattle.ecma_terminal.specs.declared.cell.TerminalCell.{TerminalCell}
use Rattle.ecma_terminal.specs.Cells.{shown_cell, cleared_cell}

-- its rows and columns, and its cells, row after row
pub record GridView : Type 0 where
  pub rows : ℕ
  pub cols : ℕ
  pub cells : List TerminalCell

-- there are 1 to 65,535 rows and columns, and a cell for each place
pub record IsGrid (grid : GridView) : Type 0 where
  pub rows_above : 0 < grid.rows
  pub rows_most : grid.rows ≤ 65535
  pub cols_above : 0 < grid.cols
  pub cols_most : grid.cols ≤ 65535
  pub all : length grid.cells ≡ grid.rows * grid.cols

-- the cell at a row and a column
abbrev pub grid_cell : GridView → ℕ → ℕ → TerminalCell
grid_cell grid r c = slice_index_or grid.cells (r * grid.cols + c) (cleared_cell default_color)

-- a grid shows cells in its rows and columns
abbrev pub ShowsCells : GridView → (ℕ → ℕ → StyledCell) → Type 0
ShowsCells grid cell = (r c : ℕ) → r < grid.rows → c < grid.cols → cell r c ≡ shown_cell (grid_cell grid r c)

-- a grid of so many rows and columns that shows one cell everywhere
pub record IsFilledWith (h w : ℕ) (x : StyledCell) (grid : GridView) : Type 0 where
  pub rows : grid.rows ≡ h
  pub cols : grid.cols ≡ w
  pub shown : ShowsCells grid (λ r c. x)

-- a grid becomes another one of its size: whatever cells the first one shows, the other shows what a rule makes of them
pub record Redraws (old : GridView) (rule : (ℕ → ℕ → StyledCell) → ℕ → ℕ → StyledCell) (new : GridView) : Type 0 where
  pub rows : new.rows ≡ old.rows
  pub cols : new.cols ≡ old.cols
  pub shown : (cell : ℕ → ℕ → StyledCell) → ShowsCells old cell → ShowsCells new (rule cell)

-- the cells of h rows, one row up, and one of blanks
abbrev pub raised_rows : ℕ → StyledCell → (ℕ → ℕ → StyledCell) → ℕ → ℕ → StyledCell
raised_rows h blank cell r c = if ltb (r + 1) h then cell (r + 1) c else blank

-- cells are those that they were, but for one cell from one place to before another
abbrev pub AreFilled : ℕ → ℕ → TerminalCell → List TerminalCell → List TerminalCell → Type 0
AreFilled from to x old new = (k : ℕ) (d : TerminalCell) → k < length old
    → slice_index_or new k d ≡ (if leb from k && ltb k to then x else slice_index_or old k d)

-- cells went so many places to the front, but for the last ones
abbrev pub AreShifted : ℕ → List TerminalCell → List TerminalCell → Type 0
AreShifted by old new = (k : ℕ) (d : TerminalCell) → k < length old
    → slice_index_or new k d ≡ (if ltb (k + by) (length old) then slice_index_or old (k + by) d else slice_index_or old k d)

-- a cell that has more than 16 bytes once a mark has joined it
abbrev pub is_full : GridView → ℕ → ℕ → List ℕ → Bool
is_full grid row col mark = ltb col grid.cols && leb (2 ^ 128) (number_from (grid_cell grid row col).number mark)
