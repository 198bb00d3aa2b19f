-- Where two rows differ.
use Rattle.std.specs.Prelude.{ℕ, ◌+◌, ◌*◌, ◌/◌, ◌%◌, Bool, ◌&&◌, not, eqb, Option, Some, None}
use Rattle.tw_surface.specs.contracts.cell.CellAttributesPartialEq.TheImpl.{ghosts as attributes}
use Rattle.laws_screens.specs.Screens.{blank_of}
use Rattle.laws_screens.specs.StyledCells.{StyledCell, styled}
use Rattle.tw_line.specs.Extremes.{least_from, greatest_below}

-- the same character under the same attributes
abbrev pub is_same_cell : StyledCell → StyledCell → Bool
is_same_cell x y = eqb x.ch y.ch && attributes.eq x.attributes y.attributes

-- two rows differ in this column
abbrev pub differ_in : (ℕ → StyledCell) → (ℕ → StyledCell) → ℕ → Bool
differ_in old new col = not (is_same_cell (old col) (new col))

-- the first of w columns in which two rows differ
abbrev pub first_changed : ℕ → (ℕ → StyledCell) → (ℕ → StyledCell) → Option ℕ
first_changed w old new = least_from (differ_in old new) 0 w

-- the last one
abbrev pub last_changed : ℕ → (ℕ → StyledCell) → (ℕ → StyledCell) → Option ℕ
last_changed w old new = greatest_below (differ_in old new) w

-- an empty cell
abbrev pub blank_cell : StyledCell
blank_cell = blank_of styled

-- the place of index k, counted along the rows, is not blank
abbrev pub is_used : ℕ → (ℕ → ℕ → StyledCell) → ℕ → Bool
is_used w cells k = not (is_same_cell (cells (k / w) (k % w)) blank_cell)

-- after an index, or at the start where there is none
abbrev pub behind_index : Option ℕ → ℕ
behind_index None = 0
behind_index (Some k) = k + 1

-- where the cells of some rows end: the index after the last one that is not blank
abbrev pub end_of : ℕ → ℕ → (ℕ → ℕ → StyledCell) → ℕ
end_of w rows cells = behind_index (greatest_below (is_used w cells) (rows * w))
