-- The rows of a line, where they stand on a screen, and the text that shows them.
use Rattle.std.specs.Prelude.{ℕ, pos, ◌+◌, ◌/◌, ◌%◌, List, [], ◌∷◌, length}
use Rattle.tw_surface.specs.Places.{Place}
pub use Rattle.tw_prompt_host.specs.Rows.{is_row_character, before_rows, rows_of_text, row_edge, spread, columns_behind, shown_cut}

-- the rows of the screen that n columns take, with a cell for the cursor after them
abbrev pub rows_taken : ℕ → ℕ → ℕ
rows_taken cols n = 1 + n / cols

-- How many rows down the cell after some rows is: before the first row stand the columns of a prompt, before each other
-- one those of a continuation prompt.
abbrev pub rows_down : ℕ → ℕ → ℕ → List (List ℕ) → ℕ
rows_down cols prompt continuation [] = prompt / cols
rows_down cols prompt continuation (row ∷ []) = (prompt + length row) / cols
rows_down cols prompt continuation (row ∷ next ∷ more) =
    rows_taken cols (prompt + length row) + rows_down cols continuation continuation (next ∷ more)

-- the column of that cell
abbrev pub column_after : ℕ → ℕ → ℕ → List (List ℕ) → ℕ
column_after cols prompt continuation [] = prompt % cols
column_after cols prompt continuation (row ∷ []) = (prompt + length row) % cols
column_after cols prompt continuation (row ∷ next ∷ more) = column_after cols continuation continuation (next ∷ more)

-- The cell of a character, and of the cursor before it: the cell after the rows of the text that ends there.
abbrev pub row_cell : ℕ → ℕ → ℕ → List ℕ → Place
row_cell cols prompt continuation before = record {
  x = column_after cols prompt continuation (rows_of_text before);
  y = pos (rows_down cols prompt continuation (rows_of_text before));
}
