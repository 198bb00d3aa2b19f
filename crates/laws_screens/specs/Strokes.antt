-- Screens of any kind of cells, and what is done to them, stroke by stroke.
use Rattle.std.specs.Prelude.{ℕ, ◌+◌, ◌-◌, ◌<◌, ◌&&◌, ◌||◌, eqb, ltb, leb, min, Bool, if◌then◌else◌, Option, Some, None, List, [], ◌∷◌, length}

-- the cell at each row and column, and the cursor, which waits after the last column at col = width
pub record PictureOf (C : Type 0) : Type 0 where
  pub cell : ℕ → ℕ → C
  pub row : ℕ
  pub col : ℕ

-- the cells of a cluster are put at the cursor; the cursor goes to column 0, or a row down; every cell becomes one
-- cell, or every cell from the cursor on; or the cursor moves, its row by one rule and its column by another
pub data Stroke (C : Type 0) : Type 0 where
  Put : List C → Stroke C
  Return : Stroke C
  Feed : Stroke C
  Clear : C → Stroke C
  ClearBehind : C → Stroke C
  Move : (ℕ → ℕ) → (ℕ → ℕ) → Stroke C

-- x at row r and column c, and every other cell as it was
abbrev pub put_in : {C : Type 0} → (ℕ → ℕ → C) → ℕ → ℕ → C → ℕ → ℕ → C
put_in cell r c x i j = if eqb i r && eqb j c then x else cell i j

-- x from row r and column c on, in that row and in all rows below
abbrev pub cleared_in : {C : Type 0} → (ℕ → ℕ → C) → ℕ → ℕ → C → ℕ → ℕ → C
cleared_in cell r c x i j = if ltb r i || (eqb r i && leb c j) then x else cell i j

-- cells at row r from column c on, and every other cell as it was
abbrev pub put_all : {C : Type 0} → (ℕ → ℕ → C) → ℕ → ℕ → List C → ℕ → ℕ → C
put_all cell r c [] i j = cell i j
put_all cell r c (x ∷ more) i j = put_all (put_in cell r c x) r (c + 1) more i j

-- the cells of a cluster go where the cursor stands if they fit in its row, else to the first columns of the next row;
-- what stood in the rest of the row stays
abbrev pub put : {C : Type 0} → ℕ → List C → PictureOf C → PictureOf C
put width cells s =
    if leb (s.col + length cells) width
    then record { cell = put_all s.cell s.row s.col cells; row = s.row; col = s.col + length cells }
    else record { cell = put_all s.cell (s.row + 1) 0 cells; row = s.row + 1; col = length cells }

-- one cell everywhere, and the cursor in the first row and column
abbrev pub filled : {C : Type 0} → C → PictureOf C
filled x = record { cell = λ i j. x; row = 0; col = 0 }

-- a stroke on a screen without a bottom
abbrev pub step : {C : Type 0} → ℕ → Stroke C → PictureOf C → PictureOf C
step width (Put cells) s = put width cells s
step width Return s = record s { col = 0 }
step width Feed s = record s { row = s.row + 1 }
step width (Clear x) s = filled x
step width (ClearBehind x) s = record s { cell = cleared_in s.cell s.row s.col x }
step width (Move row col) s = record s { row = row s.row; col = min (width - 1) (col s.col) }

abbrev pub steps : {C : Type 0} → ℕ → List (Stroke C) → PictureOf C → PictureOf C
steps width [] s = s
steps width (stroke ∷ more) s = steps width more (step width stroke s)

-- ---- a screen of some rows

-- k rows go up
abbrev pub raised_by : {C : Type 0} → ℕ → PictureOf C → PictureOf C
raised_by k s = record { cell = λ r c. s.cell (r + k) c; row = s.row - k; col = s.col }

-- how far row r is below the last of these rows: never, where there is no bottom
abbrev pub excess : Option ℕ → ℕ → ℕ
excess None r = 0
excess (Some h) r = r + 1 - h

-- the rows go up until the cursor stands in the last one, where it stood below
abbrev pub scrolled : {C : Type 0} → Option ℕ → PictureOf C → PictureOf C
scrolled None s = s
scrolled (Some h) s = raised_by (s.row + 1 - h) s

-- strokes on a screen of some rows, or without a bottom: it scrolls after each
abbrev pub steps_on : {C : Type 0} → Option ℕ → ℕ → List (Stroke C) → PictureOf C → PictureOf C
steps_on rows width [] s = s
steps_on rows width (stroke ∷ more) s = steps_on rows width more (scrolled rows (step width stroke s))

-- row r is one of these rows
abbrev pub InSight : Option ℕ → ℕ → Type 0
InSight None r = Unit {0}
InSight (Some h) r = r < h

-- ---- a screen whose number of columns changes

-- a screen of v columns has w from now on: the columns that it had and has are as they were, the others are b, and a
-- cursor after the last column stands in it
abbrev pub cut_to : {C : Type 0} → C → ℕ → ℕ → PictureOf C → PictureOf C
cut_to b v w s = record {
  cell = λ r c. if ltb c (min v w) then s.cell r c else b;
  row = s.row;
  col = min (w - 1) s.col;
}

-- so it is where the screen cuts its rows; another one stays as it is
abbrev pub resized : {C : Type 0} → Bool → C → ℕ → ℕ → PictureOf C → PictureOf C
resized cuts b v w s = if cuts then cut_to b v w s else s

-- the least number of columns that a screen of v columns had, once it has had these
abbrev pub narrowest : ℕ → List ℕ → ℕ
narrowest v [] = v
narrowest v (w ∷ more) = min v (narrowest w more)
