-- What a screen holds: the near cells in one line, and of the far ones those that were written, in order.
use Rattle.std.specs.Prelude.{ℕ, zero, suc, ◌≡◌, ◌≢◌, ◌+◌, ◌-◌, ◌*◌, ◌<◌, ◌≤◌, ◌&&◌, eqb, ltb, if◌then◌else◌, Option, Some, None, List, [], ◌∷◌, ◌++◌, length, map, count_by, replicate, slice_index, slice_index_or}
use Rattle.std.specs.List.{All, AllPairs, range_with_len}
use Rattle.tw_surface.specs.declared.screen.far.Cell.{Cell}
use Rattle.tw_surface.specs.Characters.{lf}
use Rattle.tw_surface.specs.Pictures.{Picture, blank}

-- the character that a list of cells shows at a row and a column: that of the first cell there, else a blank
abbrev pub cell_in : List Cell → ℕ → ℕ → ℕ
cell_in [] row col = blank
cell_in (cell ∷ cells) row col = if eqb cell.row row && eqb cell.col col then cell.ch else cell_in cells row col

-- the character at a row and a column: in the width from the near cells, row after row, as far as they go, and else
-- from the far ones
abbrev pub shown_at : ℕ → List ℕ → List Cell → ℕ → ℕ → ℕ
shown_at width near far row col =
    if ltb col width && ltb (row * width + col) (length near) then slice_index near (row * width + col) else cell_in far row col

-- what a screen holds: its width, its cursor, its near and its far cells
pub record ScreenView : Type 0 where
  pub width : ℕ
  pub row : ℕ
  pub col : ℕ
  pub near : List ℕ
  pub far : List Cell

-- cells and a cursor, as a picture
abbrev pub picture_of : ℕ → List ℕ → List Cell → ℕ → ℕ → Picture
picture_of width near far row col = record { cell = shown_at width near far; row = row; col = col }

-- the picture that a screen shows
abbrev pub picture : ScreenView → Picture
picture screen = picture_of screen.width screen.near screen.far screen.row screen.col

-- the characters in the first columns of a row
abbrev pub row_of : (ℕ → ℕ → ℕ) → ℕ → ℕ → List ℕ
row_of cell row cols = map (cell row) (range_with_len 0 cols)

-- the characters in the first rows, each row with a text behind it
abbrev pub ended_rows : (ℕ → ℕ → ℕ) → ℕ → List ℕ → ℕ → List ℕ
ended_rows cell cols end zero = []
ended_rows cell cols end (suc rows) = ended_rows cell cols end rows ++ row_of cell rows cols ++ end

-- of a text that was to be appended its first part was
abbrev pub AddsPart : List ℕ → List ℕ → List ℕ → Type 0
AddsPart old more new = (rest : List ℕ) × (old ++ more ≡ new ++ rest)

-- a screen of a width, at first
abbrev pub blank_screen : ℕ → ScreenView
blank_screen width = record { width = width; row = 0; col = 0; near = []; far = [] }

-- how many places a text leads on at most
abbrev pub reach_of : ℕ → List ℕ → ℕ
reach_of width text = length text + count_by (λ b. eqb b lf) text * width

-- a row and a column stand before others: in an earlier row, or in that row and an earlier column
pub record IsBefore (row col later_row later_col : ℕ) : Type 0 where
  pub rows : row ≤ later_row
  pub columns : row ≡ later_row → col < later_col

-- each cell stands before those that follow
abbrev pub IsInOrder : List Cell → Type 0
IsInOrder cells = AllPairs (λ x y. IsBefore x.row x.col y.row y.col) cells

-- the cell at an index, or one of zeros past the end
abbrev pub cell_at : List Cell → ℕ → Cell
cell_at cells i = slice_index_or cells i (record { row = 0; col = 0; ch = 0 })

-- the cell at index i stands at a row and a column
pub record IsAt (cells : List Cell) (row col i : ℕ) : Type 0 where
  pub in_range : i < length cells
  pub row_is : (cell_at cells i).row ≡ row
  pub col_is : (cell_at cells i).col ≡ col

-- a row and a column stand after the cells below index i, and before the others
pub record IsGapFor (cells : List Cell) (row col i : ℕ) : Type 0 where
  pub in_range : i ≤ length cells
  pub before : (k : ℕ) → k < i → IsBefore (cell_at cells k).row (cell_at cells k).col row col
  pub behind : (k : ℕ) → i ≤ k → k < length cells → IsBefore row col (cell_at cells k).row (cell_at cells k).col

-- the cells below index i stand before a row and a column, and the others do not
pub record IsCountBefore (cells : List Cell) (row col i : ℕ) : Type 0 where
  pub in_range : i ≤ length cells
  pub before : (k : ℕ) → k < i → IsBefore (cell_at cells k).row (cell_at cells k).col row col
  pub from : (k : ℕ) → i ≤ k → k < length cells → IsBefore (cell_at cells k).row (cell_at cells k).col row col → ⊥

-- the far cells that a screen of a width may hold: in order, inside the width, all of ASCII, and none in the first
-- places
pub record IsSparse (width first : ℕ) (cells : List Cell) : Type 0 where
  pub ordered : IsInOrder cells
  pub inside : All (λ x. x.col < width) cells
  pub ascii : All (λ x. x.ch < 128) cells
  pub behind : All (λ x. first ≤ x.row * width + x.col) cells

-- what is true while a text is played
pub record AreSoundCells (width row col : ℕ) (near : List ℕ) (far : List Cell) : Type 0 where
  pub width_above : 0 < width
  pub width_most : width ≤ 65535
  pub row_most : row ≤ 4294967295
  pub col_most : col ≤ width
  pub ascii : All (λ b. b < 128) near
  pub sparse : IsSparse width (length near) far

-- near cells end in one that is not blank, where there are any
abbrev pub IsTrimmed : List ℕ → Type 0
IsTrimmed near = 0 < length near → slice_index near (length near - 1) ≢ blank

-- far cells end in one that is not blank, where there are any
abbrev pub AreEnded : List Cell → Type 0
AreEnded cells = 0 < length cells → (cell_at cells (length cells - 1)).ch ≢ blank

-- what is true of every screen
pub record IsSettled (width row col : ℕ) (near : List ℕ) (far : List Cell) : Type 0 where
  pub sound : AreSoundCells width row col near far
  pub trimmed : IsTrimmed near
  pub ended : AreEnded far

-- the far cells stand before a place
abbrev pub AreCellsBefore : ℕ → ℕ → List Cell → Type 0
AreCellsBefore width end cells = All (λ x. x.row * width + x.col < end) cells

-- the greatest row with a character that is not blank, None where there is none
abbrev pub IsLastRow : (ℕ → ℕ → ℕ) → Option ℕ → Type 0
IsLastRow cell None = (row col : ℕ) → cell row col ≡ blank
IsLastRow cell (Some last) =
    ((col : ℕ) × (cell last col ≢ blank)) × ((row col : ℕ) → last < row → cell row col ≡ blank)

-- near cells with blanks added after them
pub record IsGrown (old new : List ℕ) : Type 0 where
  pub more : ℕ
  pub grown : new ≡ old ++ replicate more blank

-- the cells below index i stand above a row, and the others do not
pub record IsPartedAt (cells : List Cell) (row i : ℕ) : Type 0 where
  pub in_range : i ≤ length cells
  pub above : (k : ℕ) → k < i → (cell_at cells k).row < row
  pub others : (k : ℕ) → i ≤ k → k < length cells → row ≤ (cell_at cells k).row

-- a cell so many rows higher up
abbrev pub higher_cell : ℕ → Cell → Cell
higher_cell rows cell = record cell { row = cell.row - rows }

-- near cells with these characters from a place on, and the others as they were
pub record IsOverwritten (old new : List ℕ) (place : ℕ) (run : List ℕ) : Type 0 where
  pub within : (k : ℕ) → k < length run → slice_index new (place + k) ≡ slice_index run k
  pub below : (k : ℕ) → k < place → slice_index new k ≡ slice_index old k
  pub above : (k : ℕ) → place + length run ≤ k → slice_index new k ≡ slice_index old k
