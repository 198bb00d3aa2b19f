-- What a painting shows, by division alone, with any kind of cells.
use Rattle.std.specs.Prelude.{ℕ, ◌≡◌, ◌+◌, ◌-◌, ◌/◌, ◌%◌, ◌<◌, ◌≤◌, ◌⊎◌, eqb, leb, min, max, Bool, if◌then◌else◌, Option, Some, None, List, [], ◌∷◌, ◌++◌, length, map, replicate, slice_index_or}
use Rattle.std.specs.List.{sum_by}
use Rattle.laws_screens.specs.Strokes.{PictureOf, Stroke}
use Rattle.laws_screens.specs.Strokes.Stroke.{Put, Return, Feed, ClearBehind}

-- the cells of a text that begins at column 0, the lines under it, and the index of the cell at which the cursor stands
pub record Sheet (C : Type 0) : Type 0 where
  pub text : List C
  pub lower : List (List C)
  pub at : ℕ

-- ---- what it takes

-- the rows that a line takes
abbrev pub rows_of_line : {C : Type 0} → ℕ → List C → ℕ
rows_of_line width line = max 1 ((length line + width - 1) / width)

-- the row in which the text ends, the last row, and the row of the cursor, counted from the first row
abbrev pub sheet_text_row : {C : Type 0} → ℕ → Sheet C → ℕ
sheet_text_row width sheet = length sheet.text / width

abbrev pub sheet_last_row : {C : Type 0} → ℕ → Sheet C → ℕ
sheet_last_row width sheet = sheet_text_row width sheet + sum_by (rows_of_line width) sheet.lower

abbrev pub sheet_cursor_row : {C : Type 0} → ℕ → Sheet C → ℕ
sheet_cursor_row width sheet = sheet.at / width

-- the number of cells of the last of some lines, or n where there is none
abbrev pub last_length : {C : Type 0} → ℕ → List (List C) → ℕ
last_length n [] = n
last_length n (line ∷ more) = last_length (length line) more

-- the column after n cells from column 0 on, which may be the one after the last column
abbrev pub behind : ℕ → ℕ → ℕ
behind width n = if eqb n 0 then 0 else (n - 1) % width + 1

-- the column in which the last line ends
abbrev pub end_col : {C : Type 0} → ℕ → Sheet C → ℕ
end_col width sheet = behind width (last_length (length sheet.text) sheet.lower)

-- ---- a fresh painting

-- cell (r, c) is the cell of index k of a text that starts at column 0 of row from
abbrev pub IsSheetCell : ℕ → ℕ → ℕ → ℕ → ℕ → Type 0
IsSheetCell width from k r c = (r ≡ from + k / width) × (c ≡ k % width)

-- each cell of a text stands in its place, the text from row from on
abbrev pub IsTextShown : {C : Type 0} → ℕ → ℕ → C → List C → PictureOf C → Type 0
IsTextShown width from b text after = (k : ℕ) → k < length text → after.cell (from + k / width) (k % width) ≡ slice_index_or text k b

-- cell (r, c) is the cell of an index of the text
abbrev pub IsInText : {C : Type 0} → ℕ → ℕ → List C → ℕ → ℕ → Type 0
IsInText width from text r c = (k : ℕ) × (k < length text) × IsSheetCell width from k r c

-- lines from row from on, each in the row after the rows of the line before
abbrev pub AreLinesShown : {C : Type 0} → ℕ → ℕ → C → List (List C) → PictureOf C → Type 0
AreLinesShown width from b [] after = Unit {0}
AreLinesShown width from b (line ∷ more) after = IsTextShown width from b line after × AreLinesShown width (from + rows_of_line width line) b more after

-- cell (r, c) is the cell of an index of one of the lines
abbrev pub IsInLowerLines : {C : Type 0} → ℕ → ℕ → List (List C) → ℕ → ℕ → Type 0
IsInLowerLines width from [] r c = ⊥
IsInLowerLines width from (line ∷ more) r c = IsInText width from line r c ⊎ IsInLowerLines width (from + rows_of_line width line) more r c

-- a fresh painting of a sheet from row s on: its cells in their places, b in all others, and the cursor at its index
pub record IsFreshSheet {C : Type 0} (width s : ℕ) (b : C) (sheet : Sheet C) (after : PictureOf C) : Type 0 where
  pub shown : IsTextShown width s b sheet.text after
  pub below : AreLinesShown width (s + sheet_text_row width sheet + 1) b sheet.lower after
  pub rest : (r c : ℕ) → s ≤ r → c < width
      → (IsInText width s sheet.text r c → ⊥)
      → (IsInLowerLines width (s + sheet_text_row width sheet + 1) sheet.lower r c → ⊥)
      → after.cell r c ≡ b
  pub row : after.row ≡ s + sheet_cursor_row width sheet
  pub col : after.col ≡ sheet.at % width

-- ---- what is written

-- the clusters of a text that begins at column 0, each by its cells, and those of the lines under it
pub record Writing (C : Type 0) : Type 0 where
  pub text : List (List C)
  pub lower : List (List (List C))

-- the cells of clusters from column x on, one after the other: a cluster goes on in its row, or, where it does not fit,
-- in the next one, after b in the rest of its row
abbrev pub laid : {C : Type 0} → C → ℕ → ℕ → List (List C) → List C
laid b width x [] = []
laid b width x (cells ∷ more) =
    if leb (x + length cells) width then cells ++ laid b width (x + length cells) more
    else replicate (width - x) b ++ (cells ++ laid b width (length cells) more)

-- the sheet that it makes at width columns, with the cursor at an index
abbrev pub laid_out : {C : Type 0} → C → ℕ → Writing C → ℕ → Sheet C
laid_out b width writing at =
    record { text = laid b width 0 writing.text; lower = map (laid b width 0) writing.lower; at = at }

-- a cluster that fits in a row
abbrev pub is_narrow : {C : Type 0} → ℕ → List C → Bool
is_narrow width cells = leb (length cells) width

-- a line is typed
abbrev pub typed : {C : Type 0} → List (List C) → List (Stroke C)
typed line = map Put line

-- lines are typed, each in the row under the one before
abbrev pub broken : {C : Type 0} → List (List (List C)) → List (Stroke C)
broken [] = []
broken (line ∷ more) = Return ∷ Feed ∷ (typed line ++ broken more)

-- all is b from the cursor on, and then it is typed
abbrev pub drawing : {C : Type 0} → C → Writing C → List (Stroke C)
drawing b writing = ClearBehind b ∷ (typed writing.text ++ broken writing.lower)

-- ---- on some rows

-- the rows that a painting takes, down to its last one and to that of its cursor
abbrev pub painted_rows : {C : Type 0} → ℕ → Sheet C → ℕ
painted_rows width sheet = 1 + max (sheet_last_row width sheet) (sheet_cursor_row width sheet)

-- it has room on these rows
abbrev pub IsLow : {C : Type 0} → Option ℕ → ℕ → Sheet C → Type 0
IsLow None width sheet = Unit {0}
IsLow (Some h) width sheet = painted_rows width sheet ≤ h

-- the first row of a painting that begins in row s: it goes up as far as its last row needs
abbrev pub raised_row : {C : Type 0} → Option ℕ → ℕ → ℕ → Sheet C → ℕ
raised_row None width s sheet = s
raised_row (Some h) width s sheet = min s (h - painted_rows width sheet)
