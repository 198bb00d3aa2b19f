-- Lists of paintings, one over the other, and what closes them.
use Rattle.std.specs.Prelude.{ℕ, ◌≡◌, ◌+◌, ◌-◌, ◌%◌, ◌<◌, ◌≤◌, min, Bool, true, if◌then◌else◌, Option, Some, None, List, [], ◌∷◌, ◌++◌, length, map}
use Rattle.laws_screens.specs.Strokes.{PictureOf, Stroke, filled, steps_on, resized}
use Rattle.laws_screens.specs.Strokes.Stroke.{ClearBehind, Move}
use Rattle.std.specs.List.{list_all}
use Rattle.laws_screens.specs.Sheets.{Sheet, Writing, laid_out, is_narrow, sheet_last_row, sheet_cursor_row, end_col, drawing, IsFreshSheet, IsLow, raised_row}

-- a painting at cols columns: what is written and the sheet that it makes, whether the screen is cleared just before,
-- and its moves: the last one from
-- where the sheet ends to the cursor, by row and by column, and from there the one back to its first row and the one to
-- the row under it
pub record SheetPainting (C : Type 0) : Type 0 where
  pub writing : Writing C
  pub sheet : Sheet C
  pub cols : ℕ
  pub cleared : Bool
  pub to_row : ℕ → ℕ
  pub to_col : ℕ → ℕ
  pub back : ℕ → ℕ
  pub under : ℕ → ℕ

-- each cluster fits in a row, the moves lead where they should, and the text does not end after the last column
pub record IsLed {C : Type 0} (b : C) (p : SheetPainting C) : Type 0 where
  pub wide : 2 ≤ p.cols
  pub laid : p.sheet ≡ laid_out b p.cols p.writing p.sheet.at
  pub narrow : list_all (is_narrow p.cols) p.writing.text ≡ true
  pub narrow_below : list_all (list_all (is_narrow p.cols)) p.writing.lower ≡ true
  pub off_edge : length p.sheet.text % p.cols ≡ 0 → length p.sheet.text ≡ 0
  pub to_row : (r : ℕ) → p.to_row r ≡ r + sheet_cursor_row p.cols p.sheet - sheet_last_row p.cols p.sheet
  pub to_col : p.to_col (end_col p.cols p.sheet) ≡ p.sheet.at % p.cols
  pub back : (r : ℕ) → p.back r ≡ r - sheet_cursor_row p.cols p.sheet
  pub under : (r : ℕ) → p.under r ≡ r + (sheet_last_row p.cols p.sheet + 1) - sheet_cursor_row p.cols p.sheet

-- the move back to the first row of the painting before, where there was one
abbrev pub start_strokes : {C : Type 0} → Option (ℕ → ℕ) → List (Stroke C)
start_strokes None = []
start_strokes (Some back) = Move back (λ c. 0) ∷ []

-- the strokes of a painting
abbrev pub painting_strokes : {C : Type 0} → C → Option (ℕ → ℕ) → SheetPainting C → List (Stroke C)
painting_strokes b before p = start_strokes before ++ (drawing b p.writing ++ Move p.to_row p.to_col ∷ [])

-- the screen of v columns on which a painting begins: at its own columns, and cleared where it says so
abbrev pub begun : {C : Type 0} → Bool → C → ℕ → SheetPainting C → PictureOf C → PictureOf C
begun cuts b v p t = if p.cleared then resized cuts b p.cols p.cols (filled b) else resized cuts b v p.cols t

-- paintings one over the other, on a screen of v columns and some rows, which cuts its rows or not
abbrev pub paint_all : {C : Type 0} → Option ℕ → Bool → C → ℕ → Option (ℕ → ℕ) → List (SheetPainting C) → PictureOf C → PictureOf C
paint_all rows cuts b v before [] t = t
paint_all rows cuts b v before (p ∷ more) t =
    paint_all rows cuts b p.cols (Some p.back) more (steps_on rows p.cols (painting_strokes b before p) (begun cuts b v p t))

-- the first row of the last painting of a list that begins in row s: each may raise it, and a clearing puts it to 0
abbrev pub top_row : {C : Type 0} → Option ℕ → ℕ → List (SheetPainting C) → ℕ
top_row rows s [] = s
top_row rows s (p ∷ more) = top_row rows (raised_row rows p.cols (if p.cleared then 0 else s) p.sheet) more

abbrev pub cols_of : {C : Type 0} → List (SheetPainting C) → List ℕ
cols_of paintings = map (λ p. p.cols) paintings

abbrev pub last_painting : {C : Type 0} → SheetPainting C → List (SheetPainting C) → SheetPainting C
last_painting p [] = p
last_painting p (next ∷ more) = last_painting next more

-- a painting that is led and has room
pub record IsFit {C : Type 0} (rows : Option ℕ) (b : C) (p : SheetPainting C) : Type 0 where
  pub led : IsLed b p
  pub low : IsLow rows p.cols p.sheet

-- After the last painting of a list the screen shows it fresh from row s on. Above it, what stood from row e on up is
-- moved up, in the columns that the screen had all along; the others are b where the screen cuts its rows.
pub record AreShownOver {C : Type 0} (cuts : Bool) (b : C) (least e s : ℕ) (last : SheetPainting C) (before after : PictureOf C) : Type 0 where
  pub fresh : IsFreshSheet last.cols s b last.sheet after
  pub above : (r c : ℕ) → r < s → c < last.cols → c < least → after.cell r c ≡ before.cell (r + (e - s)) c
  pub cut : cuts ≡ true → (r c : ℕ) → r < s → c < last.cols → least ≤ c → after.cell r c ≡ b

-- ---- what closes them

-- from the cursor of a painting to the row under it, and b from there on
abbrev pub closing_strokes : {C : Type 0} → C → SheetPainting C → List (Stroke C)
closing_strokes b p = Move p.under (λ c. 0) ∷ ClearBehind b ∷ []

-- the row in which a cursor stands that was led to row r: the last one, where that is below
abbrev pub seen_row : Option ℕ → ℕ → ℕ
seen_row None r = r
seen_row (Some h) r = min r (h - 1)

-- the cursor at column 0 of the row under the last one, scrolled into sight; all from there on is b, and the rows above
-- are as they were, moved up
pub record IsClosedSheet {C : Type 0} (rows : Option ℕ) (width : ℕ) (b : C) (last : ℕ) (before after : PictureOf C) : Type 0 where
  pub row : after.row ≡ seen_row rows (last + 1)
  pub col : after.col ≡ 0
  pub blank_below : (r c : ℕ) → after.row ≤ r → c < width → after.cell r c ≡ b
  pub moved_up : (r c : ℕ) → r < after.row → c < width → after.cell r c ≡ before.cell (r + (last + 1 - after.row)) c
