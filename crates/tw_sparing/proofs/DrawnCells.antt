-- What a screen shows once its cells or its cursor have changed.
use Rattle.std.proofs.Common.{◌≡◌, ℕ, zero, suc, ◌+◌, ◌*◌, ◌<◌, ◌≤◌, Bool, true, false, ◌&&◌, ◌||◌, eqb, ltb, leb, List, [], ◌∷◌, ◌++◌, length, min, take, refl, sym, ap, ◌∙◌, arith, inl, inr, if◌then◌else◌}
use Rattle.std.specs.Prelude.{slice_index_or, slice_set}
use Rattle.std.proofs.lemmas.Bool.{cases_eq, cases_lt, eq-eqb, ne_eqb, eqb-true, eqb-false, le-leb, leb-false, lt-leb, lt-ltb, le-ltb, and_right}
use Rattle.std.proofs.lemmas.List.{get_or-set_same, get_or-set_other, get_or-take}
use Rattle.std.proofs.Math.ListN.{get_or-eq_default}
use Rattle.std.proofs.Math.Seq.{get_or-append_seam}
use Rattle.std.proofs.lemmas.Nat.{mul-le}
use Rattle.laws_screens.proofs.LineOfCells.{put-one}
use Rattle.laws_screens.specs.Strokes.{PictureOf, Stroke, put_in, cleared_in, put, steps}
use Rattle.laws_screens.specs.Strokes.Stroke.{ClearBehind}
use Rattle.laws_screens.proofs.LineOfCells.{same_cell, next_row, behind_cell, steps-append}
use Rattle.tw_surface.specs.declared.cell.CellAttributes.{CellAttributes}
use Rattle.laws_screens.specs.StyledCells.{StyledCell}
use Rattle.tw_sparing.specs.declared.cell.ScreenCell.{ScreenCell}
use Rattle.tw_sparing.specs.StyledScreens.{StyledView, ShowsStyled, ShowsSame, IsPutAt, AreDrawn, at_row, styled_at, styled_cell}

-- ---- lists of cells

set_at : (cells : List ScreenCell) (k i : ℕ) (x d : ScreenCell) → k < length cells → slice_index_or (slice_set cells k x) i d ≡ (if eqb i k then x else slice_index_or cells i d)
set_at cells k i x d h = elim (cases_eq i k) [
  | inl e ↦ rw (eq-eqb i k e, e) (get_or-set_same cells k x d h)
  | inr n ↦ rw (ne_eqb i k n) (get_or-set_other cells k i x d n)
]

same_inside : (cells : List ScreenCell) (i : ℕ) (d e : ScreenCell) → i < length cells → slice_index_or cells i d ≡ slice_index_or cells i e
same_inside [] i d e h = absurd (omega arith)
same_inside (x ∷ cells) zero d e h = refl
same_inside (x ∷ cells) (suc i) d e h = same_inside cells i d e (omega arith)

cut_there : (k : ℕ) (cells : List ScreenCell) (i : ℕ) (d : ScreenCell) → k ≤ i → slice_index_or (take k cells) i d ≡ d
cut_there zero cells i d h = refl
cut_there (suc k) [] i d h = refl
cut_there (suc k) (x ∷ cells) zero d h = absurd (omega arith)
cut_there (suc k) (x ∷ cells) (suc i) d h = cut_there k cells i d (omega arith)

push_at : (cells : List ScreenCell) (i : ℕ) (x d : ScreenCell) → slice_index_or (cells ++ x ∷ []) i d ≡ (if eqb i (length cells) then x else slice_index_or cells i d)
push_at cells i x d = elim (cases_eq i (length cells)) [
  | inl e ↦ rw (eq-eqb i (length cells) e, e) (get_or-append_seam cells x [] d)
  | inr n ↦ rw (ne_eqb i (length cells) n) (others cells i x d n)
]
  where
    others : (cells : List ScreenCell) (i : ℕ) (x d : ScreenCell) → (i ≡ length cells → ⊥) → slice_index_or (cells ++ x ∷ []) i d ≡ slice_index_or cells i d
    others [] zero x d n = absurd (n refl)
    others [] (suc i) x d n = refl
    others (y ∷ cells) zero x d n = refl
    others (y ∷ cells) (suc i) x d n = others cells i x d (λ e. n (ap suc e))

take_at : (k : ℕ) (cells : List ScreenCell) (i : ℕ) (d rest : ScreenCell) → k ≤ length cells → slice_index_or (take k cells) i rest ≡ (if leb k i then rest else slice_index_or cells i d)
take_at k cells i d rest h = elim (cases_lt i k) [
  | inl before ↦ rw (lt-leb k i before) (get_or-take k cells i rest before ∙ same_inside cells i rest d (omega (arith, before, h)))
  | inr behind ↦ rw (le-leb k i behind) (cut_there k cells i rest behind)
]

-- cells up to a place are those of a beginning that reaches it, or that has all cells
pub cut_same : (k n : ℕ) (cells : List ScreenCell) (i : ℕ) (rest : ScreenCell) → k ≡ min (length cells) n → i < n → slice_index_or (take k cells) i rest ≡ slice_index_or cells i rest
cut_same k n cells i rest is low = elim (cases_lt i k) [
  | inl before ↦ get_or-take k cells i rest before
  | inr behind ↦ cut_there k cells i rest behind ∙ sym (get_or-eq_default cells rest (omega (arith, is, low, behind)))
]

-- ---- one stroke

-- what shows the same shows the same picture
pub same_shows : (old new : StyledView) (s : PictureOf StyledCell) → new.width ≡ old.width → ShowsSame old new → ShowsStyled old s → ShowsStyled new s
same_shows old new s width same h = record {
  cell = λ r c low. h.cell r c (omega (arith, low, width)) ∙ sym (rw width (same.cells (r * old.width + c)));
  row = h.row ∙ sym same.row;
  col = h.col ∙ sym same.col;
}

-- a cell that stands there is replaced
pub set_puts : (old : StyledView) (place : ℕ) (x : ScreenCell) → place < length old.cells → IsPutAt place (styled_cell x) old (record old { cells = slice_set old.cells place x })
set_puts old place x inside = record {
  cells = λ i. ap styled_cell (set_at old.cells place i x old.rest inside) ∙ by_place (eqb i place) i;
  row = refl;
  col = refl;
}
  where
    by_place : (b : Bool) (i : ℕ) → styled_cell (if b then x else slice_index_or old.cells i old.rest) ≡ (if b then styled_cell x else styled_at old i)
    by_place true i = refl
    by_place false i = refl

-- a cell is added
pub push_puts : (old mid : StyledView) (place : ℕ) (x : ScreenCell) → length mid.cells ≡ place → ShowsSame old mid → IsPutAt place (styled_cell x) old (record mid { cells = mid.cells ++ x ∷ [] })
push_puts old mid place x len same = record {
  cells = λ i. ap styled_cell (rw len at (push_at mid.cells i x mid.rest)) ∙ by_place (eqb i place) i;
  row = same.row;
  col = same.col;
}
  where
    by_place : (b : Bool) (i : ℕ) → styled_cell (if b then x else slice_index_or mid.cells i mid.rest) ≡ (if b then styled_cell x else styled_at old i)
    by_place true i = refl
    by_place false i = same.cells i

-- a character is put in the next cell
pub put_shows : (old mid : StyledView) (place new_row new_col : ℕ) (x : StyledCell) (s : PictureOf StyledCell)
    → 0 < old.width → old.col ≤ old.width → place ≡ old.row * old.width + old.col
    → new_row ≡ (if eqb old.col old.width then old.row + 1 else old.row) → new_col ≡ (if eqb old.col old.width then 0 else old.col)
    → mid.width ≡ old.width → IsPutAt place x old mid → ShowsStyled old s
    → ShowsStyled (record mid { row = new_row; col = new_col + 1 }) (put old.width (x ∷ []) s)
put_shows old mid place new_row new_col x s some most at is_row is_col width written h = rw (put-one old.width x s (omega (arith, h.col, most)), ap (λ i. eqb i old.width) h.col) (by_wrap (eqb old.col old.width) refl is_row is_col)
  where
    put_there : (i j : ℕ) → j < old.width → i * old.width + j ≡ place → (r c : ℕ) → c < mid.width
        → put_in s.cell i j x r c ≡ styled_at mid (r * mid.width + c)
    put_there i j low e r c k =
        let here : c < old.width = omega (arith, k, width) in
        rw (same_cell old.width r c i j here low, e, h.cell r c here, width) (sym (written.cells (r * old.width + c)))

    by_wrap : (b : Bool) → eqb old.col old.width ≡ b → new_row ≡ (if b then old.row + 1 else old.row) → new_col ≡ (if b then 0 else old.col)
        → ShowsStyled (record mid { row = new_row; col = new_col + 1 })
        (if b then record { cell = put_in s.cell (s.row + 1) 0 x; row = s.row + 1; col = 1 }
        else record { cell = put_in s.cell s.row s.col x; row = s.row; col = s.col + 1 })
    by_wrap true e is_row is_col =
        let edge : old.col ≡ old.width = eqb-true old.col old.width e in
        record {
          cell = put_there (s.row + 1) 0 some (omega (arith, next_row s.row old.width 0, ap (λ i. i * old.width) h.row, at, edge));
          row = omega (arith, h.row, is_row);
          col = omega (arith, is_col);
        }
    by_wrap false e is_row is_col =
        let inner : old.col ≡ old.width → ⊥ = eqb-false old.col old.width e in
        record {
          cell = put_there s.row s.col (omega (arith, h.col, most, inner)) (omega (arith, ap (λ i. i * old.width) h.row, h.col, at));
          row = omega (arith, h.row, is_row);
          col = omega (arith, h.col, is_col);
        }

-- a cell is after the cursor in its row or below where its place is, also where the cursor waits after the last column
behind_cursor : (w r c i j : ℕ) → c ≤ w → j < w → (ltb r i || (eqb r i && leb c j)) ≡ leb (r * w + c) (i * w + j)
behind_cursor w r c i j most low = elim (cases_lt c w) [
  | inl inner ↦ behind_cell w r c i j inner low
  | inr edge ↦ elim (cases_lt r i) [
    | inl below ↦
        let rows : (r + 1) * w ≤ i * w = mul-le (r + 1) w i w (omega (arith, below)) (omega arith) in
        let next : (r + 1) * w + 0 ≡ r * w + w + 0 = next_row r w 0 in
        let front : r * w + c ≤ i * w + j = omega (arith, rows, next, most) in
        rw (lt-ltb r i below, le-leb (r * w + c) (i * w + j) front) refl
    | inr above ↦
        let none : (eqb r i && leb c j) ≡ false = and_right (eqb r i) (leb c j) (lt-leb c j (omega (arith, edge, low))) in
        let rows : i * w ≤ r * w = mul-le i w r w above (omega arith) in
        rw (le-ltb r i above, none) (sym (lt-leb (r * w + c) (i * w + j) (omega (arith, rows, edge, low))))
  ]
]

-- all is one cell from the cursor on
pub clear_shows : (width row col place : ℕ) (kept : CellAttributes) (cells : List ScreenCell) (rest paper : ScreenCell) (s : PictureOf StyledCell)
    → col ≤ width → place ≡ row * width + col → place ≤ length cells
    → ShowsStyled (record { width = width; row = row; col = col; kept = kept; cells = cells; rest = rest }) s
    → ShowsStyled (record { width = width; row = row; col = col; kept = kept; cells = take place cells; rest = paper }) (record s { cell = cleared_in s.cell s.row s.col (styled_cell paper) })
clear_shows width row col place kept cells rest paper s most at inside h = record {
  cell = λ r c low. cleared r c low ∙ ap styled_cell (sym (take_at place cells (r * width + c) rest paper inside));
  row = h.row;
  col = h.col;
}
  where
    by_behind : (b : Bool) (i : ℕ) → (if b then styled_cell paper else styled_cell (slice_index_or cells i rest)) ≡ styled_cell (if b then paper else slice_index_or cells i rest)
    by_behind true i = refl
    by_behind false i = refl

    cleared : (r c : ℕ) → c < width → cleared_in s.cell s.row s.col (styled_cell paper) r c ≡ styled_cell (if leb place (r * width + c) then paper else slice_index_or cells (r * width + c) rest)
    cleared r c low =
        rw (h.row, h.col, behind_cursor width row col r c most low, ← at, h.cell r c low) (by_behind (leb place (r * width + c)) (r * width + c))

-- a clearing looks at no cell from its place on
pub clears_cut : (old cut new : StyledView) (row : ℕ) (paper : StyledCell) → cut.width ≡ old.width → new.width ≡ old.width → ((i : ℕ) → i < row * old.width → styled_at cut i ≡ styled_at old i)
    → AreDrawn (at_row row cut) (ClearBehind paper ∷ []) new → AreDrawn (at_row row old) (ClearBehind paper ∷ []) new
clears_cut old cut new row paper width wide same drawn s h = record {
  cell = λ r c low. as_cleared r c (omega (arith, low, wide)) ∙ shown.cell r c low;
  row = h.row ∙ shown.row;
  col = h.col ∙ shown.col;
}
  where
    shown : ShowsStyled new (record { cell = cleared_in (λ r c. styled_at cut (r * cut.width + c)) row 0 paper; row = row; col = 0 })
    shown = drawn (record { cell = λ r c. styled_at cut (r * cut.width + c); row = row; col = 0 }) (record { cell = λ r c low. refl; row = refl; col = refl })

    by_place : (i : ℕ) (b : Bool) (x : StyledCell) → leb (row * old.width + 0) i ≡ b → x ≡ styled_at old i → (if b then paper else x) ≡ (if b then paper else styled_at cut i)
    by_place i true x e is = refl
    by_place i false x e is = is ∙ sym (same i (omega (arith, leb-false (row * old.width + 0) i e)))

    as_cleared : (r c : ℕ) → c < old.width → cleared_in s.cell s.row s.col paper r c ≡ cleared_in (λ i j. styled_at cut (i * cut.width + j)) row 0 paper r c
    as_cleared r c low =
        rw (h.row, h.col, width, behind_cursor old.width row 0 r c (omega arith) low)
        (by_place (r * old.width + c) (leb (row * old.width + 0) (r * old.width + c)) (s.cell r c) refl (h.cell r c low))

-- ---- strokes one after the other

pub draws_more : (old mid new : StyledView) (a b : List (Stroke StyledCell)) → mid.width ≡ old.width → AreDrawn old a mid → AreDrawn mid b new → AreDrawn old (a ++ b) new
draws_more old mid new a b same d e s h =
    rw (steps-append old.width a b s) (rw same at (e (steps old.width a s) (d s h)))
