-- Where a text leads the cursor: by the cursor alone, and never up the screen.
use Rattle.std.proofs.Common.{◌≡◌, ℕ, ◌+◌, ◌*◌, cond, eqb, ◌<◌, ◌≤◌, List, [], ◌∷◌, length, count_by, get_or, drop, refl, sym, ap, ◌∙◌, arith, inl, inr}
use Rattle.std.proofs.lemmas.Bool.{cases_eq, eq-eqb, ne_eqb}
use Rattle.std.proofs.lemmas.List.{at_drop_more}
use Rattle.tw_surface.specs.declared.screen.far.Cell.{Cell}
use Rattle.std.proofs.lemmas.List.Sums.{sum_by-cons}
use Rattle.tw_surface.specs.Characters.{cr, lf}
use Rattle.tw_surface.specs.Pictures.{Picture, picture_with, play_char, play_text}
use Rattle.tw_surface.specs.Cells.{picture_of, reach_of}
use Rattle.std.proofs.Math.Nat.{add-mul, one-mul}
use Rattle.tw_surface.specs.Pictures.{cursor_at}

-- a picture with its cells left out
abbrev pub only_cursor : Picture → Picture
only_cursor s = cursor_at s.row s.col

-- a printable character leads the cursor by the cursor alone
picture_with-cursor : (width ch : ℕ) (s : Picture) → only_cursor (picture_with width ch s) ≡ only_cursor (picture_with width ch (only_cursor s))
picture_with-cursor width ch s =
    elim (cases_eq s.col width) [
      | inl e ↦ rw (eq-eqb s.col width e) refl
      | inr n ↦ rw (ne_eqb s.col width n) refl
    ]

-- so does any character
char-cursor : (width ch : ℕ) (s : Picture) → only_cursor (play_char width ch s) ≡ only_cursor (play_char width ch (only_cursor s))
char-cursor width ch s =
    elim (cases_eq ch cr) [
      | inl e ↦ rw (eq-eqb ch cr e) refl
      | inr n ↦ elim (cases_eq ch lf) [
        | inl e ↦ rw (ne_eqb ch cr n, eq-eqb ch lf e) refl
        | inr m ↦ rw (ne_eqb ch cr n, ne_eqb ch lf m) (picture_with-cursor width ch s)
      ]
    ]

-- and a text
text-cursor : (width : ℕ) (text : List ℕ) (s : Picture) → only_cursor (play_text width text s) ≡ only_cursor (play_text width text (only_cursor s))
text-cursor width [] s = refl
text-cursor width (ch ∷ text) s =
    text-cursor width text (play_char width ch s)
    ∙ ap (λ q. only_cursor (play_text width text q)) (char-cursor width ch s)
    ∙ sym (text-cursor width text (play_char width ch (only_cursor s)))

-- a printable character leads to no row above
picture_with-row : (width ch : ℕ) (s : Picture) → s.row ≤ (picture_with width ch s).row
picture_with-row width ch s =
    elim (cases_eq s.col width) [
      | inl e ↦ rw (eq-eqb s.col width e) (omega arith)
      | inr n ↦ rw (ne_eqb s.col width n) (omega arith)
    ]

-- nor does any character
char-row : (width ch : ℕ) (s : Picture) → s.row ≤ (play_char width ch s).row
char-row width ch s =
    elim (cases_eq ch cr) [
      | inl e ↦ rw (eq-eqb ch cr e) (omega arith)
      | inr n ↦ elim (cases_eq ch lf) [
        | inl e ↦ rw (ne_eqb ch cr n, eq-eqb ch lf e) (omega arith)
        | inr m ↦ rw (ne_eqb ch cr n, ne_eqb ch lf m) (picture_with-row width ch s)
      ]
    ]

-- nor does a text
pub text-row : (width : ℕ) (text : List ℕ) (s : Picture) → s.row ≤ (play_text width text s).row
text-row width [] s = omega arith
text-row width (ch ∷ text) s =
    let one : s.row ≤ (play_char width ch s).row = char-row width ch s in
    let more : (play_char width ch s).row ≤ (play_text width text (play_char width ch s)).row = text-row width text (play_char width ch s) in
    omega arith

-- a printable character leads at most one row down
picture_with-row-most : (width ch : ℕ) (s : Picture) → (picture_with width ch s).row ≤ s.row + 1
picture_with-row-most width ch s =
    elim (cases_eq s.col width) [
      | inl e ↦ rw (eq-eqb s.col width e) (omega arith)
      | inr n ↦ rw (ne_eqb s.col width n) (omega arith)
    ]

-- so does any character
char-row-most : (width ch : ℕ) (s : Picture) → (play_char width ch s).row ≤ s.row + 1
char-row-most width ch s =
    elim (cases_eq ch cr) [
      | inl e ↦ rw (eq-eqb ch cr e) (omega arith)
      | inr n ↦ elim (cases_eq ch lf) [
        | inl e ↦ rw (ne_eqb ch cr n, eq-eqb ch lf e) (omega arith)
        | inr m ↦ rw (ne_eqb ch cr n, ne_eqb ch lf m) (picture_with-row-most width ch s)
      ]
    ]

-- and a text at most one for each of its characters
pub text_row_most : (width : ℕ) (text : List ℕ) (s : Picture) → (play_text width text s).row ≤ s.row + length text
text_row_most width [] s = omega arith
text_row_most width (ch ∷ text) s =
    let one : (play_char width ch s).row ≤ s.row + 1 = char-row-most width ch s in
    let more : (play_text width text (play_char width ch s)).row ≤ (play_char width ch s).row + length text = text_row_most width text (play_char width ch s) in
    omega arith

-- one more character leads a place on, and a line feed a row
reach-cons : (width ch : ℕ) (text : List ℕ) → reach_of width (ch ∷ text) ≡ reach_of width text + 1 + cond (eqb ch lf) 1 0 * width
reach-cons width ch text =
    let counted : count_by (λ b. eqb b lf) (ch ∷ text) ≡ cond (eqb ch lf) 1 0 + count_by (λ b. eqb b lf) text = sum_by-cons (λ b. cond (eqb b lf) 1 0) ch text in
    let places = ap (λ n. n * width) counted in
    omega (arith, places, add-mul (cond (eqb ch lf) 1 0) (count_by (λ b. eqb b lf) text) width)

-- a character leads on no further than it counts
reach-char : (width ch : ℕ) (s : Picture) → s.col ≤ width
    → (play_char width ch s).row * width + (play_char width ch s).col ≤ s.row * width + s.col + 1 + cond (eqb ch lf) 1 0 * width
reach-char width ch s within =
    elim (cases_eq ch cr) [
      | inl e ↦ rw (eq-eqb ch cr e, ne_eqb ch lf (λ f. omega arith)) (omega arith)
      | inr n ↦ elim (cases_eq ch lf) [
        | inl e ↦ rw (ne_eqb ch cr n, eq-eqb ch lf e) (omega (arith, add-mul s.row 1 width, one-mul width))
        | inr m ↦ rw (ne_eqb ch cr n, ne_eqb ch lf m) (elim (cases_eq s.col width) [
          | inl e ↦ rw (eq-eqb s.col width e) (omega (arith, add-mul s.row 1 width, one-mul width))
          | inr k ↦ rw (ne_eqb s.col width k) (omega arith)
        ])
      ]
    ]

-- so what is left to reach falls with each character
pub reach_step : (width ch : ℕ) (text : List ℕ) (s : Picture) → s.col ≤ width
    → (play_char width ch s).row * width + (play_char width ch s).col + reach_of width text ≤ s.row * width + s.col + reach_of width (ch ∷ text)
reach_step width ch text s within = omega (arith, reach-cons width ch text, reach-char width ch s within)

-- one character further, by the cursor alone
pub end_step : (width : ℕ) (text : List ℕ) (i row col next_row next_col : ℕ) → i < length text
    → next_row ≡ (play_char width (get_or text i 0) (cursor_at row col)).row → next_col ≡ (play_char width (get_or text i 0) (cursor_at row col)).col
    → (play_text width (drop (i + 1) text) (cursor_at next_row next_col)).row ≡ (play_text width (drop i text) (cursor_at row col)).row
end_step width text i row col next_row next_col within row_is col_is =
    let next : Picture = play_char width (get_or text i 0) (cursor_at row col) in
    sym (at_drop_more (λ t. (play_text width t (cursor_at row col)).row) text i 0 within
    ∙ ap (λ q. q.row) (text-cursor width (drop (i + 1) text) next)
    ∙ ap (λ k. (play_text width (drop (i + 1) text) (cursor_at k next.col)).row) (sym row_is)
    ∙ ap (λ k. (play_text width (drop (i + 1) text) (cursor_at next_row k)).row) (sym col_is))

-- the row in which a text ends, by the cursor alone
pub row_of_text : (width : ℕ) (text near : List ℕ) (far : List Cell) (row col : ℕ) → (play_text width text (picture_of width near far row col)).row ≡ (play_text width text (cursor_at row col)).row
row_of_text width text near far row col = ap (λ q. q.row) (text-cursor width text (picture_of width near far row col))

-- and the column
pub col_of_text : (width : ℕ) (text near : List ℕ) (far : List Cell) (row col : ℕ) → (play_text width text (picture_of width near far row col)).col ≡ (play_text width text (cursor_at row col)).col
col_of_text width text near far row col = ap (λ q. q.col) (text-cursor width text (picture_of width near far row col))
