-- A sheet, drawn from column 0 of row s on a screen without a bottom, leaves its fresh painting.
use Rattle.std.proofs.Common.{◌≡◌, ℕ, zero, suc, ◌+◌, ◌-◌, ◌*◌, ◌/◌, ◌%◌, max, ◌<◌, ◌≤◌, true, List, [], ◌∷◌, map, length, refl, sym, ap, ◌∙◌, subst, arith, ◌⊎◌, inl, inr, add-zero}
use Rattle.std.specs.List.{list_all, sum_by}
use Rattle.std.proofs.lemmas.Bool.{cases_lt, ne_eqb, cond-true, cond-false, and_parts, le-leb, lt-leb}
use Rattle.std.proofs.lemmas.Nat.{mul-le, div-add-mod', mod_below, div-mul-add, mod-mul-add}
use Rattle.std.proofs.Math.Nat.{zero-div, add-mul, one-mul, add-div_right, div-eq_of_lt, max-eq_right}
use Rattle.std.proofs.lemmas.List.Sums.{sum_by-cons}
use Rattle.laws_screens.specs.Strokes.{PictureOf, cleared_in, steps}
use Rattle.laws_screens.specs.Sheets.{Sheet, Writing, laid, laid_out, is_narrow, rows_of_line, sheet_text_row, sheet_last_row, sheet_cursor_row, last_length, behind, IsSheetCell, AreLinesShown, IsInLowerLines, IsFreshSheet, typed, broken, drawing}
use Rattle.laws_screens.proofs.LineOfCells.{at_row, at_col, below_row, over, all_from, over-outside, over-inside, Stands, cleared-stands, typed-stands, typed-began, steps-append, line_of, line_of-at, line_of-stands}

-- ---- division

-- the place of cell k of a text from row s on
pub cell_place : (w s k : ℕ) → (s + k / w) * w + k % w ≡ s * w + k
cell_place w s k = omega (arith, add-mul s (k / w) w, div-add-mod' k w)

window_place : (w s up k : ℕ) → (s + k / w + up) * w + k % w ≡ (s + up) * w + k
window_place w s up k = let same : s + k / w + up ≡ s + up + k / w = omega arith in rw same (cell_place w (s + up) k)

-- the rows of a line of q cells
pub rows-is : (w q : ℕ) → 0 < w → max 1 ((q + w - 1) / w) ≡ 1 + (q - 1) / w
rows-is w zero h =
    let e : 0 + w - 1 < w = omega arith in
    rw (div-eq_of_lt e, zero-div w) refl
rows-is w (suc q) h =
    let e : suc q + w - 1 ≡ q + w = omega arith in
    let d : suc q - 1 ≡ q = omega arith in
    rw (e, d, add-div_right q h) (max-eq_right (omega arith) ∙ omega arith)

-- where n cells from column 0 of row r end
ends : (w r n row col : ℕ) → 0 < w → row * w + col ≡ r * w + n → col ≤ w → 0 < n → 0 < col → (row ≡ r + (n - 1) / w) × (col ≡ (n - 1) % w + 1)
ends w r n row col h e k p c =
    let d : row * w + (col - 1) ≡ r * w + (n - 1) = omega arith in
    let q = div-mul-add row w (col - 1) (omega arith) in
    let m = mod-mul-add row w (col - 1) (omega arith) in
    (cc (q, d, at_row w r (n - 1) h), omega (arith, m, ap (λ i. i % w) d, at_col w r (n - 1)))

-- a text that does not end after the last column ends in the row of the cell after it
same_row : (w n : ℕ) → 0 < w → (n % w ≡ 0 → n ≡ 0) → (n - 1) / w ≡ n / w
same_row w n h off_edge = grind (arith, div-add-mod' n w, mod_below n w h, off_edge, div-mul-add (n / w) w (n % w - 1), zero-div w)

-- a text ends above the row under its last one
fresh_row : (w s n : ℕ) → 0 < w → s * w + n < (s + n / w + 1) * w
fresh_row w s n h =
    omega (arith, add-mul (s + n / w) 1 w, add-mul s (n / w) w, one-mul w, div-add-mod' n w, mod_below n w h)

-- a place is a cell of n cells from row a on, or before them or after them
pub cell_or_not : (w a n r c : ℕ) → 2 ≤ w → c < w → ((k : ℕ) × (k < n) × IsSheetCell w a k r c) ⊎ ((r * w + c < a * w) ⊎ (a * w + n ≤ r * w + c))
cell_or_not w a n r c two h =
    elim (cases_lt (r * w + c) (a * w)) [
      | inl b ↦ inr (inl b)
      | inr b ↦ elim (cases_lt (r * w + c) (a * w + n)) [
        | inr d ↦ inr (inr d)
        | inl d ↦
            let k : ℕ = r * w + c - a * w in
            let e : r * w + c ≡ a * w + k = omega arith in
            let row : r ≡ a + k / w = sym (div-mul-add r w c h) ∙ ap (λ i. i / w) e ∙ at_row w a k (omega arith) in
            let col : c ≡ k % w = sym (mod-mul-add r w c h) ∙ ap (λ i. i % w) e ∙ at_col w a k in
            inl (k, omega arith, (row, col))
      ]
    ]

-- one that is none of these in a window that begins up rows further down
not_of : (w up a n r c : ℕ) → 2 ≤ w → c < w → ((k : ℕ) × (k < n) × IsSheetCell w a k r c → ⊥) → ((r + up) * w + c < (a + up) * w) ⊎ ((a + up) * w + n ≤ (r + up) * w + c)
not_of w up a n r c two h none = elim (cell_or_not w (a + up) n (r + up) c two h) [ inl i ↦ absurd (none (i.0, i.1, (omega (arith, i.2.0), i.2.1))) | inr out ↦ out ]

module _ {C : Type 0} where
  -- ---- lines

  -- the cursor after n cells of row last, and what the screen shows
  pub record Drawn (w last n : ℕ) (f : ℕ → C) (t : PictureOf C) : Type 0 where
    pub row : t.row ≡ last
    pub col : t.col ≡ behind w n
    pub cells : (r c : ℕ) → c < w → t.cell r c ≡ f (r * w + c)

  pub typed-ends : (b : C) (w r : ℕ) (line : List (List C)) (f : ℕ → C) (t : PictureOf C) → 0 < w → list_all (is_narrow w) line ≡ true → t.row ≡ r → t.col ≡ 0
      → ((i c : ℕ) → c < w → t.cell i c ≡ f (i * w + c)) → ((i : ℕ) → r * w ≤ i → f i ≡ b)
      → let cells = laid b w 0 line in
      Drawn w (r + (length cells - 1) / w) (length cells) (over (r * w) cells f) (steps w (typed line) t)
  typed-ends b w r line f t h narrow row col cells blank =
      let stands : Stands w t (r * w) f = record { at = cells; place = rw (row, col) (add-zero (r * w)); within = omega (arith, col) } in
      let all : Stands w (steps w (typed line) t) (r * w + length (laid b w 0 line)) (over (r * w) (laid b w 0 line) f) =
      subst (λ x. Stands w (steps w (typed line) t) (r * w + length (laid b w x line)) (over (r * w) (laid b w x line) f)) col
      (typed-stands w b line t (r * w) f h narrow blank stands) in
      elim (typed-began w r line t narrow (omega (arith, col)) (inl (row, col))) [
        | inl still ↦
            let none : length (laid b w 0 line) ≡ 0 = omega (arith, all.place, ap (λ i. i * w) still.0, still.1) in
            record { row = still.0 ∙ rw none (omega (arith, zero-div w)); col = still.1 ∙ rw none refl; cells = all.at }
        | inr past ↦
            let some : 0 < length (laid b w 0 line) = omega (arith, all.place, mul-le r w _ w past.0 (omega arith), past.1) in
            let e = ends w r (length (laid b w 0 line)) _ _ h all.place all.within some past.1 in
            record { row = e.0; col = e.1 ∙ sym (rw (ne_eqb (length (laid b w 0 line)) 0 (λ e. omega (arith, e, some))) refl); cells = all.at }
      ]

  -- lines one after the other, from row r on
  abbrev pub over_lines : ℕ → ℕ → List (List C) → (ℕ → C) → ℕ → C
  over_lines w r [] f i = f i
  over_lines w r (line ∷ more) f i = over_lines w (r + rows_of_line w line) more (over (r * w) line f) i

  Drawn-same : (w last last' n : ℕ) (f f' : ℕ → C) (t t' : PictureOf C) → last ≡ last' → f ≡ f' → t ≡ t' → Drawn w last' n f' t' → Drawn w last n f t
  Drawn-same w last last' n f f' t t' a b c h = rw (a, b, c) h

  -- a line ends before the row after its rows
  fits : (w r : ℕ) (line : List C) → 2 ≤ w → r * w + length line ≤ (r + rows_of_line w line) * w
  fits w r line two =
      let e : rows_of_line w line ≡ 1 + (length line - 1) / w = rows-is w (length line) (omega arith) in
      rw e (omega (arith, add-mul r (1 + (length line - 1) / w) w, add-mul 1 ((length line - 1) / w) w, one-mul w, div-add-mod' (length line - 1) w, mod_below (length line - 1) w (omega arith)))

  broken-ends : (b : C) (w last n : ℕ) (lines : List (List (List C))) (f : ℕ → C) (t : PictureOf C) → 2 ≤ w → list_all (list_all (is_narrow w)) lines ≡ true
      → ((i : ℕ) → (last + 1) * w ≤ i → f i ≡ b) → Drawn w last n f t
      → let laid_lines = map (laid b w 0) lines in
      Drawn w (last + sum_by (rows_of_line w) laid_lines) (last_length n laid_lines) (over_lines w (last + 1) laid_lines f) (steps w (broken lines) t)
  broken-ends b w last n [] f t two narrow blank k = record { row = k.row ∙ sym (add-zero last); col = k.col; cells = k.cells }
  broken-ends b w last n (line ∷ more) f t two narrow blank k =
      let both = and_parts (list_all (is_narrow w) line) (list_all (list_all (is_narrow w)) more) narrow in
      let cells : List C = laid b w 0 line in
      let others : List (List C) = map (laid b w 0) more in
      let down : PictureOf C = record { cell = t.cell; row = t.row + 1; col = 0 } in
      let one = typed-ends b w (last + 1) line f down (omega arith) both.0 (ap (λ r. r + 1) k.row) refl k.cells blank in
      let count : last + rows_of_line w cells ≡ last + 1 + (length cells - 1) / w = rw (rows-is w (length cells) (omega arith)) (omega arith) in
      let next : Drawn w (last + rows_of_line w cells) (length cells) (over ((last + 1) * w) cells f) (steps w (typed line) down) =
      record { row = one.row ∙ sym count; col = one.col; cells = one.cells } in
      let e : last + 1 + rows_of_line w cells ≡ last + rows_of_line w cells + 1 = omega arith in
      let behind_line : (i : ℕ) → (last + rows_of_line w cells + 1) * w ≤ i → over ((last + 1) * w) cells f i ≡ b =
      λ i q.
      let end : (last + 1) * w + length cells ≤ (last + rows_of_line w cells + 1) * w =
      subst (λ r. (last + 1) * w + length cells ≤ r * w) e (fits w (last + 1) cells two) in
      over-outside ((last + 1) * w) cells f i (inr (omega (arith, end, q))) ∙ blank i (omega (arith, end, q)) in
      let rest = broken-ends b w (last + rows_of_line w cells) (length cells) more (over ((last + 1) * w) cells f) (steps w (typed line) down) two both.1 behind_line next in
      Drawn-same w _ _ (last_length (length cells) others) _ _ _ _ (omega (arith, sum_by-cons (rows_of_line w) cells others))
      (ap (λ r. over_lines w r others (over ((last + 1) * w) cells f)) e)
      (steps-append w (typed line) (broken more) down) rest

  -- ---- a sheet

  -- what a drawing starts on: b from row s on
  abbrev base : C → ℕ → ℕ → PictureOf C → ℕ → C
  base b w s before = all_from b (s * w) (line_of w before)

  abbrev cells_of : C → ℕ → ℕ → List C → PictureOf C → ℕ → C
  cells_of b w s text before i = over (s * w) text (base b w s before) i

  abbrev pub all_cells : C → ℕ → ℕ → Sheet C → PictureOf C → ℕ → C
  all_cells b w s sheet before i = over_lines w (s + sheet_text_row w sheet + 1) sheet.lower (cells_of b w s sheet.text before) i

  pub drawn : (b : C) (w s : ℕ) (writing : Writing C) (sheet : Sheet C) (before : PictureOf C) → 2 ≤ w → before.row ≡ s → before.col ≡ 0
      → sheet ≡ laid_out b w writing sheet.at
      → list_all (is_narrow w) writing.text ≡ true → list_all (list_all (is_narrow w)) writing.lower ≡ true
      → (length sheet.text % w ≡ 0 → length sheet.text ≡ 0)
      → Drawn w (s + sheet_last_row w sheet) (last_length (length sheet.text) sheet.lower) (all_cells b w s sheet before) (steps w (drawing b writing) before)
  drawn b w s writing sheet before two row col is narrow below off_edge =
      subst (λ x. (length x.text % w ≡ 0 → length x.text ≡ 0) → Drawn w (s + sheet_last_row w x) (last_length (length x.text) x.lower) (all_cells b w s x before) (steps w (drawing b writing) before))
      (sym is) out off_edge
    where
      made : Sheet C
      made = laid_out b w writing sheet.at

      out : (length made.text % w ≡ 0 → length made.text ≡ 0) → Drawn w (s + sheet_last_row w made) (last_length (length made.text) made.lower) (all_cells b w s made before) (steps w (drawing b writing) before)
      out off_edge =
          let clear : PictureOf C = record before { cell = cleared_in before.cell before.row before.col b } in
          let start : Stands w clear (s * w) (base b w s before) =
          cleared-stands w b before (s * w) (line_of w before) (omega (arith, col)) (line_of-stands w s before (omega arith) row col) in
          let one = typed-ends b w s writing.text (base b w s before) clear (omega arith) narrow row col start.at (λ i k. cond-true _ _ _ (le-leb (s * w) i k)) in
          let text : Drawn w (s + sheet_text_row w made) (length made.text) (cells_of b w s made.text before) (steps w (typed writing.text) clear) =
          record { row = one.row ∙ ap (λ i. s + i) (same_row w (length made.text) (omega arith) off_edge); col = one.col; cells = one.cells } in
          let all = broken-ends b w (s + sheet_text_row w made) (length made.text) writing.lower (cells_of b w s made.text before) (steps w (typed writing.text) clear) two below
          (λ i k. let past : s * w + length made.text ≤ i = omega (arith, fresh_row w s (length made.text) (omega arith), k) in
          over-outside (s * w) made.text (base b w s before) i (inr past) ∙ cond-true _ _ _ (le-leb (s * w) i (omega (arith, past)))) text in
          Drawn-same w _ _ (last_length (length made.text) made.lower) _ _ _ _ (omega arith) refl
          (steps-append w (typed writing.text) (broken writing.lower) clear) all

  -- ---- the fresh painting

  lines-before : (w r : ℕ) (lines : List (List C)) (f : ℕ → C) (i : ℕ) → 2 ≤ w → i < r * w → over_lines w r lines f i ≡ f i
  lines-before w r [] f i two h = refl
  lines-before w r (line ∷ more) f i two h =
      lines-before w (r + rows_of_line w line) more (over (r * w) line f) i two (omega (arith, fits w r line two)) ∙ over-outside (r * w) line f i (inl h)

  -- in a window that begins up rows further down
  lines-shown : (b : C) (w up r : ℕ) (lines : List (List C)) (f : ℕ → C) (t : PictureOf C) → 2 ≤ w
      → ((i c : ℕ) → c < w → t.cell i c ≡ over_lines w (r + up) lines f ((i + up) * w + c)) → AreLinesShown w r b lines t
  lines-shown b w up r [] f t two h = tt
  lines-shown b w up r (line ∷ more) f t two h =
      let g : ℕ → C = over ((r + up) * w) line f in (
        λ k q. h (r + k / w) (k % w) (mod_below k w (omega arith))
            ∙ ap (over_lines w (r + up + rows_of_line w line) more g) (window_place w r up k)
            ∙ lines-before w (r + up + rows_of_line w line) more g ((r + up) * w + k) two (omega (arith, fits w (r + up) line two))
            ∙ over-inside b ((r + up) * w) line f k q,
        lines-shown b w up (r + rows_of_line w line) more g t two (λ i c q. h i c q ∙ ap (λ n. over_lines w n more g ((i + up) * w + c)) (omega arith)),
      )

  lines-rest : (w up r : ℕ) (lines : List (List C)) (f : ℕ → C) (i c : ℕ) → 2 ≤ w → c < w → (IsInLowerLines w r lines i c → ⊥)
      → over_lines w (r + up) lines f ((i + up) * w + c) ≡ f ((i + up) * w + c)
  lines-rest w up r [] f i c two h none = refl
  lines-rest w up r (line ∷ more) f i c two h none =
      ap (λ n. over_lines w n more (over ((r + up) * w) line f) ((i + up) * w + c)) (omega arith)
      ∙ lines-rest w up (r + rows_of_line w line) more (over ((r + up) * w) line f) i c two h (λ q. none (inr q))
      ∙ over-outside ((r + up) * w) line f ((i + up) * w + c) (not_of w up r (length line) i c two h (λ q. none (inl q)))

  pub above-cells : (b : C) (w s : ℕ) (sheet : Sheet C) (before : PictureOf C) (r c : ℕ) → 2 ≤ w → r < s → c < w → all_cells b w s sheet before (r * w + c) ≡ before.cell r c
  above-cells b w s sheet before r c two a h =
      let up : r * w + c < s * w = below_row w r c s a h in
      lines-before w _ sheet.lower (cells_of b w s sheet.text before) (r * w + c) two (omega (arith, fresh_row w s (length sheet.text) (omega arith)))
      ∙ over-outside (s * w) sheet.text (base b w s before) (r * w + c) (inl up)
      ∙ cond-false _ _ _ (lt-leb (s * w) (r * w + c) up)
      ∙ line_of-at w before r c h

  -- a window with these cells, and the cursor at its index
  pub fresh : (b : C) (w s up : ℕ) (sheet : Sheet C) (before t : PictureOf C) → 2 ≤ w → ((r c : ℕ) → c < w → t.cell r c ≡ all_cells b w (s + up) sheet before ((r + up) * w + c))
      → t.row ≡ s + sheet_cursor_row w sheet → t.col ≡ sheet.at % w → IsFreshSheet w s b sheet t
  fresh b w s up sheet before t two cells row col =
      let low : ℕ = s + sheet_text_row w sheet + 1 in
      let f : ℕ → C = cells_of b w (s + up) sheet.text before in
      let same : s + up + sheet_text_row w sheet + 1 ≡ low + up = omega arith in
      let lines : (r c : ℕ) → c < w → t.cell r c ≡ over_lines w (low + up) sheet.lower f ((r + up) * w + c) =
      λ r c h. cells r c h ∙ ap (λ n. over_lines w n sheet.lower f ((r + up) * w + c)) same in
      record {
        shown = λ k h. cells (s + k / w) (k % w) (mod_below k w (omega arith)) ∙ ap (all_cells b w (s + up) sheet before) (window_place w s up k)
            ∙ lines-before w (s + up + sheet_text_row w sheet + 1) sheet.lower f ((s + up) * w + k) two (omega (arith, fresh_row w (s + up) (length sheet.text) (omega arith)))
            ∙ over-inside b ((s + up) * w) sheet.text (base b w (s + up) before) k h;
        below = lines-shown b w up low sheet.lower f t two lines;
        rest = λ r c from h none1 none2.
            let past : (s + up) * w ≤ (r + up) * w + c = omega (arith, mul-le (s + up) w (r + up) w (omega (arith, from)) (omega arith)) in
            let out : (s + up) * w + length sheet.text ≤ (r + up) * w + c = elim (not_of w up s (length sheet.text) r c two h none1) [ inl x ↦ absurd (omega arith) | inr x ↦ x ] in
            lines r c h ∙ lines-rest w up low sheet.lower f r c two h none2
            ∙ over-outside ((s + up) * w) sheet.text (base b w (s + up) before) ((r + up) * w + c) (inr out) ∙ cond-true _ _ _ (le-leb ((s + up) * w) ((r + up) * w + c) past);
        row = row;
        col = col;
      }
