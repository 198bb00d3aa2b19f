-- What a run of printable characters does to near cells, and where it leads.
use Rattle.std.proofs.Common.{◌≡◌, ℕ, zero, suc, leb, ◌+◌, ◌*◌, ◌-◌, ◌/◌, ◌%◌, ◌<◌, ◌≤◌, true, List, [], ◌∷◌, ◌++◌, length, count_by, cond, eqb, set, drop, get_or, refl, sym, ap, ◌∙◌, arith, inl, inr}
use Rattle.std.specs.List.{All, list_all}
use Rattle.std.proofs.Math.Nat.{add-mul}
use Rattle.std.proofs.lemmas.Bool.{cases_eq, cases_lt, eq-eqb, ne_eqb, and_parts, leb-true}
use Rattle.std.proofs.lemmas.List.{get_or-set_same, get_or-set_other, length-set, ext_get_or, length-append}
use Rattle.std.proofs.lemmas.List.Elements.{All-from_get_or}
use Rattle.std.proofs.lemmas.List.Sums.{sum_by-append}
use Rattle.std.proofs.lemmas.Nat.{same_from_place, mod_below, div-add-mod'}
use Rattle.tw_surface.specs.declared.screen.far.Cell.{Cell}
use Rattle.tw_surface.specs.Characters.{is_printable, is_plain, lf}
use Rattle.tw_surface.specs.Pictures.{Picture, blank, cursor_at, cells_with, play_char, play_text}
use Rattle.tw_surface.specs.Cells.{cell_in, shown_at, picture_of, reach_of, IsOverwritten}
use Rattle.tw_surface.proofs.LineOfCells.{Stands, next_row, over, picture_with-col}
use Rattle.tw_surface.proofs.TypedText.{play-typed, typed-col, printable_play}
use Rattle.tw_surface.proofs.NearCells.{written_near, written_far}

-- ---- where it leads

module _ (w row col : ℕ) (run : List ℕ) (positive : 0 < w) (most : col ≤ w) (printable : list_all is_printable run ≡ true) where
  abbrev end_of : Picture
  end_of = play_text w run (cursor_at row col)

  stands_behind : Stands w end_of (row * w + col + length run) (over (row * w + col) run (λ i. blank))
  stands_behind = play-typed w run (cursor_at row col) (row * w + col) (λ i. blank) positive printable (record { at = λ r c inside. refl; place = refl; within = most })

  pub run_place : end_of.row * w + end_of.col ≡ row * w + col + length run
  run_place = stands_behind.place

  pub run_within : end_of.col ≤ w
  run_within = stands_behind.within

  -- the row and the column, by division
  pub run_ends : 0 < length run → (row + (col + length run - 1) / w ≡ end_of.row) × ((col + length run - 1) % w + 1 ≡ end_of.col)
  run_ends some =
      let last : ℕ = col + length run - 1 in
      let behind : 0 < end_of.col = typed-col w run (cursor_at row col) printable (inr some) in
      let parts : last / w * w + last % w ≡ last = div-add-mod' last w in
      let whole : (row + last / w) * w ≡ row * w + last / w * w = add-mul row (last / w) w in
      let both = same_from_place (row + last / w) (last % w) end_of.row (end_of.col - 1) w (mod_below last w positive) (omega (arith, run_within)) (omega (arith, run_place)) in
      (both.0, omega (arith, both.1))

-- ---- what it writes

-- one character leads one place on
pub char_place : (w ch : ℕ) (s : Picture) → 0 < w → s.col ≤ w → is_printable ch ≡ true
    → ((play_char w ch s).row * w + (play_char w ch s).col ≡ s.row * w + s.col + 1) × ((play_char w ch s).col ≤ w)
char_place w ch s positive most printable =
    rw (printable_play w ch s printable) (elim (cases_eq s.col w) [
      | inl waits ↦ rw (eq-eqb s.col w waits) (omega (arith, next_row s.row w 1), omega arith)
      | inr inside ↦ rw (ne_eqb s.col w inside) (omega arith, omega arith)
    ])

-- one character of it
run_char : (w : ℕ) (near : List ℕ) (far : List Cell) (row col ch : ℕ) → col ≤ w → 0 < w → is_printable ch ≡ true → row * w + col < length near
    → play_char w ch (picture_of w near far row col) ≡ picture_of w (set near (row * w + col) ch) far (play_char w ch (picture_of w near far row col)).row (play_char w ch (picture_of w near far row col)).col
run_char w near far row col ch most positive printable within =
    rw (printable_play w ch (picture_of w near far row col) printable) (elim (cases_eq col w) [
      | inl waits ↦
          let next : (row + 1) * w + 0 ≡ row * w + col = omega (arith, next_row row w 0) in
          rw (eq-eqb col w waits) (ap (λ cell. record { cell = cell; row = row + 1; col = 1 }) (sym (ap (λ p. shown_at w (set near p ch) far) (sym next) ∙ written_near w near far (row + 1) 0 ch positive (omega arith))))
      | inr inside ↦ rw (ne_eqb col w inside) (ap (λ cell. record { cell = cell; row = row; col = col + 1 }) (sym (written_near w near far row col ch (omega arith) within)))
    ])

-- the rest of a run is written after its first character
rest_overwritten : (near new : List ℕ) (p ch : ℕ) (run : List ℕ) → p < length near → IsOverwritten near new p (ch ∷ run) → IsOverwritten (set near p ch) new (p + 1) run
rest_overwritten near new p ch run within over = record {
  within = λ k below. let e : p + suc k ≡ p + 1 + k = omega arith in rw e at (over.within (suc k) (omega arith));
  below = λ k below. elim (cases_eq k p) [
    | inl same ↦ let e : p + 0 ≡ p = omega arith in rw same ((rw e at (over.within 0 (omega arith))) ∙ sym (get_or-set_same near p ch 0 within))
    | inr other ↦ over.below k (omega arith) ∙ sym (get_or-set_other near p k ch 0 other)
  ];
  above = λ k past. over.above k (omega arith) ∙ sym (get_or-set_other near p k ch 0 (λ e. omega arith));
}

-- printable characters are of ASCII
printable_ascii : (run : List ℕ) → list_all is_printable run ≡ true → (k : ℕ) → k < length run → get_or run k 0 < 128
printable_ascii [] printable k within = absurd (omega arith)
printable_ascii (ch ∷ run) printable zero within =
    let most : ch ≤ 126 = leb-true _ _ (and_parts (leb 32 ch) (leb ch 126) (and_parts (is_printable ch) (list_all is_printable run) printable).0).1 in
    omega arith
printable_ascii (ch ∷ run) printable (suc k) within = printable_ascii run (and_parts (is_printable ch) (list_all is_printable run) printable).1 k (omega arith)

-- a run shows what playing it shows
pub run_shown : (w : ℕ) (near new : List ℕ) (far : List Cell) (row col : ℕ) (run : List ℕ) → 0 < w → col ≤ w → list_all is_printable run ≡ true
    → row * w + col + length run ≤ length near → length new ≡ length near → IsOverwritten near new (row * w + col) run
    → (play_text w run (picture_of w near far row col)).cell ≡ shown_at w new far
run_shown w near new far row col [] positive most printable room size over =
    let same : near ≡ new = ext_get_or 0 near new (sym size) (λ k within. elim (cases_lt k (row * w + col)) [ inl low ↦ sym (over.below k low) | inr high ↦ sym (over.above k (omega arith)) ]) in
    ap (λ l. shown_at w l far) same
run_shown w near new far row col (ch ∷ run) positive most printable room size over =
    let both = and_parts (is_printable ch) (list_all is_printable run) printable in
    let place : ℕ = row * w + col in
    let next : Picture = play_char w ch (picture_of w near far row col) in
    let at = char_place w ch (picture_of w near far row col) positive most both.0 in
    let rest : IsOverwritten (set near place ch) new (next.row * w + next.col) run = rw at.0 (rest_overwritten near new place ch run (omega arith) over) in
    ap (λ q. (play_text w run q).cell) (run_char w near far row col ch most positive both.0 (omega arith))
    ∙ run_shown w (set near place ch) new far next.row next.col run positive at.1 both.1 (omega (arith, at.0, length-set near place ch)) (size ∙ sym (length-set near place ch)) rest

-- and keeps near cells of ASCII
pub run_ascii : (near new : List ℕ) (place : ℕ) (run : List ℕ) → list_all is_printable run ≡ true → length new ≡ length near → place + length run ≤ length near
    → IsOverwritten near new place run → All (λ b. b < 128) near → All (λ b. b < 128) new
run_ascii near new place run printable size room over ascii =
    All-from_get_or (λ b. b < 128) new 0 (λ k within. elim (cases_lt k place) [
      | inl low ↦ rw (over.below k low) (ascii k 0 (omega arith))
      | inr high ↦ elim (cases_lt k (place + length run)) [
        | inl inside ↦
            let e : place + (k - place) ≡ k = omega arith in
            rw (rw e at (over.within (k - place) (omega arith))) (printable_ascii run printable (k - place) (omega arith))
        | inr above ↦ rw (over.above k above) (ascii k 0 (omega arith))
      ]
    ])

-- ---- a character after the near cells

-- the cell that it is written to
pub far_place : (w row col ch next_row next_col : ℕ) → 0 < w → col ≤ w → is_printable ch ≡ true
    → next_row ≡ (play_char w ch (cursor_at row col)).row → next_col ≡ (play_char w ch (cursor_at row col)).col
    → (next_col - 1 < w) × (next_row * w + (next_col - 1) ≡ row * w + col)
far_place w row col ch next_row next_col positive most printable row_is col_is =
    let at = char_place w ch (cursor_at row col) positive most printable in
    let behind : 0 < (play_char w ch (cursor_at row col)).col = rw (printable_play w ch (cursor_at row col) printable) (picture_with-col w ch (cursor_at row col)) in
    let rows = ap (λ r. r * w) row_is in
    (omega (arith, at.1), omega (arith, at.0, rows))

pub far_played : (w : ℕ) (near : List ℕ) (far new : List Cell) (row col ch new_row new_col : ℕ) → 0 < w → col ≤ w → is_printable ch ≡ true → length near ≤ row * w + col
    → new_row ≡ (play_char w ch (cursor_at row col)).row → new_col ≡ (play_char w ch (cursor_at row col)).col
    → cell_in new ≡ cells_with (cell_in far) new_row (new_col - 1) ch
    → picture_of w near new new_row new_col ≡ play_char w ch (picture_of w near far row col)
far_played w near far new row col ch new_row new_col positive most printable past row_is col_is is =
    elim (cases_eq col w) [
      | inl waits ↦
          let r : new_row ≡ row + 1 = row_is ∙ rw (printable_play w ch (cursor_at row col) printable, eq-eqb col w waits) refl in
          let k : new_col ≡ 1 = col_is ∙ rw (printable_play w ch (cursor_at row col) printable, eq-eqb col w waits) refl in
          let next : (row + 1) * w + 0 ≡ row * w + col = omega (arith, next_row row w 0) in
          rw (r, k, printable_play w ch (picture_of w near far row col) printable, eq-eqb col w waits)
          (ap (λ cell. record { cell = cell; row = row + 1; col = 1 }) (written_far w near far (row + 1) 0 ch positive new (omega arith) (rw (r, k) at is)))
      | inr inside ↦
          let r : new_row ≡ row = row_is ∙ rw (printable_play w ch (cursor_at row col) printable, ne_eqb col w inside) refl in
          let k : new_col ≡ col + 1 = col_is ∙ rw (printable_play w ch (cursor_at row col) printable, ne_eqb col w inside) refl in
          let e : col + 1 - 1 ≡ col = omega arith in
          rw (r, k, printable_play w ch (picture_of w near far row col) printable, ne_eqb col w inside)
          (ap (λ cell. record { cell = cell; row = row; col = col + 1 }) (written_far w near far row col ch (omega arith) new past (rw (r, k, e) at is)))
    ]

-- ---- a text in two parts

pub play_text-append : (w : ℕ) (a b : List ℕ) (s : Picture) → play_text w (a ++ b) s ≡ play_text w b (play_text w a s)
play_text-append w [] b s = refl
play_text-append w (ch ∷ a) b s = play_text-append w a b (play_char w ch s)

-- what is after a part of a text is reached from after that part
pub reach_behind : (w : ℕ) (a b : List ℕ) → length a + reach_of w b ≤ reach_of w (a ++ b)
reach_behind w a b =
    omega (arith, length-append a b, ap (λ n. n * w) (sum_by-append (λ c. cond (eqb c lf) 1 0) a b), add-mul (count_by (λ c. eqb c lf) a) (count_by (λ c. eqb c lf) b) w)

-- what is left of a plain text is plain
pub plain_rest : (n : ℕ) (text : List ℕ) → list_all is_plain text ≡ true → list_all is_plain (drop n text) ≡ true
plain_rest zero text plain = plain
plain_rest (suc n) [] plain = plain
plain_rest (suc n) (ch ∷ text) plain = plain_rest n text (and_parts (is_plain ch) (list_all is_plain text) plain).1
