-- What stands when far cells become near ones, one after the other.
use Rattle.std.proofs.Common.{◌≡◌, ℕ, suc, ◌+◌, ◌*◌, ◌-◌, ◌<◌, ◌≤◌, List, [], ◌∷◌, ◌++◌, length, drop, get_or, refl, sym, ap, ◌∙◌, arith, inl, inr}
use Rattle.std.proofs.Math.Path.{fun_ext}
use Rattle.std.proofs.lemmas.Bool.{cases_eq, cases_lt}
use Rattle.std.proofs.lemmas.Nat.{same_from_place}
use Rattle.std.proofs.lemmas.List.{length-append, get_or_append_left, get_or-append_right, drop_more}
use Rattle.std.proofs.lemmas.List.Elements.{All-head, All-tail, All-cons, All-weaker, All-from_get_or}
use Rattle.tw_surface.specs.declared.screen.far.Cell.{Cell}
use Rattle.tw_surface.specs.Cells.{cell_at, shown_at, IsBefore, IsSparse, IsGrown, AreCellsBefore}
use Rattle.tw_surface.proofs.LineOfCells.{below_row}
use Rattle.tw_surface.proofs.CellLookups.{cell_in-past, cell_in-first}
use Rattle.tw_surface.proofs.NearCells.{shown_near, shown_far, shown_grown}

-- the place of a cell in one line of all rows
abbrev pub place : ℕ → Cell → ℕ
place width cell = cell.row * width + cell.col

-- a later cell stands at a later place
pub place_rises : (width first : ℕ) (cells : List Cell) → IsSparse width first cells → (i j : ℕ) → i < j → j < length cells → place width (cell_at cells i) < place width (cell_at cells j)
place_rises width first cells sparse i j below within =
    let zeros : Cell = record { row = 0; col = 0; ch = 0 } in
    let before : IsBefore (cell_at cells i).row (cell_at cells i).col (cell_at cells j).row (cell_at cells j).col = sparse.ordered i j zeros below within in
    let inside : (cell_at cells i).col < width = sparse.inside i zeros (omega arith) in
    elim (cases_eq (cell_at cells i).row (cell_at cells j).row) [
      | inl same ↦ omega (arith, before.columns same, ap (λ r. r * width) same)
      | inr other ↦ let low : place width (cell_at cells i) < (cell_at cells j).row * width = below_row width (cell_at cells i).row (cell_at cells i).col (cell_at cells j).row (omega (arith, before.rows)) inside in omega arith
    ]

-- so all stand before the place after the last
pub within_end : (width first : ℕ) (cells : List Cell) → IsSparse width first cells → AreCellsBefore width (place width (cell_at cells (length cells - 1)) + 1) cells
within_end width first cells sparse =
    All-from_get_or (λ x. x.row * width + x.col < place width (cell_at cells (length cells - 1)) + 1) cells (record { row = 0; col = 0; ch = 0 }) (λ k within.
    elim (cases_eq k (length cells - 1)) [
      | inl last ↦ rw last (omega arith)
      | inr other ↦ let rises = place_rises width first cells sparse k (length cells - 1) (omega arith) (omega arith) in omega arith
    ])

-- the cells after the first one stand after its place
pub sparse_rest : (width first : ℕ) (cell : Cell) (cells : List Cell) → IsSparse width first (cell ∷ cells) → IsSparse width (place width cell + 1) cells
sparse_rest width first cell cells sparse = record {
  ordered = λ i j d below within. sparse.ordered (suc i) (suc j) d (omega arith) (omega arith);
  inside = All-tail (λ x. x.col < width) cell cells sparse.inside;
  ascii = All-tail (λ x. x.ch < 128) cell cells sparse.ascii;
  behind = All-from_get_or (λ x. place width cell + 1 ≤ x.row * width + x.col) cells (record { row = 0; col = 0; ch = 0 }) (λ k within.
      let rises : place width cell < place width (cell_at cells k) = place_rises width first (cell ∷ cells) sparse 0 (suc k) (omega arith) (omega arith) in omega arith);
}

-- and all of them from its place on
pub sparse_from : (width first : ℕ) (cell : Cell) (cells : List Cell) → IsSparse width first (cell ∷ cells) → IsSparse width (place width cell) (cell ∷ cells)
sparse_from width first cell cells sparse = record {
  ordered = sparse.ordered;
  inside = sparse.inside;
  ascii = sparse.ascii;
  behind = All-cons (λ x. place width cell ≤ x.row * width + x.col) cell cells (omega arith)
      (All-weaker (λ x. place width cell + 1 ≤ x.row * width + x.col) (λ x. place width cell ≤ x.row * width + x.col) (λ x from. omega (arith, from)) cells (sparse_rest width first cell cells sparse).behind);
}

module _ (width : ℕ) (near : List ℕ) (cell : Cell) (cells : List Cell) (inside : cell.col < width) (at : length near ≡ place width cell) where
  abbrev with_one : List ℕ
  with_one = near ++ cell.ch ∷ []

  one_settled : (r c : ℕ) → shown_at width with_one cells r c ≡ shown_at width near (cell ∷ cells) r c
  one_settled r c =
      let size : length with_one ≡ length near + 1 = length-append near (cell.ch ∷ []) in
      elim (cases_lt c width) [
        | inr outside ↦ shown_far width with_one cells r c (λ h. absurd (omega arith)) ∙ sym (cell_in-past cell cells r c (λ there. omega (arith, there.col_is)))
            ∙ sym (shown_far width near (cell ∷ cells) r c (λ h. absurd (omega arith)))
        | inl left ↦ elim (cases_lt (r * width + c) (length near)) [
          | inl low ↦ shown_near width with_one cells r c left (omega arith) ∙ get_or_append_left near (cell.ch ∷ []) 0 _ low ∙ sym (shown_near width near (cell ∷ cells) r c left low)
          | inr high ↦ elim (cases_eq (r * width + c) (length near)) [
            | inl here ↦
                let same = same_from_place r c cell.row cell.col width left inside (omega arith) in
                let none : r * width + c - length near ≡ 0 = omega arith in
                shown_near width with_one cells r c left (omega arith) ∙ get_or-append_right near (cell.ch ∷ []) (length near) _ 0 refl high ∙ ap (λ k. get_or (cell.ch ∷ []) k 0) none
                ∙ sym (cell_in-first cell cells r c (record { row_is = sym same.0; col_is = sym same.1 })) ∙ sym (shown_far width near (cell ∷ cells) r c (λ h. high))
            | inr other ↦ shown_far width with_one cells r c (λ h. omega arith)
                ∙ sym (cell_in-past cell cells r c (λ there. other (ap (λ k. k * width + c) (sym there.row_is) ∙ ap (λ k. cell.row * width + k) (sym there.col_is) ∙ sym at)))
                ∙ sym (shown_far width near (cell ∷ cells) r c (λ h. high))
          ]
        ]
      ]

  pub shown_settled : shown_at width with_one cells ≡ shown_at width near (cell ∷ cells)
  shown_settled = fun_ext (λ r. fun_ext (λ c. one_settled r c))

-- the first of the far cells becomes a near one, after blanks up to its place
pub settle_first : (width : ℕ) (near grown : List ℕ) (cell : Cell) (cells : List Cell) → IsSparse width (length near) (cell ∷ cells) → IsGrown near grown → length grown ≡ place width cell
    → (shown_at width (grown ++ cell.ch ∷ []) cells ≡ shown_at width near (cell ∷ cells)) × IsSparse width (length (grown ++ cell.ch ∷ [])) cells
settle_first width near grown cell cells sparse more at =
    let from : IsSparse width (length grown) (cell ∷ cells) = rw at (sparse_from width (length near) cell cells sparse) in
    let size : length (grown ++ cell.ch ∷ []) ≡ place width cell + 1 = length-append grown (cell.ch ∷ []) ∙ ap (λ n. n + 1) at in (
      shown_settled width grown cell cells (All-head (λ x. x.col < width) cell cells sparse.inside) at ∙ shown_grown width near grown (cell ∷ cells) more from,
      rw size (sparse_rest width (length near) cell cells sparse),
    )

-- which stands after the near ones
pub first_behind : (width : ℕ) (near : List ℕ) (cells : List Cell) (i : ℕ) → i < length cells → IsSparse width (length near) (drop i cells) → length near ≤ place width (cell_at cells i)
first_behind width near cells i within sparse =
    let split : drop i cells ≡ cell_at cells i ∷ drop (i + 1) cells = drop_more cells i (record { row = 0; col = 0; ch = 0 }) within in
    All-head (λ x. length near ≤ x.row * width + x.col) (cell_at cells i) (drop (i + 1) cells) (rw split at sparse.behind)

pub settle_step : (width : ℕ) (near grown new : List ℕ) (cells : List Cell) (i : ℕ) → i < length cells → IsSparse width (length near) (drop i cells) → IsGrown near grown
    → length grown ≡ place width (cell_at cells i) → new ≡ grown ++ (cell_at cells i).ch ∷ []
    → (shown_at width new (drop (i + 1) cells) ≡ shown_at width near (drop i cells)) × IsSparse width (length new) (drop (i + 1) cells)
settle_step width near grown new cells i within sparse more at is =
    let split : drop i cells ≡ cell_at cells i ∷ drop (i + 1) cells = drop_more cells i (record { row = 0; col = 0; ch = 0 }) within in
    rw (is, split) (settle_first width near grown (cell_at cells i) (drop (i + 1) cells) (rw split at sparse) more at)
