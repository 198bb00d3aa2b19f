-- What is left of cells in order after a clear, and their last row.
use Rattle.std.proofs.Common.{◌≡◌, ◌≢◌, ℕ, suc, true, false, cond, eqb, ◌&&◌, ◌+◌, ◌*◌, ◌-◌, ◌<◌, ◌≤◌, List, [], ◌∷◌, length, take, drop, refl, sym, ap, ◌∙◌, arith, inl, inr, Some}
use Rattle.std.proofs.Math.Path.{fun_ext}
use Rattle.std.proofs.lemmas.Bool.{cases_eq, cases_lt, cases_order, eq-eqb, ne_eqb, lt-ltb, le-ltb, le-leb, lt-leb}
use Rattle.std.proofs.lemmas.List.{get_or-take, get_or-drop, length-take-le, length-drop, take-append-drop, append-nil}
use Rattle.std.proofs.lemmas.List.Elements.{All-take}
use Rattle.tw_surface.specs.declared.screen.far.Cell.{Cell}
use Rattle.tw_surface.specs.Pictures.{blank, cells_cleared_from}
use Rattle.tw_surface.specs.Cells.{cell_in, cell_at, IsBefore, IsInOrder, IsAt, IsGapFor, IsCountBefore, IsSparse, IsLastRow, AreEnded}
use Rattle.tw_surface.proofs.CellLookups.{StandsAt, cell_in-none, cell_in-same_front, before_found, behind_found, cell_in_at}

-- two places do not stand before each other
not_both_before : (r c row col : ℕ) → IsBefore r c row col → IsBefore row col r c → ⊥
not_both_before r c row col one other =
    let same : r ≡ row = omega (arith, one.rows, other.rows) in
    omega (arith, one.columns same, other.columns (sym same))

-- the cells are cut at a cell that stands there
pub cut_at : (cells : List Cell) → IsInOrder cells → (row col i : ℕ) → IsAt cells row col i → IsCountBefore cells row col i
cut_at cells ordered row col i at = record {
  in_range = omega (arith, at.in_range);
  before = before_found cells ordered row col i at;
  from = λ k le below earlier.
      elim (cases_eq k i) [
        | inl same ↦ let here : IsBefore (cell_at cells i).row (cell_at cells i).col row col = rw same at earlier in omega (arith, here.columns, at.row_is, at.col_is)
        | inr other ↦ not_both_before _ _ row col earlier (behind_found cells ordered row col i at k (omega arith) below)
      ];
}

-- and at a gap
pub cut_at_gap : (cells : List Cell) (row col i : ℕ) → IsGapFor cells row col i → IsCountBefore cells row col i
cut_at_gap cells row col i gap = record {
  in_range = gap.in_range;
  before = gap.before;
  from = λ k le below earlier. not_both_before _ _ row col earlier (gap.behind k le below);
}

module _ (cells : List Cell) (row col i : ℕ) (cut : IsCountBefore cells row col i) where
  -- before the place, the cells show what they showed
  shows_before : (r c : ℕ) → IsBefore r c row col → cell_in (take i cells) r c ≡ cell_in cells r c
  shows_before r c earlier =
      let rest : cell_in (drop i cells) r c ≡ blank = cell_in-none (drop i cells) r c (λ k below there.
      let size : length (drop i cells) ≡ length cells - i = length-drop i cells in
      let place : cell_at (drop i cells) k ≡ cell_at cells (i + k) = get_or-drop i cells k _ in
      let stands : StandsAt (cell_at cells (i + k)) r c = rw place at there in
      cut.from (i + k) (omega arith) (omega (arith, cut.in_range)) (rw (stands.row_is, stands.col_is) earlier)) in
      sym (ap (λ l. cell_in l r c) (sym (take-append-drop i cells))
      ∙ cell_in-same_front (take i cells) (drop i cells) [] r c rest
      ∙ ap (λ l. cell_in l r c) (append-nil (take i cells)))

  -- at the place and after it, a blank
  blank_from : (r c : ℕ) → (IsBefore r c row col → ⊥) → cell_in (take i cells) r c ≡ blank
  blank_from r c later = cell_in-none (take i cells) r c (λ k below there.
      let size : length (take i cells) ≡ i = length-take-le i cells cut.in_range in
      let place : cell_at (take i cells) k ≡ cell_at cells k = get_or-take i cells k _ (omega arith) in
      let stands : StandsAt (cell_at cells k) r c = rw place at there in
      let before = cut.before k (omega arith) in
      later (record { rows = omega (arith, before.rows, stands.row_is); columns = λ same. omega (arith, before.columns, stands.row_is, stands.col_is) }))

  -- so clearing drops the cells from the cut on
  cleared_at : (r c : ℕ) → cell_in (take i cells) r c ≡ cells_cleared_from (cell_in cells) row col r c
  cleared_at r c =
      elim (cases_order r row) [
        | inl same ↦ elim (cases_lt c col) [
          | inl left ↦ rw (le-ltb row r (omega arith), eq-eqb row r (sym same), lt-leb col c left) (shows_before r c (record { rows = omega arith; columns = λ _. left }))
          | inr right ↦ rw (le-ltb row r (omega arith), eq-eqb row r (sym same), le-leb col c right) (blank_from r c (λ earlier. omega (arith, earlier.columns same)))
        ]
        | inr apart ↦ elim apart [
          | inl above ↦ rw (le-ltb row r (omega arith), ne_eqb row r (λ e. omega arith)) (shows_before r c (record { rows = omega arith; columns = λ e. omega arith }))
          | inr below ↦ rw (lt-ltb row r below) (blank_from r c (λ earlier. omega (arith, earlier.rows)))
        ]
      ]

  pub cleared_take : cell_in (take i cells) ≡ cells_cleared_from (cell_in cells) row col
  cleared_take = fun_ext (λ r. fun_ext (λ c. cleared_at r c))

-- the first cells are as sparse as all
pub sparse_take : (cells : List Cell) (i : ℕ) → i ≤ length cells → (width first : ℕ) → IsSparse width first cells → IsSparse width first (take i cells)
sparse_take cells i within width first sparse = record {
  ordered = λ a b d below inside.
      let size : length (take i cells) ≡ i = length-take-le i cells within in
      rw (get_or-take i cells a d (omega arith), get_or-take i cells b d (omega arith)) (sparse.ordered a b d below (omega (arith, within)));
  inside = All-take (λ x. x.col < width) i cells sparse.inside;
  ascii = All-take (λ x. x.ch < 128) i cells sparse.ascii;
  behind = All-take (λ x. first ≤ x.row * width + x.col) i cells sparse.behind;
}

-- ---- blanks at the end

-- the cells from an index on are blank
abbrev pub AreBlankFrom : List Cell → ℕ → Type 0
AreBlankFrom cells end = (k : ℕ) → end ≤ k → k < length cells → (cell_at cells k).ch ≡ blank

-- blank cells show blanks
cell_in-blanks : (cells : List Cell) (row col : ℕ) → AreBlankFrom cells 0 → cell_in cells row col ≡ blank
cell_in-blanks [] row col blanks = refl
cell_in-blanks (cell ∷ cells) row col blanks =
    elim (eqb cell.row row && eqb cell.col col) as (λ b. cond b cell.ch (cell_in cells row col) ≡ blank) [
      | true ↦ blanks 0 (omega arith) (omega arith)
      | false ↦ cell_in-blanks cells row col (λ k from below. blanks (suc k) (omega arith) (omega arith))
    ]

-- and without those at the end, the others show what all did
pub cell_in-trimmed : (cells : List Cell) (end : ℕ) → end ≤ length cells → AreBlankFrom cells end → cell_in (take end cells) ≡ cell_in cells
cell_in-trimmed cells end within blanks = fun_ext (λ r. fun_ext (λ c.
    let size : length (drop end cells) ≡ length cells - end = length-drop end cells in
    let rest : cell_in (drop end cells) r c ≡ blank =
    cell_in-blanks (drop end cells) r c (λ k from below. ap (λ x. x.ch) (get_or-drop end cells k (record { row = 0; col = 0; ch = 0 })) ∙ blanks (end + k) (omega arith) (omega arith)) in
    sym (ap (λ l. cell_in l r c) (sym (take-append-drop end cells))
    ∙ cell_in-same_front (take end cells) (drop end cells) [] r c rest
    ∙ ap (λ l. cell_in l r c) (append-nil (take end cells)))))

-- and the last of them is visible, where it is not blank
pub ended_take : (cells : List Cell) (end : ℕ) → end ≤ length cells → (0 < end → (cell_at cells (end - 1)).ch ≢ blank) → AreEnded (take end cells)
ended_take cells end within visible some =
    let size : length (take end cells) ≡ end = length-take-le end cells within in
    let last : cell_at (take end cells) (length (take end cells) - 1) ≡ cell_at cells (length (take end cells) - 1) = get_or-take end cells (length (take end cells) - 1) _ (omega (arith, size, some)) in
    λ e. visible (omega (arith, size, some)) (ap (λ n. (cell_at cells (n - 1)).ch) (sym size) ∙ sym (ap (λ x. x.ch) last) ∙ e)

-- from the width on, a blank
pub blank_outside : (width first : ℕ) (cells : List Cell) (row col : ℕ) → IsSparse width first cells → width ≤ col → cell_in cells row col ≡ blank
blank_outside width first cells row col sparse outside = cell_in-none cells row col (λ k below there. omega (arith, sparse.inside k (record { row = 0; col = 0; ch = 0 }) below, there.col_is))

-- the last cell stands in the last row
pub last_row_is : (cells : List Cell) → IsInOrder cells → AreEnded cells → 0 < length cells → IsLastRow (cell_in cells) (Some (cell_at cells (length cells - 1)).row)
last_row_is cells ordered ended some =
    let i = length cells - 1 in
    let last = cell_at cells i in
    let at : IsAt cells last.row last.col i = record { in_range = omega arith; row_is = refl; col_is = refl } in (
      (last.col, λ e. ended some (sym (cell_in_at cells ordered last.row last.col i at) ∙ e)),
      λ row col below. cell_in-none cells row col (λ k within there.
          elim (cases_eq k i) [
            | inl same ↦ let here : StandsAt (cell_at cells i) row col = rw same at there in omega (arith, here.row_is)
            | inr other ↦ let earlier = before_found cells ordered last.row last.col i at k (omega arith) in omega (arith, earlier.rows, there.row_is)
          ]),
    )

-- in a row, all after the last cell before the width is blank
pub blank_behind : (width first : ℕ) (cells : List Cell) (row col end : ℕ) → IsSparse width first cells → IsCountBefore cells row width end
    → ((0 < end) → (cell_at cells (end - 1)).row ≡ row → (cell_at cells (end - 1)).col < col) → cell_in cells row col ≡ blank
blank_behind width first cells row col end sparse cut last = cell_in-none cells row col (λ k within there.
    let inside : (cell_at cells k).col < width = sparse.inside k (record { row = 0; col = 0; ch = 0 }) within in
    elim (cases_lt k end) [
      | inr past ↦ cut.from k past within (record { rows = omega (arith, there.row_is); columns = λ e. inside })
      | inl low ↦
          let at_last = cut.before (end - 1) (omega arith) in
          elim (cases_eq k (end - 1)) [
            | inl same ↦
                let behind = last (omega arith) (rw same at there.row_is) in
                let col_is : (cell_at cells (end - 1)).col ≡ col = rw same at there.col_is in
                omega (arith, behind, col_is)
            | inr other ↦
                let before : IsBefore (cell_at cells k).row (cell_at cells k).col (cell_at cells (end - 1)).row (cell_at cells (end - 1)).col = sparse.ordered k (end - 1) _ (omega arith) (omega (arith, cut.in_range)) in
                let row_is : (cell_at cells (end - 1)).row ≡ row = omega (arith, before.rows, at_last.rows, there.row_is) in
                let behind = last (omega arith) row_is in
                omega (arith, behind, before.columns (there.row_is ∙ sym row_is), there.col_is)
          ]
    ])
