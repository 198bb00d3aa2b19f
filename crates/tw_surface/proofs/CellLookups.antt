-- What a list of cells shows at a row and a column.
use Rattle.std.proofs.Common.{◌≡◌, ℕ, true, false, cond, eqb, ◌&&◌, zero, suc, ◌<◌, List, [], ◌∷◌, ◌++◌, length, refl, ◌∙◌, arith, inl, inr}
use Rattle.std.proofs.lemmas.Bool.{cases_eq, cases_lt, eq-eqb, ne_eqb}
use Rattle.std.specs.List.{All}
use Rattle.std.proofs.lemmas.List.Elements.{All-head, All-tail}
use Rattle.tw_surface.specs.declared.screen.far.Cell.{Cell}
use Rattle.tw_surface.specs.Pictures.{blank}
use Rattle.tw_surface.specs.Cells.{cell_in, cell_at, IsBefore, IsInOrder, IsAt, IsGapFor}

-- the cell stands at a row and a column
pub record StandsAt (cell : Cell) (row col : ℕ) : Type 0 where
  pub row_is : cell.row ≡ row
  pub col_is : cell.col ≡ col

-- none of the first n cells stands at a row and a column
abbrev pub NoneAtBefore : List Cell → ℕ → ℕ → ℕ → Type 0
NoneAtBefore cells n row col = (k : ℕ) → k < n → StandsAt (cell_at cells k) row col → ⊥

-- a first cell elsewhere is passed over
pub cell_in-past : (cell : Cell) (cells : List Cell) (row col : ℕ) → (StandsAt cell row col → ⊥) → cell_in (cell ∷ cells) row col ≡ cell_in cells row col
cell_in-past cell cells row col elsewhere =
    elim (cases_eq cell.row row) [
      | inl same_row ↦ elim (cases_eq cell.col col) [
        | inl same_col ↦ absurd (elsewhere (record { row_is = same_row; col_is = same_col }))
        | inr other ↦ rw (eq-eqb _ _ same_row, ne_eqb _ _ other) refl
      ]
      | inr other ↦ rw (ne_eqb _ _ other) refl
    ]

-- a first cell at the row and the column is shown
pub cell_in-first : (cell : Cell) (cells : List Cell) (row col : ℕ) → StandsAt cell row col → cell_in (cell ∷ cells) row col ≡ cell.ch
cell_in-first cell cells row col at = rw (eq-eqb _ _ at.row_is, eq-eqb _ _ at.col_is) refl

-- a blank where no cell stands
pub cell_in-none : (cells : List Cell) (row col : ℕ) → NoneAtBefore cells (length cells) row col → cell_in cells row col ≡ blank
cell_in-none [] row col none = refl
cell_in-none (cell ∷ cells) row col none =
    cell_in-past cell cells row col (none 0 (omega arith)) ∙ cell_in-none cells row col (λ k below. none (suc k) (omega arith))

-- the first cell that stands there is shown
pub cell_in-found : (cells : List Cell) (row col i : ℕ) → IsAt cells row col i → NoneAtBefore cells i row col → cell_in cells row col ≡ (cell_at cells i).ch
cell_in-found [] row col i at none = absurd (omega (arith, at.in_range))
cell_in-found (cell ∷ cells) row col zero at none = cell_in-first cell cells row col (record { row_is = at.row_is; col_is = at.col_is })
cell_in-found (cell ∷ cells) row col (suc i) at none =
    let rest : IsAt cells row col i = record { in_range = omega (arith, at.in_range); row_is = at.row_is; col_is = at.col_is } in
    cell_in-past cell cells row col (none 0 (omega arith)) ∙ cell_in-found cells row col i rest (λ k below. none (suc k) (omega arith))

-- lists with a common front show the same where their rests do
pub cell_in-same_front : (front xs ys : List Cell) (row col : ℕ) → cell_in xs row col ≡ cell_in ys row col → cell_in (front ++ xs) row col ≡ cell_in (front ++ ys) row col
cell_in-same_front [] xs ys row col same = same
cell_in-same_front (cell ∷ front) xs ys row col same = rw (cell_in-same_front front xs ys row col same) refl

module _ (cells : List Cell) (ordered : IsInOrder cells) (row col i : ℕ) where
  -- in order, the cells below the one at a row and a column stand before them
  pub before_found : IsAt cells row col i → (k : ℕ) → k < i → IsBefore (cell_at cells k).row (cell_at cells k).col row col
  before_found at k below =
      let earlier : IsBefore (cell_at cells k).row (cell_at cells k).col (cell_at cells i).row (cell_at cells i).col = ordered k i _ below at.in_range in
      record { rows = omega (arith, earlier.rows, at.row_is); columns = λ same. omega (arith, earlier.columns, at.row_is, at.col_is) }

  -- and so no other cell stands there
  pub none_before_found : IsAt cells row col i → NoneAtBefore cells i row col
  none_before_found at k below there =
      let earlier = before_found at k below in
      omega (arith, earlier.columns, there.row_is, there.col_is)

  -- the cells above it stand after it
  pub behind_found : IsAt cells row col i → (k : ℕ) → i < k → k < length cells → IsBefore row col (cell_at cells k).row (cell_at cells k).col
  behind_found at k above below =
      let later : IsBefore (cell_at cells i).row (cell_at cells i).col (cell_at cells k).row (cell_at cells k).col = ordered i k _ above below in
      record { rows = omega (arith, later.rows, at.row_is); columns = λ same. omega (arith, later.columns, at.row_is, at.col_is) }

  -- a look-up that finds a cell
  pub cell_in_at : IsAt cells row col i → cell_in cells row col ≡ (cell_at cells i).ch
  cell_in_at at = cell_in-found cells row col i at (none_before_found at)

module _ (cells : List Cell) (row col i : ℕ) (gap : IsGapFor cells row col i) where
  -- no cell stands at a row and a column for which there is a gap
  pub none_at_gap : NoneAtBefore cells (length cells) row col
  none_at_gap k below there =
      elim (cases_lt k i) [
        | inl lower ↦ let earlier = gap.before k lower in omega (arith, earlier.columns, there.row_is, there.col_is)
        | inr higher ↦ let later = gap.behind k higher below in omega (arith, later.columns, there.row_is, there.col_is)
      ]

  -- a look-up that finds a gap
  pub cell_in_gap : cell_in cells row col ≡ blank
  cell_in_gap = cell_in-none cells row col none_at_gap

-- a look-up gives a character of ASCII where all cells are
pub cell_ascii : (cells : List Cell) → All (λ x. x.ch < 128) cells → (row col : ℕ) → cell_in cells row col < 128
cell_ascii [] all row col = omega arith
cell_ascii (cell ∷ cells) all row col =
    elim (eqb cell.row row && eqb cell.col col) as (λ b. cond b cell.ch (cell_in cells row col) < 128) [
      | true ↦ All-head (λ x. x.ch < 128) cell cells all
      | false ↦ cell_ascii cells (All-tail (λ x. x.ch < 128) cell cells all) row col
    ]
