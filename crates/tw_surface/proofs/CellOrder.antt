-- How a search among cells in order ends.
use Rattle.std.proofs.Common.{◌≡◌, ℕ, ◌<◌, ◌≤◌, List, length, Result, Ok, Err, IfOk, IfErr, refl, arith, inl, inr}
use Rattle.std.specs.List.Sorted.{IsSearchInRange, IsBinarySearchResult, IsNonDecreasingBy}
use Rattle.std.specs.declared.cmp.Ordering.{Ordering}
use Rattle.std.specs.declared.cmp.Ordering.TheVariants.{Less, Equal, Greater}
use Rattle.std.specs.Ordering.{nat_cmp, ordering_index, ordering_then, MatchOrdering}
use Rattle.std.proofs.lemmas.Bool.Decides.{nat_tests}
use Rattle.std.proofs.lemmas.Bool.{cases_lt}
use Rattle.std.proofs.lemmas.Cmp.{ranked, by_ranked}
use Rattle.tw_surface.specs.declared.screen.far.Cell.{Cell}
use Rattle.tw_surface.specs.Cells.{cell_at, IsBefore, IsInOrder, IsAt, IsGapFor}

-- how a row and a column compare with others
abbrev pub place_cmp : ℕ × ℕ → ℕ × ℕ → Ordering
place_cmp x y = ordering_then (nat_cmp x.0 y.0) (nat_cmp x.1 y.1)

-- a later place compares no lower
rises : (r c r' c' row col : ℕ) → IsBefore r c r' c' → ordering_index (place_cmp (r, c) (row, col)) ≤ ordering_index (place_cmp (r', c') (row, col))
rises r c r' c' row col before = grind (arith, nat_tests, before.rows, before.columns)

-- what a comparison says
place_ranked : (r c row col : ℕ) → MatchOrdering (place_cmp (r, c) (row, col)) (IsBefore r c row col) ((r ≡ row) × (c ≡ col)) (IsBefore row col r c)
place_ranked r c row col =
    by_ranked (r < row) (r ≡ row) (row < r) (nat_cmp r row) (ranked r row _ refl)
    (λ e p. rw e (record { rows = omega arith; columns = λ same. omega arith }))
    (λ e p. by_ranked (c < col) (c ≡ col) (col < c) (nat_cmp c col) (ranked c col _ refl)
    (λ d q. rw (e, d) (record { rows = omega arith; columns = λ same. q }))
    (λ d q. rw (e, d) (p, q))
    (λ d q. rw (e, d) (record { rows = omega arith; columns = λ same. q })))
    (λ e p. rw e (record { rows = omega arith; columns = λ same. omega arith }))

module _ (cells : List Cell) (ordered : IsInOrder cells) (row col : ℕ) where
  -- how the cell at an index compares with the row and the column
  abbrev cmp_at : ℕ → Ordering
  cmp_at k = place_cmp ((cell_at cells k).row, (cell_at cells k).col) (row, col)

  -- the comparisons rise along the cells, as a binary search asks
  comparisons_rise : IsNonDecreasingBy (λ x. ordering_index (place_cmp (x.row, x.col) (row, col))) cells
  comparisons_rise i j d le within =
      elim (cases_lt i j) [
        | inl below ↦ rises _ _ _ _ row col (ordered i j d below within)
        | inr above ↦ let same : i ≡ j = omega arith in rw same (omega arith)
      ]

  -- and what that says
  ranked_at : (k : ℕ) → MatchOrdering (cmp_at k) (IsBefore (cell_at cells k).row (cell_at cells k).col row col) (((cell_at cells k).row ≡ row) × ((cell_at cells k).col ≡ col)) (IsBefore row col (cell_at cells k).row (cell_at cells k).col)
  ranked_at k = place_ranked (cell_at cells k).row (cell_at cells k).col row col

  -- a binary search ends at a cell that stands there, or at the gap for one
  pub searched : (r : Result ℕ ℕ) → IsSearchInRange r (length cells) → IsBinarySearchResult (λ x. place_cmp (x.row, x.col) (row, col)) cells r
      → record { found : IfOk r (IsAt cells row col); absent : IfErr r (IsGapFor cells row col) }
  searched (Ok at) in_range equal =
      let e : cmp_at at ≡ Equal = equal _ in
      let same : ((cell_at cells at).row ≡ row) × ((cell_at cells at).col ≡ col) = rw e at (ranked_at at) in
      record { found = record { in_range = in_range; row_is = same.0; col_is = same.1 }; absent = tt }
  searched (Err at) in_range parted = record {
    found = tt;
    absent = record {
      in_range = in_range;
      before = λ k below. let e : cmp_at k ≡ Less = (parted comparisons_rise).0 k _ (omega arith) below in rw e at (ranked_at k);
      behind = λ k le below. let e : cmp_at k ≡ Greater = (parted comparisons_rise).1 k _ le below in rw e at (ranked_at k);
    };
  }
