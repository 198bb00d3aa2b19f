-- The law that each step leads to an extreme.
use Rattle.std.proofs.Common.{◌≡◌, ℕ, zero, suc, ◌+◌, ◌-◌, ◌<◌, ◌≤◌, Bool, false, List, length, unwrap_or, refl, ap, sym, subst, ◌∙◌, arith, ⊎_elim, inl, inr}
use Rattle.std.proofs.lemmas.Bool.{cases_Bool, cases_eq, cases_lt}
use Rattle.tw_line.specs.Boundaries.{is_boundary, boundary_below}
use Rattle.tw_line.specs.Clusters.{is_cluster_boundary, cluster_after, cluster_before}
use Rattle.tw_line.specs.Extremes.{least_from, greatest_below, IsLeastOr, IsGreatestOr}
use Rattle.tw_line.specs.Laws.{OffsetsAreExtremes, WordsAreExtremes}
use Rattle.tw_line.proofs.BoundaryLemmas.{is_boundary-from, IsCharBoundary-from}
use Rattle.tw_line.specs.Words.{is_space, is_no_space, follows_space, space_from, word_from, word_before}

-- the search from below finds the least
least_from-law : (p : ℕ → Bool) (d count from : ℕ) → IsLeastOr p from (from + count) d (unwrap_or (least_from p from count) d)
unfolding least_from
least_from-law p d zero from = inr ((λ k a b. absurd (omega arith)), refl)
least_from-law p d (suc count) from =
    ⊎_elim (λ passes. rw passes (inl (record { low = omega arith; high = omega arith; passes = passes; first = λ k a b. absurd (omega arith) })))
    (λ fails. let later = least_from-law p d count (suc from) in
    let e : suc from + count ≡ from + suc count = omega arith in
    rw fails (subst (λ to. IsLeastOr p from to d (unwrap_or (least_from p (suc from) count) d)) e
    (⊎_elim (λ found. inl (record {
      low = omega (arith, found.low);
      high = found.high;
      passes = found.passes;
      first = λ k a b. below fails k a (λ c. found.first k c b);
    }))
    (λ none. inr ((λ k a b. below fails k a (λ c. none.0 k c b)), none.1)) later)))
    (cases_Bool (p from))
  where
    below : p from ≡ false → (k : ℕ) → from ≤ k → (suc from ≤ k → p k ≡ false) → p k ≡ false
    below fails k low above = ⊎_elim (λ same. ap p (sym same) ∙ fails) (λ other. above (omega arith)) (cases_eq from k)

-- the search from above finds the greatest
greatest_below-law : (p : ℕ → Bool) (d to : ℕ) → IsGreatestOr p to d (unwrap_or (greatest_below p to) d)
unfolding greatest_below
greatest_below-law p d zero = inr ((λ k a b. absurd (omega arith)), refl)
greatest_below-law p d (suc to) =
    ⊎_elim (λ passes. rw passes (inl (record { high = omega arith; passes = passes; last = λ k a b. absurd (omega arith) })))
    (λ fails. rw fails
    (⊎_elim (λ found. inl (record {
      high = omega (arith, found.high);
      passes = found.passes;
      last = λ k a b. above fails k b (λ c. found.last k a c);
    }))
    (λ none. inr ((λ k a b. above fails k b (λ c. none.0 k a c)), none.1)) (greatest_below-law p d to)))
    (cases_Bool (p to))
  where
    above : p to ≡ false → (k : ℕ) → k < suc to → (k < to → p k ≡ false) → p k ≡ false
    above fails k high lower = ⊎_elim (λ same. ap p (sym same) ∙ fails) (λ other. lower (omega arith)) (cases_eq to k)

-- nothing is searched where the range is empty
least_from-beyond : (p : ℕ → Bool) (d from to : ℕ) → to ≤ from → IsLeastOr p from to d (unwrap_or (least_from p from 0) d)
unfolding least_from
least_from-beyond p d from to far = inr ((λ k a b. absurd (omega arith)), refl)

-- a search up to a number, which may lie below the start
least_to : (p : ℕ → Bool) (d from to count : ℕ) → count ≡ to - from → IsLeastOr p from to d (unwrap_or (least_from p from count) d)
least_to p d from to count e =
    ⊎_elim (λ low. let end : from + count ≡ to = omega arith in
    subst (λ to. IsLeastOr p from to d (unwrap_or (least_from p from count) d)) end (least_from-law p d count from))
    (λ far. let none : 0 ≡ count = omega arith in
    subst (λ n. IsLeastOr p from to d (unwrap_or (least_from p from n) d)) none (least_from-beyond p d from to far))
    (cases_lt from to)

-- the boundaries, the steps over clusters and the clamp
pub offsets_are_extremes : (text : List ℕ) (at : ℕ) → OffsetsAreExtremes text at
unfolding cluster_after cluster_before boundary_below
offsets_are_extremes text at = record {
  boundary = (IsCharBoundary-from text at, is_boundary-from text at);
  cluster_after = least_to (is_cluster_boundary text) at (at + 1) (length text + 1) (length text - at) (omega arith);
  cluster_before = greatest_below-law (is_cluster_boundary text) at at;
  boundary_below = greatest_below-law (is_boundary text) 0 (at + 1);
}

-- the steps over words
pub words_are_extremes : (cs : List ℕ) (q : ℕ) → WordsAreExtremes cs q
unfolding space_from word_from word_before
words_are_extremes cs q = record {
  word_before = greatest_below-law (follows_space cs) 0 q;
  space_from = least_to (is_space cs) (length cs) q (length cs) (length cs - q) refl;
  word_from = least_to (is_no_space cs) (length cs) q (length cs) (length cs - q) refl;
}
