-- The boundaries of a text.
use Rattle.std.proofs.Common.{◌≡◌, ℕ, ◌+◌, ◌<◌, ◌≤◌, true, false, List, length, unwrap_or, sym, ap, subst, ◌∙◌, arith, ◌++◌, take, drop, take_at, append_assoc, length-append, length-take-le}
use Rattle.std.proofs.lemmas.Bool.{false_from_ne_true}
use Rattle.std.proofs.lemmas.Bool.Decides.{nat_tests}
use Rattle.std.proofs.lemmas.Str.{IsUtf8-take, IsCharBoundary-from_take}
use Rattle.std.specs.List.{insert_slice}
use Rattle.std.specs.Str.{IsUtf8, IsCharBoundary}
use Rattle.tw_line.specs.Boundaries.{is_boundary, boundary_below}
use Rattle.tw_line.proofs.ExtremesLemmas.{greatest_below-is}

-- the test passes at what std calls a boundary
pub is_boundary-from : (text : List ℕ) (at : ℕ) → IsCharBoundary text at → is_boundary text at ≡ true
unfolding is_boundary
is_boundary-from text at h = grind (arith, nat_tests, h.0, h.1)

-- where the test passes, std says boundary too
pub IsCharBoundary-from : (text : List ℕ) (at : ℕ) → is_boundary text at ≡ true → IsCharBoundary text at
unfolding is_boundary
IsCharBoundary-from text at h = grind (arith, nat_tests, h)

-- the test fails elsewhere
pub is_boundary-false : (text : List ℕ) (at : ℕ) → (IsCharBoundary text at → ⊥) → is_boundary text at ≡ false
is_boundary-false text at h = false_from_ne_true _ (λ e. h (IsCharBoundary-from text at e))

-- a boundary that no other one up to the offset is above is the greatest
pub boundary_below-is : (text : List ℕ) (at n : ℕ) → n ≤ at → IsCharBoundary text n → ((k : ℕ) → n < k → k ≤ at → IsCharBoundary text k → ⊥) → boundary_below text at ≡ n
unfolding boundary_below
boundary_below-is text at n low cut none =
    ap (λ o. unwrap_or o 0) (greatest_below-is (is_boundary text) (at + 1) n (omega arith) (is_boundary-from text n cut)
    (λ k a b. is_boundary-false text k (none k (omega arith) (omega arith))))

-- a text may be cut before what was inserted
pub IsCharBoundary-insert : (s t : List ℕ) (i : ℕ) → IsUtf8 s → IsCharBoundary s i → IsUtf8 (insert_slice s i t) → IsCharBoundary (insert_slice s i t) i
IsCharBoundary-insert s t i u cut v =
    let fits : i ≤ length s = cut.0 in
    let width : length (take i s) ≡ i = length-take-le i s fits in
    let front : take i (insert_slice s i t) ≡ take i s = ap (take i) (append_assoc (take i s) t (drop i s)) ∙ take_at (take i s) _ i width in
    IsCharBoundary-from_take _ i v (omega (arith, length-append (take i s ++ t) (drop i s), length-append (take i s) t))
    (subst IsUtf8 (sym front) (IsUtf8-take s i u cut))
