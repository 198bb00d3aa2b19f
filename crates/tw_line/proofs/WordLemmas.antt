-- Steps over words.
use Rattle.std.proofs.Common.{◌≡◌, ℕ, zero, suc, ◌+◌, ◌-◌, ◌<◌, ◌≤◌, Bool, true, false, not, None, Some, List, length, unwrap_or, refl, sym, ap, subst, ◌∙◌, arith}
use Rattle.std.proofs.lemmas.Bool.{and_left, and_right, and_from, lt-ltb, le-ltb}
use Rattle.std.specs.Prelude.{if◌then◌else◌}
use Rattle.std.specs.Bool.{beq}
use Rattle.tw_line.specs.Extremes.{least_from, greatest_below}
use Rattle.tw_line.proofs.ExtremesLemmas.{greatest_below-none}
use Rattle.tw_line.specs.Words.{is_space, is_no_space, follows_space, word_before, word_after, space_from, word_from, kind_from}

-- one number less to try, from below
pub least_from-skip : (p : ℕ → Bool) (from next n : ℕ) → next ≡ from + 1 → from < n → p from ≡ false → least_from p next (n - next) ≡ least_from p from (n - from)
unfolding least_from
least_from-skip p from next n e low fails =
    let count : n - from ≡ suc (n - next) = omega arith in
    let step : next ≡ suc from = omega arith in
    rw (count, step, fails) refl

-- the first number to try passes
pub least_from-here : (p : ℕ → Bool) (from n : ℕ) → from < n → p from ≡ true → least_from p from (n - from) ≡ Some from
unfolding least_from
least_from-here p from n low passes =
    let count : n - from ≡ suc (n - from - 1) = omega arith in
    rw (count, passes) refl

-- no number is left to try
pub least_from-end : (p : ℕ → Bool) (from n : ℕ) → n ≤ from → least_from p from (n - from) ≡ None
unfolding least_from
least_from-end p from n e = let count : n - from ≡ 0 = omega arith in rw count refl

-- one number less to try, from above
pub greatest_below-skip : (p : ℕ → Bool) (to : ℕ) → p to ≡ false → greatest_below p (to + 1) ≡ greatest_below p to
unfolding greatest_below
greatest_below-skip p to fails = let step : to + 1 ≡ suc to = omega arith in rw (step, fails) refl

-- the last number to try passes
pub greatest_below-here : (p : ℕ → Bool) (to : ℕ) → p to ≡ true → greatest_below p (to + 1) ≡ Some to
unfolding greatest_below
greatest_below-here p to passes = let step : to + 1 ≡ suc to = omega arith in rw (step, passes) refl

-- a search for whitespace passes over another character
space_from-skip : (cs : List ℕ) (q next : ℕ) → next ≡ q + 1 → q < length cs → is_space cs q ≡ false → space_from cs next ≡ space_from cs q
unfolding space_from
space_from-skip cs q next e low fails = ap (λ o. unwrap_or o (length cs)) (least_from-skip (is_space cs) q next (length cs) e low fails)

-- it ends at whitespace
space_from-here : (cs : List ℕ) (q : ℕ) → q < length cs → is_space cs q ≡ true → space_from cs q ≡ q
unfolding space_from
space_from-here cs q low passes = ap (λ o. unwrap_or o (length cs)) (least_from-here (is_space cs) q (length cs) low passes)

-- it ends at the end
space_from-end : (cs : List ℕ) (q : ℕ) → q ≡ length cs → space_from cs q ≡ q
unfolding space_from
space_from-end cs q e = ap (λ o. unwrap_or o (length cs)) (least_from-end (is_space cs) q (length cs) (omega arith)) ∙ sym e

-- a search for a word passes over whitespace
word_from-skip : (cs : List ℕ) (q next : ℕ) → next ≡ q + 1 → q < length cs → is_no_space cs q ≡ false → word_from cs next ≡ word_from cs q
unfolding word_from
word_from-skip cs q next e low fails = ap (λ o. unwrap_or o (length cs)) (least_from-skip (is_no_space cs) q next (length cs) e low fails)

-- it ends at another character
word_from-here : (cs : List ℕ) (q : ℕ) → q < length cs → is_no_space cs q ≡ true → word_from cs q ≡ q
unfolding word_from
word_from-here cs q low passes = ap (λ o. unwrap_or o (length cs)) (least_from-here (is_no_space cs) q (length cs) low passes)

-- it ends at the end
word_from-end : (cs : List ℕ) (q : ℕ) → q ≡ length cs → word_from cs q ≡ q
unfolding word_from
word_from-end cs q e = ap (λ o. unwrap_or o (length cs)) (least_from-end (is_no_space cs) q (length cs) (omega arith)) ∙ sym e

-- two kinds that are one
pub same_kind : (a b : Bool) → beq a b ≡ true → a ≡ b
same_kind true true e = refl
same_kind true false e = sym e
same_kind false true e = e
same_kind false false e = refl

-- what is not of a kind is of the other
pub other_kind : (a b : Bool) → beq a b ≡ false → a ≡ not b
other_kind true true e = e
other_kind true false e = refl
other_kind false true e = refl
other_kind false false e = sym e

-- a search passes over a character of the other kind
pub kind_from-skip : (space : Bool) (cs : List ℕ) (q next : ℕ) → next ≡ q + 1 → q < length cs → is_space cs q ≡ not space → kind_from space cs next ≡ kind_from space cs q
kind_from-skip true cs q next e low fails = space_from-skip cs q next e low fails
kind_from-skip false cs q next e low fails = word_from-skip cs q next e low (ap not fails)

-- it ends at one of its kind
pub kind_from-here : (space : Bool) (cs : List ℕ) (q : ℕ) → q < length cs → is_space cs q ≡ space → kind_from space cs q ≡ q
kind_from-here true cs q low passes = space_from-here cs q low passes
kind_from-here false cs q low passes = word_from-here cs q low (ap not passes)

-- it ends at the end
pub kind_from-end : (space : Bool) (cs : List ℕ) (q : ℕ) → q ≡ length cs → kind_from space cs q ≡ q
kind_from-end true cs q e = space_from-end cs q e
kind_from-end false cs q e = word_from-end cs q e

-- an index after a character that is no whitespace
follows_space-false : (cs : List ℕ) (i q : ℕ) → q ≡ i + 1 → is_space cs i ≡ false → follows_space cs q ≡ false
follows_space-false cs i q e fails = let same : q - 1 ≡ i = omega arith in and_right _ _ (ap (is_space cs) same ∙ fails)

-- an index after whitespace
follows_space-true : (cs : List ℕ) (i q : ℕ) → q ≡ i + 1 → is_space cs i ≡ true → follows_space cs q ≡ true
follows_space-true cs i q e passes = let same : q - 1 ≡ i = omega arith in and_from _ _ (lt-ltb 0 q (omega arith)) (ap (is_space cs) same ∙ passes)

-- a step back passes over a character that is no whitespace
pub word_before-skip : (cs : List ℕ) (i q : ℕ) → q ≡ i + 1 → is_space cs i ≡ false → word_before cs (i + 1) ≡ word_before cs (q + 1)
unfolding word_before
word_before-skip cs i q e fails =
    ap (λ o. unwrap_or o 0) (sym (greatest_below-skip (follows_space cs) q (follows_space-false cs i q e fails) ∙ ap (greatest_below (follows_space cs)) e))

-- it ends after whitespace
pub word_before-here : (cs : List ℕ) (i q : ℕ) → q ≡ i + 1 → is_space cs i ≡ true → word_before cs (q + 1) ≡ q
unfolding word_before
word_before-here cs i q e passes = ap (λ o. unwrap_or o 0) (greatest_below-here (follows_space cs) q (follows_space-true cs i q e passes))

-- it ends at the start
pub word_before-start : (cs : List ℕ) (q : ℕ) → q ≤ 1 → word_before cs q ≡ 0
unfolding word_before
word_before-start cs q low =
    ap (λ o. unwrap_or o 0) (greatest_below-none (follows_space cs) q (λ k a b. and_left _ _ (le-ltb 0 k (omega arith))))

-- a search from below stays in its range
least_from-le : (p : ℕ → Bool) (count from : ℕ) → unwrap_or (least_from p from count) (from + count) ≤ from + count
unfolding least_from
least_from-le p zero from = omega arith
least_from-le p (suc count) from =
    let later = least_from-le p count (suc from) in
    let e : suc from + count ≡ from + suc count = omega arith in
    elim (p from) as (λ b. unwrap_or (if b then Some from else least_from p (suc from) count) (from + suc count) ≤ from + suc count)
    [ true ↦ omega arith | false ↦ subst (λ n. unwrap_or (least_from p (suc from) count) n ≤ n) e later ]

-- a search from above stays in its range
greatest_below-le : (p : ℕ → Bool) (to : ℕ) → unwrap_or (greatest_below p to) 0 ≤ to
unfolding greatest_below
greatest_below-le p zero = omega arith
greatest_below-le p (suc to) =
    let lower = greatest_below-le p to in
    elim (p to) as (λ b. unwrap_or (if b then Some to else greatest_below p to) 0 ≤ suc to) [ true ↦ omega arith | false ↦ omega arith ]

-- a search up to the end stays in the text
least_to_end : (p : ℕ → Bool) (n q : ℕ) → q ≤ n → unwrap_or (least_from p q (n - q)) n ≤ n
least_to_end p n q low =
    let e : q + (n - q) ≡ n = omega arith in
    subst (λ m. unwrap_or (least_from p q (n - q)) m ≤ m) e (least_from-le p (n - q) q)

-- a step ahead over a word stays in the text
pub word_after-le : (cs : List ℕ) (q : ℕ) → q ≤ length cs → word_after cs q ≤ length cs
unfolding word_from space_from
word_after-le cs q low = least_to_end _ (length cs) _ (least_to_end _ (length cs) q low)

-- a step back over a word does not go ahead
pub word_before-le : (cs : List ℕ) (q : ℕ) → word_before cs q ≤ q
unfolding word_before
word_before-le cs q = greatest_below-le _ q
