-- Where a pasted text ends.
use Rattle.std.proofs.Common.{◌≡◌, ◌≤◌, ◌<◌, ◌+◌, ℕ, Bool, true, false, cond, eqb, List, [], ◌∷◌, ◌++◌, Option, Some, None, IfSome, drop, length, arith, ap, ◌∙◌, sym, refl}
use Rattle.std.specs.List.{starts_with}
use Rattle.std.specs.Option.{option_map}
use lib.Pointwise.{pointwise}
use Rattle.std.proofs.lemmas.Bool.{and_parts}
use Rattle.std.proofs.lemmas.List.{drop-drop, take-append-le}
use Rattle.tw_ansi.specs.KeyBytes.{paste_len, paste_end}

mapped : (i : ℕ) (o : Option ℕ) → option_map (λ n. n + (i + 1)) o ≡ option_map (λ n. n + i) (option_map (λ n. n + 1) o)
mapped i None = refl
mapped i (Some n) = let e : n + (i + 1) ≡ n + 1 + i = omega arith in ap (λ (k : ℕ). Some k) e

-- where no end stands at the front, the text goes on
goes_on : (bytes : List ℕ) → 0 < length bytes → starts_with eqb bytes paste_end ≡ false
    → paste_len bytes ≡ option_map (λ n. n + 1) (paste_len (drop 1 bytes))
goes_on [] some not = absurd (omega arith)
goes_on (b ∷ bytes) some not = ap (λ t. cond t (Some 0) (option_map (λ n. n + 1) (paste_len bytes))) not

-- one more byte without an end
pub paste_step : (bytes : List ℕ) (i : ℕ) (all : Option ℕ) → 0 < length (drop i bytes) → starts_with eqb (drop i bytes) paste_end ≡ false
    → option_map (λ n. n + i) (paste_len (drop i bytes)) ≡ all → option_map (λ n. n + (i + 1)) (paste_len (drop (i + 1) bytes)) ≡ all
paste_step bytes i all some not so_far =
    ap (λ left. option_map (λ n. n + (i + 1)) (paste_len left)) (sym (drop-drop 1 i bytes))
    ∙ mapped i _ ∙ ap (λ o. option_map (λ n. n + i) o) (sym (goes_on (drop i bytes) some not)) ∙ so_far

-- what begins with a text is as long
pub starts_long : (needle xs : List ℕ) → starts_with eqb xs needle ≡ true → length needle ≤ length xs
starts_long [] xs h = omega arith
starts_long (n ∷ needle) [] h = absurd cc
starts_long (n ∷ needle) (x ∷ xs) h = omega (arith, starts_long needle xs (and_parts _ _ h).1)

-- whether it begins so is not changed by what follows
pub starts_more : (needle xs more : List ℕ) → length needle ≤ length xs → starts_with eqb (xs ++ more) needle ≡ starts_with eqb xs needle
starts_more needle xs more fits = ap (λ front. pointwise eqb needle front) (take-append-le (length needle) xs more fits)

within_if : (t : Bool) (o : Option ℕ) (n m : ℕ) → (t ≡ true → 6 ≤ m) → m ≡ n + 1 → IfSome o (λ k. k + 6 ≤ n)
    → IfSome (cond t (Some 0) (option_map (λ k. k + 1) o)) (λ k. k + 6 ≤ m)
within_if true o n m h e g = omega (arith, h refl)
within_if false None n m h e g = tt
within_if false (Some k) n m h e g = omega arith

-- what stands before the first end, and the end, are there
pub paste_within : (bytes : List ℕ) → IfSome (paste_len bytes) (λ k. k + 6 ≤ length bytes)
paste_within [] = tt
paste_within (b ∷ bytes) =
    within_if (starts_with eqb (b ∷ bytes) paste_end) (paste_len bytes) (length bytes) (length (b ∷ bytes))
    (λ yes. starts_long paste_end (b ∷ bytes) yes) (omega arith) (paste_within bytes)

more_if : (t u : Bool) (o p : Option ℕ) → (t ≡ true → u ≡ true) → IfSome o (λ k. (u ≡ t) × (p ≡ Some k))
    → IfSome (cond t (Some 0) (option_map (λ k. k + 1) o)) (λ k. cond u (Some 0) (option_map (λ k. k + 1) p) ≡ Some k)
more_if true u o p h g = ap (λ v. cond v (Some 0) (option_map (λ k. k + 1) p)) (h refl)
more_if false u None p h g = tt
more_if false u (Some k) p h (same, found) =
    ap (λ v. cond v (Some 0) (option_map (λ k. k + 1) p)) same ∙ ap (λ q. option_map (λ k. k + 1) q) found

both_if : (t u : Bool) (o p : Option ℕ) (n : ℕ) → (6 ≤ n + 1 → u ≡ t) → IfSome o (λ k. k + 6 ≤ n) → IfSome o (λ k. p ≡ Some k)
    → IfSome o (λ k. (u ≡ t) × (p ≡ Some k))
both_if t u None p n h f g = tt
both_if t u (Some k) p n h f g = (h (omega arith), g)

-- the first end stays the first, whatever follows
pub paste_more : (bytes more : List ℕ) → IfSome (paste_len bytes) (λ k. paste_len (bytes ++ more) ≡ Some k)
paste_more [] more = tt
paste_more (b ∷ bytes) more =
    let t = starts_with eqb (b ∷ bytes) paste_end in
    let u = starts_with eqb (b ∷ (bytes ++ more)) paste_end in
    let same : 6 ≤ length (b ∷ bytes) → u ≡ t = starts_more paste_end (b ∷ bytes) more in
    more_if t u (paste_len bytes) (paste_len (bytes ++ more)) (λ yes. same (starts_long paste_end (b ∷ bytes) yes) ∙ yes)
    (both_if t u (paste_len bytes) (paste_len (bytes ++ more)) (length bytes) (λ fits. same (omega arith)) (paste_within bytes) (paste_more bytes more))
