-- What the searches for an extreme find, and steps that are repeated.
use Rattle.std.proofs.Common.{◌≡◌, ℕ, zero, suc, ◌+◌, ◌-◌, ◌<◌, ◌≤◌, Bool, true, false, None, Some, refl, sym, ap, ◌∙◌, arith, ⊎_elim}
use Rattle.std.proofs.lemmas.Bool.{cases_eq}
use Rattle.tw_line.specs.Extremes.{least_from, greatest_below, iterate, NonePasses}

-- the least one is found
pub least_from-is : (p : ℕ → Bool) (count from n : ℕ) → from ≤ n → n < from + count → p n ≡ true → NonePasses p from n → least_from p from count ≡ Some n
unfolding least_from
least_from-is p zero from n low high passes none = absurd (omega arith)
least_from-is p (suc count) from n low high passes none =
    ⊎_elim (λ same. let here : p from ≡ true = ap p same ∙ passes in rw here (ap Some same))
    (λ other. let here : p from ≡ false = none from (omega arith) (omega arith) in
    rw here (least_from-is p count (suc from) n (omega arith) (omega arith) passes (λ k a b. none k (omega arith) b)))
    (cases_eq from n)

-- where none passes, none is found from below
pub least_from-none : (p : ℕ → Bool) (count from : ℕ) → NonePasses p from (from + count) → least_from p from count ≡ None
unfolding least_from
least_from-none p zero from none = refl
least_from-none p (suc count) from none =
    let here : p from ≡ false = none from (omega arith) (omega arith) in
    rw here (least_from-none p count (suc from) (λ k a b. none k (omega arith) (omega arith)))

-- the greatest one is found
pub greatest_below-is : (p : ℕ → Bool) (to n : ℕ) → n < to → p n ≡ true → NonePasses p (n + 1) to → greatest_below p to ≡ Some n
unfolding greatest_below
greatest_below-is p zero n high passes none = absurd (omega arith)
greatest_below-is p (suc to) n high passes none =
    ⊎_elim (λ same. let here : p to ≡ true = ap p (sym same) ∙ passes in rw here (ap Some (sym same)))
    (λ other. let here : p to ≡ false = none to (omega arith) (omega arith) in
    rw here (greatest_below-is p to n (omega arith) passes (λ k a b. none k a (omega arith))))
    (cases_eq n to)

-- where none passes, none is found from above
pub greatest_below-none : (p : ℕ → Bool) (to : ℕ) → NonePasses p 0 to → greatest_below p to ≡ None
unfolding greatest_below
greatest_below-none p zero none = refl
greatest_below-none p (suc to) none =
    let here : p to ≡ false = none to (omega arith) (omega arith) in
    rw here (greatest_below-none p to (λ k a b. none k a (omega arith)))

-- a step that does not move can be repeated
pub repeated_stays : {A : Type 0} (f : A → A) (n : ℕ) (x : A) → f x ≡ x → iterate f n x ≡ x
unfolding iterate
repeated_stays f zero x still = refl
repeated_stays f (suc n) x still = rw still (repeated_stays f n x still)

-- m steps and then n steps are m + n steps
pub iterate-add : {A : Type 0} (f : A → A) (m n : ℕ) (x : A) → iterate f (m + n) x ≡ iterate f n (iterate f m x)
unfolding iterate
iterate-add f zero n x = let e : 0 + n ≡ n = omega arith in ap (λ k. iterate f k x) e
iterate-add f (suc m) n x = let e : suc m + n ≡ suc (m + n) = omega arith in ap (λ k. iterate f k x) e ∙ iterate-add f m n (f x)

-- one step of `count`, of which i are done
pub repeated_once : {A : Type 0} (f : A → A) (count i : ℕ) (x y : A) → i < count → y ≡ f x → iterate f (count - (i + 1)) y ≡ iterate f (count - i) x
unfolding iterate
repeated_once f count i x y low step =
    let e : count - i ≡ suc (count - (i + 1)) = omega arith in rw (e, step) refl

-- no step at all
pub repeated_none : {A : Type 0} (f : A → A) (n : ℕ) (x : A) → n ≡ 0 → iterate f n x ≡ x
unfolding iterate
repeated_none f n x e = rw e refl
