-- The least and the greatest number that passes a test, and a step repeated.
use Rattle.std.specs.Prelude.{◌≡◌, ℕ, zero, suc, ◌<◌, ◌≤◌, ◌⊎◌, Bool, true, false, Option, Some, None, if◌then◌else◌}

-- the least of the `count` numbers from `from` on that passes
unfoldable pub least_from : (ℕ → Bool) → ℕ → ℕ → Option ℕ
least_from p from zero = None
least_from p from (suc count) = if p from then Some from else least_from p (suc from) count

-- the greatest number below `to` that passes
unfoldable pub greatest_below : (ℕ → Bool) → ℕ → Option ℕ
greatest_below p zero = None
greatest_below p (suc to) = if p to then Some to else greatest_below p to

-- f applied n times to x
unfoldable pub iterate : {A : Type 0} → (A → A) → ℕ → A → A
iterate f zero x = x
iterate f (suc n) x = iterate f n (f x)

-- n is the least number from `from` on, and below `to`, that passes
pub record IsLeast (p : ℕ → Bool) (from to n : ℕ) : Type 0 where
  pub low : from ≤ n
  pub high : n < to
  pub passes : p n ≡ true
  pub first : (k : ℕ) → from ≤ k → k < n → p k ≡ false

-- n is the greatest number below `to` that passes
pub record IsGreatest (p : ℕ → Bool) (to n : ℕ) : Type 0 where
  pub high : n < to
  pub passes : p n ≡ true
  pub last : (k : ℕ) → n < k → k < to → p k ≡ false

-- no number from `from` on, and below `to`, passes
abbrev pub NonePasses : (ℕ → Bool) → ℕ → ℕ → Type 0
NonePasses p from to = (k : ℕ) → from ≤ k → k < to → p k ≡ false

-- n is the least number from `from` on, and below `to`, that passes, or it is d and none passes
abbrev pub IsLeastOr : (ℕ → Bool) → ℕ → ℕ → ℕ → ℕ → Type 0
IsLeastOr p from to d n = IsLeast p from to n ⊎ (NonePasses p from to × (n ≡ d))

-- n is the greatest number below `to` that passes, or it is d and none passes
abbrev pub IsGreatestOr : (ℕ → Bool) → ℕ → ℕ → ℕ → Type 0
IsGreatestOr p to d n = IsGreatest p to n ⊎ (NonePasses p 0 to × (n ≡ d))
