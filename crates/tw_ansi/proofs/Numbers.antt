-- The digits of numbers, and numbers that saturate.
use Rattle.std.proofs.Common.{◌≡◌, ◌≤◌, ◌<◌, ◌*◌, ◌+◌, ◌-◌, ◌%◌, ◌^◌, ℕ, Bool, true, eqb, List, [], ◌∷◌, ◌++◌, min, drop, length, get_or, arith, ap, ◌∙◌, sym, refl, inl, inr, ◌⊎◌}
use Rattle.std.specs.Fmt.{decimal}
use Rattle.std.specs.List.{list_all}
use Rattle.std.proofs.lemmas.Bool.{le-leb, lt-ltb, and_from, and_parts, or_left, cases_lt}
use Rattle.std.proofs.lemmas.Fmt.{decimal_by_steps}
use Rattle.std.proofs.lemmas.List.{at_drop_more}
use Rattle.std.proofs.lemmas.List.Folds.{list_all-append}
use Rattle.tw_ansi.specs.KeyBytes.{is_digit, is_numeric, is_parameter, value_after, most}

-- ---- the digits of a number

value_append : (n : ℕ) (xs ys : List ℕ) → value_after n (xs ++ ys) ≡ value_after (value_after n xs) ys
value_append n [] ys = refl
value_append n (x ∷ xs) ys = value_append (n * 10 + (x - 48)) xs ys

-- the digits of n write n
pub decimal_value : (n : ℕ) → n < 2 ^ 64 → value_after 0 (decimal n) ≡ n
decimal_value =
    decimal_by_steps (λ n ds. value_after 0 ds ≡ n) (λ n small. omega arith)
    (λ n ds large front. value_append 0 ds ((48 + n % 10) ∷ []) ∙ ap (λ m. m * 10 + (48 + n % 10 - 48)) front ∙ omega arith)

one_digit : (d : ℕ) → d < 10 → is_digit (48 + d) ≡ true
one_digit d small = and_from _ _ (le-leb 48 (48 + d) (omega arith)) (lt-ltb (48 + d) 58 (omega arith))

pub decimal_digits : (n : ℕ) → n < 2 ^ 64 → list_all is_digit (decimal n) ≡ true
decimal_digits =
    decimal_by_steps (λ n ds. list_all is_digit ds ≡ true) (λ n small. and_from _ _ (one_digit n small) refl)
    (λ n ds large front. list_all-append is_digit ds ((48 + n % 10) ∷ []) ∙ and_from _ _ front (and_from _ _ (one_digit (n % 10) (omega arith)) refl))

-- a test that passes where another does
pub passes : (p q : ℕ → Bool) → ((b : ℕ) → p b ≡ true → q b ≡ true) → (xs : List ℕ) → list_all p xs ≡ true → list_all q xs ≡ true
passes p q more [] h = refl
passes p q more (x ∷ xs) h = let parts = and_parts (p x) (list_all p xs) h in and_from _ _ (more x parts.0) (passes p q more xs parts.1)

pub numeric_if : (b : ℕ) → is_digit b ≡ true → is_numeric b ≡ true
numeric_if b h = or_left _ (eqb b 59) h

pub parameter_if : (b : ℕ) → is_numeric b ≡ true → is_parameter b ≡ true
parameter_if b h = grind arith

pub decimal_parameters : (n : ℕ) → n < 2 ^ 64 → list_all is_parameter (decimal n) ≡ true
decimal_parameters n small = passes is_digit is_parameter (λ b h. parameter_if b (numeric_if b h)) (decimal n) (decimal_digits n small)

-- ---- numbers that saturate

-- digits after a number make it no less
pub value_after_le : (n : ℕ) (ds : List ℕ) → n ≤ value_after n ds
value_after_le n [] = omega arith
value_after_le n (d ∷ ds) = omega (arith, value_after_le (n * 10 + (d - 48)) ds)

-- where two numbers are one as far as they are told, so are those with more digits
saturated_cases : (m n : ℕ) (ds : List ℕ) → m ≡ min n most → (n < most) ⊎ (most ≤ n) → min (value_after m ds) most ≡ min (value_after n ds) most
saturated_cases m n ds e (inl less) = let same : m ≡ n = omega arith in ap (λ k. min (value_after k ds) most) same
saturated_cases m n ds e (inr more) = omega (arith, value_after_le n ds, value_after_le m ds)

-- one more digit of a number that saturates
pub digit_step : (ds : List ℕ) (i number next all : ℕ) → i < length ds → next ≡ min (number * 10 + (get_or ds i 0 - 48)) most
    → min (value_after number (drop i ds)) most ≡ all → min (value_after next (drop (i + 1) ds)) most ≡ all
digit_step ds i number next all less e so_far =
    saturated_cases next _ (drop (i + 1) ds) e (cases_lt _ most)
    ∙ sym (ap (λ v. min v most) (at_drop_more (value_after number) ds i 0 less)) ∙ so_far
