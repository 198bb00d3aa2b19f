-- Numbers of at most nine digits.
use Rattle.std.proofs.Common.{◌≡◌, ℕ, ◌<◌, ◌≤◌, ◌^◌, ◌==◌, List, Bool, false, cond, length, drop, slice_index, sym, ap, subst, ◌∙◌, arith, rules}
use Rattle.std.specs.Str.Parse.{IsNumeral, AllDigits, digits_value, without_leading_plus}
use Rattle.std.proofs.lemmas.Str.Parse.{IsNumeralModel, numerals_by_value, digits_value_short}

digits : IsNumeralModel (AllDigits 10) (digits_value 10)
digits = numerals_by_value _ (search rules)

pub without_plus : (text : List ℕ) → (slice_index text 0 == 43) ≡ false → without_leading_plus text ≡ text
without_plus text e = ap (λ b. drop (cond b 1 0) text) e

pub number_fits : (text : List ℕ) → IsNumeral 10 text → length text ≤ 9 → digits_value 10 text < 2 ^ 64
number_fits text (some, all) short = omega (arith, digits_value_short digits text 9 all short)

-- a numeral of at most nine digits is not refused
pub numeral_parses : (text : List ℕ) (starts : Bool) → ¬ (IsNumeral 10 (without_leading_plus text) × (digits_value 10 (without_leading_plus text) < 2 ^ 64))
    → starts ≡ false → starts ≡ (slice_index text 0 == 43) → IsNumeral 10 text → length text ≤ 9 → ⊥
numeral_parses text starts refused none same numeral short =
    let plain = without_plus text (sym same ∙ none) in
    let P : List ℕ → Type 0 = λ ds. ¬ (IsNumeral 10 ds × (digits_value 10 ds < 2 ^ 64)) in
    subst P plain refused (numeral, number_fits text numeral short)
