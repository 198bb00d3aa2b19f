-- The name of a size: it is cut at its x, and its numbers are read.
use Rattle.std.proofs.Common.{◌≡◌, ◌≢◌, ℕ, zero, suc, ◌<◌, ◌^◌, ◌==◌, List, [], ◌∷◌, Bool, true, false, cond, length, drop, slice_index, Option, None, MatchOption, Bor, Result, Ok, Err, is_some, refl, sym, ap, subst, arith}
use Rattle.std.specs.Result.{result_ok}
use Rattle.std.specs.Str.Parse.{AllDigits, ParsesUnsigned}
use Rattle.std.proofs.lemmas.Bool.{eqb-true, true≢false}
use Rattle.std.proofs.lemmas.Str.Parse.{digit_at}
use Rattle.std.proofs.lemmas.Str.Pattern.{IsSplitOnceResult, split_after}
use Rattle.script_player.specs.Events.{IsSizeName, IsWholeNumber}

-- no x stands in a number
number_lacks_x : (text : List ℕ) (n : ℕ) → IsWholeNumber text n → (i : ℕ) → i < length text → slice_index text i ≢ 120
number_lacks_x text n number = by text (slice_index text 0 == 43) (eqb-true _ 43) number.0.1
  where
    by : (text : List ℕ) (plus : Bool) → (plus ≡ true → slice_index text 0 ≡ 43) → AllDigits 10 (drop (cond plus 1 0) text)
        → (i : ℕ) → i < length text → slice_index text i ≢ 120
    by text false _ digits i low x = omega (arith, digit_at text i digits low, x)
    by [] true _ _ i low _ = omega (arith, low)
    by (c ∷ cs) true plus _ zero _ x = omega (arith, plus refl, x)
    by (c ∷ cs) true _ digits (suc i) low x = omega (arith, digit_at cs i digits (omega (arith, low)), x)

-- the first x cuts the name of a size into its numbers
pub size_parts : (name : List ℕ) (cols rows : ℕ) (parts : Option (Bor (List ℕ) × Bor (List ℕ))) → IsSplitOnceResult 120 name parts
    → (size : IsSizeName name cols rows) → MatchOption parts ⊥ (λ part. (part.0.now ≡ size.0) × (part.1.now ≡ size.1))
size_parts name cols rows parts cut size = split_after 120 name _ _ parts cut (omega arith) size.2 (number_lacks_x _ cols size.3)

-- a number that fits is not refused, be there a plus sign or not
pub whole_number_parses : {E : Type 0} (text : List ℕ) (n : ℕ) (parsed : Result ℕ E) → ParsesUnsigned 64 10 text parsed
    → None ≡ result_ok parsed → IsWholeNumber text n → n < 2 ^ 64 → ⊥
whole_number_parses _ _ (Ok _) _ none _ _ = true≢false (sym (ap is_some none))
whole_number_parses _ _ (Err _) refused _ (numeral, is) low = refused (numeral, subst (λ m. m < 2 ^ 64) is low)
