-- The first token, byte after byte.
use Rattle.std.proofs.Common.{◌≡◌, ◌∙◌, ◌+◌, ◌-◌, ◌<◌, ◌≤◌, ◌⊎◌, ℕ, suc, zero, List, [], ◌∷◌, Option, Some, None, length, drop, get_or, refl, ap, sym, subst, inl, inr, arith, drop-cons}
use Rattle.std.specs.Prelude.{is_none}
use Rattle.std.specs.Str.{IsUtf8, IsCharBoundary}
use Rattle.std.proofs.lemmas.Bool.{true≢false, cases_lt}
use Rattle.std.proofs.lemmas.Str.{IsCharBoundary-after_ascii, IsCharBoundary-before_ascii}
use Rattle.sql_language.specs.declared.lexer.Inside.{Inside}
use Rattle.sql_language.specs.Lexer.{continued}
use Rattle.sql_language.specs.Lexemes.{rest_len}
use Rattle.sql_language.proofs.LexerLemmas.{Takes}

-- the rest of a text from a byte on
pub from-byte : (text : List ℕ) (at : ℕ) → at < length text → drop at text ≡ get_or text at 0 ∷ drop (at + 1) text
from-byte text at low = let next : suc at ≡ at + 1 = omega arith in drop-cons text at 0 low ∙ ap (λ n. get_or text at 0 ∷ drop n text) next

-- the token goes on with a byte, or ends before it
rest-cases : (inside : Inside) (byte : ℕ) (bytes : List ℕ) (found : Option Inside) → continued inside byte ≡ found → rest_len inside (byte ∷ bytes) ≡ elim found [ None ↦ 0 | Some next ↦ suc (rest_len next bytes) ]
unfolding rest_len
rest-cases inside byte bytes found e = ap (λ (o : Option Inside). elim o [ None ↦ 0 | Some next ↦ suc (rest_len next bytes) ]) e

module _ (inside : Inside) (text : List ℕ) (at : ℕ) (low : at < length text) where
  pub rest-on : (next : Inside) → continued inside (get_or text at 0) ≡ Some next → at + rest_len inside (drop at text) ≡ (at + 1) + rest_len next (drop (at + 1) text)
  rest-on next e =
      ap (λ bytes. at + rest_len inside bytes) (from-byte text at low) ∙ ap (λ n. at + n) (rest-cases inside _ _ (Some next) e)
      ∙ omega arith

  pub rest-off : continued inside (get_or text at 0) ≡ None → at + rest_len inside (drop at text) ≡ at
  rest-off e =
      ap (λ bytes. at + rest_len inside bytes) (from-byte text at low) ∙ ap (λ n. at + n) (rest-cases inside _ _ None e)
      ∙ omega arith

-- at the end nothing goes on
pub nothing : (text : List ℕ) (at : ℕ) → at ≡ length text → drop at text ≡ []
nothing [] zero e = refl
nothing [] (suc n) e = absurd (omega (arith, e))
nothing (byte ∷ bytes) zero e = absurd (omega (arith, e))
nothing (byte ∷ bytes) (suc n) e = nothing bytes n (omega (arith, e))

pub rest-end : (inside : Inside) (text : List ℕ) (at : ℕ) → at ≡ length text → at + rest_len inside (drop at text) ≡ length text
unfolding rest_len
rest-end inside text at e = ap (λ bytes. at + rest_len inside bytes) (nothing text at e) ∙ omega (arith, e)

-- a token ends at a boundary
pub token-boundary : (text : List ℕ) (at : ℕ) (inside : Inside) → IsUtf8 text → 1 ≤ at → at < length text
    → (128 ≤ get_or text (at - 1) 0 → Takes inside) → continued inside (get_or text at 0) ≡ None → IsCharBoundary text at
token-boundary text at inside utf8 some low takes e = cases (cases_lt (get_or text at 0) 128) where
  before : get_or text (at - 1) 0 < 128 → IsCharBoundary text at
  before h = let same : (at - 1) + 1 ≡ at = omega (arith, some) in subst (IsCharBoundary text) same (IsCharBoundary-after_ascii text (at - 1) utf8 (omega (arith, low, some)) h)

  high : 128 ≤ get_or text at 0 → (get_or text (at - 1) 0 < 128) ⊎ (128 ≤ get_or text (at - 1) 0) → IsCharBoundary text at
  high h (inl ascii) = before ascii
  high h (inr other) = absurd (true≢false (ap is_none (sym e) ∙ takes other (get_or text at 0) h))

  cases : (get_or text at 0 < 128) ⊎ (128 ≤ get_or text at 0) → IsCharBoundary text at
  cases (inl ascii) = IsCharBoundary-before_ascii text at low ascii
  cases (inr h) = high h (cases_lt (get_or text (at - 1) 0) 128)
