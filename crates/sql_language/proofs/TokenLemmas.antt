-- The tokens of a text, one after the other.
use Rattle.std.proofs.Common.{◌≡◌, ◌∙◌, ℕ, zero, suc, ◌+◌, ◌<◌, List, [], ◌∷◌, ◌++◌, length, drop, refl, ap, sym, arith, append-nil}
use Rattle.sql_language.specs.Lexemes.{TokenView, first_tokens, lexeme, lexeme_len}

-- no token of a text without bytes, and one more
pub tokens-none : (count : ℕ) (text : List ℕ) → length text ≡ 0 → first_tokens count text ≡ []
unfolding first_tokens
tokens-none zero text e = refl
tokens-none (suc count) [] e = refl
tokens-none (suc count) (byte ∷ bytes) e = absurd (omega (arith, e))

pub tokens-step : (left next : ℕ) (text : List ℕ) → left ≡ next + 1 → 0 < length text → first_tokens left text ≡ lexeme text ∷ first_tokens next (drop (lexeme_len text) text)
unfolding first_tokens
tokens-step zero next text e some = absurd (omega (arith, e))
tokens-step (suc left) next [] e some = absurd (omega (arith, some))
tokens-step (suc left) next (byte ∷ bytes) e some =
    let same : left ≡ next = omega (arith, e) in
    let text = byte ∷ bytes in
    ap (λ n. lexeme text ∷ first_tokens n (drop (lexeme_len text) text)) same

pub tokens-zero : (count : ℕ) (text : List ℕ) → count ≡ 0 → first_tokens count text ≡ []
unfolding first_tokens
tokens-zero zero text e = refl
tokens-zero (suc count) text e = absurd (omega (arith, e))

-- if no token is left, all are there
pub none-left : (tokens left all : List TokenView) → left ≡ [] → tokens ++ left ≡ all → tokens ≡ all
none-left tokens left all e h = sym (append-nil tokens) ∙ ap (λ s. tokens ++ s) (sym e) ∙ h
