-- The end of a statement, token after token.
use Rattle.std.proofs.Common.{◌≡◌, ◌∙◌, ◌+◌, ℕ, zero, suc, List, Option, Some, None, take, drop, refl, ap, arith}
use Rattle.std.specs.Option.{option_map}
use Rattle.sql_language.specs.declared.statements.Part.{Part}
use Rattle.sql_language.specs.Lexemes.{lexeme_kind, lexeme_len}
use Rattle.sql_language.specs.Statements.{len_in, part_after}

-- an end, counted from an earlier byte
abbrev pub beyond : ℕ → Option ℕ → Option ℕ
beyond len found = option_map (λ more. len + more) found

pub beyond-both : (a b : ℕ) (found : Option ℕ) → beyond a (beyond b found) ≡ beyond (a + b) found
beyond-both a b None = refl
beyond-both a b (Some n) = let same : a + (b + n) ≡ (a + b) + n = omega arith in ap Some same

-- no token is left
pub len-over : (count : ℕ) (part : Part) (text : List ℕ) → count ≡ 0 → len_in count part text ≡ None
unfolding len_in
len-over zero part text e = refl
len-over (suc count) part text e = absurd (omega (arith, e))

-- the statement ends with the first token, or goes on behind it
module _ (left next : ℕ) (part : Part) (text : List ℕ) (e : left ≡ next + 1) where
  abbrev token : Option Part
  token = part_after part (lexeme_kind text) (take (lexeme_len text) text)

  cases : (found : Option Part) → token ≡ found
      → len_in left part text ≡ elim found [ None ↦ Some (lexeme_len text) | Some then ↦ beyond (lexeme_len text) (len_in next then (drop (lexeme_len text) text)) ]
  unfolding len_in
  cases found is = by left e
    where
      by : (n : ℕ) → n ≡ next + 1 → len_in n part text ≡ elim found [ None ↦ Some (lexeme_len text) | Some then ↦ beyond (lexeme_len text) (len_in next then (drop (lexeme_len text) text)) ]
      by zero e = absurd (omega (arith, e))
      by (suc n) e =
          let same : n ≡ next = omega (arith, e) in
          ap (λ (o : Option Part). elim o [ None ↦ Some (lexeme_len text) | Some then ↦ beyond (lexeme_len text) (len_in n then (drop (lexeme_len text) text)) ]) is
          ∙ ap (λ m. elim found [ None ↦ Some (lexeme_len text) | Some then ↦ beyond (lexeme_len text) (len_in m then (drop (lexeme_len text) text)) ]) same

  pub len-ends : token ≡ None → len_in left part text ≡ Some (lexeme_len text)
  len-ends is = cases None is

  pub len-on : (then : Part) → token ≡ Some then → len_in left part text ≡ beyond (lexeme_len text) (len_in next then (drop (lexeme_len text) text))
  len-on then is = cases (Some then) is
