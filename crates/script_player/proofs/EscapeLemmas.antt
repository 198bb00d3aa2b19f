-- What comes of a text in which each escape gives way to CR LF.
use Rattle.std.proofs.Common.{◌≡◌, ℕ, zero, suc, ◌<◌, ◌≤◌, false, eqb, List, [], ◌∷◌, ◌++◌, length, take, drop, Option, Some, Bor, refl, sym, ap, subst, ◌∙◌, arith, ⊎_elim}
use Rattle.std.specs.Prelude.{◌&&◌}
use Rattle.std.proofs.lemmas.Bool.{and_parts, eqb-true, false_from_ne_true}
use Rattle.std.specs.Str.Pattern.{FindsText, LacksTextAt}
use Rattle.std.specs.Str.Replace.{ReplacesMatches}
use Rattle.script_player.specs.Escapes.{unescaped_text}

-- the two characters that stand for CR LF
abbrev pub escape : List ℕ
escape = 92 ∷ 110 ∷ []

-- a character with which no escape begins is itself
unescaped_text-skip : (b : ℕ) (text : List ℕ) → LacksTextAt escape (b ∷ text) 0 → unescaped_text (b ∷ text) ≡ b ∷ unescaped_text text
unescaped_text-skip b [] lacks = refl
unescaped_text-skip b (c ∷ text) lacks =
    let other : (eqb b 92 && eqb c 110) ≡ false = false_from_ne_true _ (λ both. begins (eqb-true b 92 (and_parts _ _ both).0) (eqb-true c 110 (and_parts _ _ both).1)) in
    rw other refl
  where
    begins : b ≡ 92 → c ≡ 110 → ⊥
    begins e f = lacks text (ap (λ x. x ∷ c ∷ text) e ∙ ap (λ x. 92 ∷ x ∷ text) f)

-- a text without an escape is itself
unescaped_text-none : (text : List ℕ) → ((i : ℕ) → i ≤ length text → LacksTextAt escape text i) → unescaped_text text ≡ text
unescaped_text-none [] lacks = refl
unescaped_text-none (b ∷ text) lacks =
    unescaped_text-skip b text (lacks 0 (omega arith)) ∙ ap (λ rest. b ∷ rest) (unescaped_text-none text (λ i low. lacks (suc i) (omega arith)))

-- the first escape of a text gives way
unescaped_text-first : (text : List ℕ) (a : ℕ) (rest : List ℕ) → ((i : ℕ) → i < a → LacksTextAt escape text i) → drop a text ≡ escape ++ rest
    → unescaped_text text ≡ take a text ++ (13 ∷ 10 ∷ unescaped_text rest)
unescaped_text-first text zero rest lacks e = ap unescaped_text e
unescaped_text-first [] (suc a) rest lacks e = absurd (cc)
unescaped_text-first (b ∷ text) (suc a) rest lacks e =
    unescaped_text-skip b text (lacks 0 (omega arith)) ∙ ap (λ more. b ∷ more) (unescaped_text-first text a rest (λ i low. lacks (suc i) (omega arith)) e)

-- the texts that `replace` finds, and that it goes on with the same pattern
abbrev finds : Bor (List ℕ) → List ℕ → Option (ℕ × ℕ) → Type 0
finds p text found = FindsText p.now text found

abbrev keeps : Bor (List ℕ) → Bor (List ℕ) → Type 0
keeps p q = q.now ≡ p.now

-- what `replace` makes of a text
pub replaced : (n : ℕ) (p : Bor (List ℕ)) (text out : List ℕ) → p.now ≡ escape → ReplacesMatches finds keeps (13 ∷ 10 ∷ []) n p text out → out ≡ unescaped_text text
replaced zero p text out e (none, same) =
    same ∙ sym (unescaped_text-none text (subst (λ it. (i : ℕ) → i ≤ length text → LacksTextAt it text i) e none))
replaced (suc n) p text out e (a, b, q, rest, found, kept, on, made) =
    let first = subst (λ it. FindsText it text (Some (a, b))) e found in
    ⊎_elim
    (λ later. made ∙ ap (λ more. take a text ++ (13 ∷ 10 ∷ more)) (replaced n q (drop b text) rest (kept ∙ e) later.1) ∙ sym (unescaped_text-first text a (drop b text) first.0 first.1.split))
    (λ empty. absurd (omega (arith, first.1.ends, empty.0))) on
