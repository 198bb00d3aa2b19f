-- The first line of a script, and the lines after it.
use Rattle.std.proofs.Common.{◌≡◌, ℕ, suc, ◌<◌, eqb, false, List, [], ◌∷◌, ◌++◌, length, Contains, refl, sym, ap, subst, ◌∙◌, inl, inr, arith}
use Rattle.std.proofs.lemmas.Bool.{eqb-true, false_from_ne_true}
use Rattle.script_player.specs.Lines.{IsFirstLine, script_lines, with_first_byte}

-- the first byte of a line is no line feed, nor does the rest contain one
no_feed : (b : ℕ) (line : List ℕ) → ¬ (Contains (b ∷ line) 10) → eqb b 10 ≡ false
no_feed b line free = false_from_ne_true (eqb b 10) (λ e. free (0, omega arith, eqb-true b 10 e))

none_behind : (b : ℕ) (line : List ℕ) → ¬ (Contains (b ∷ line) 10) → ¬ (Contains line 10)
none_behind b line free (k, low, is) = free (suc k, omega (arith, low), is)

-- a line and its line feed
ended : (line after : List ℕ) → ¬ (Contains line 10) → script_lines (line ++ (10 ∷ after)) ≡ line ∷ script_lines after
unfolding script_lines
ended [] after free = refl
ended (b ∷ line) after free =
    rw (no_feed b line free) (ap (with_first_byte b) (ended line after (none_behind b line free)))

-- a last line without a line feed
unended : (b : ℕ) (line : List ℕ) → ¬ (Contains (b ∷ line) 10) → script_lines (b ∷ line) ≡ (b ∷ line) ∷ []
unfolding script_lines
unended b [] free = rw (no_feed b [] free) refl
unended b (c ∷ line) free =
    rw (no_feed b (c ∷ line) free) (ap (with_first_byte b) (unended c line (none_behind b (c ∷ line) free)))

lines_of_none : script_lines [] ≡ []
unfolding script_lines
lines_of_none = refl

-- the lines of a script that is left are none
pub lines_at_end : (rest : List ℕ) → length rest ≡ 0 → script_lines rest ≡ []
lines_at_end [] e = lines_of_none
lines_at_end (b ∷ rest) e = absurd (omega (arith, e))

-- the first line of a script, and then those of what follows it
pub lines_split : (script line after : List ℕ) → 0 < length script → IsFirstLine script line after → script_lines script ≡ line ∷ script_lines after
lines_split script line after some (free, inl cut) = ap script_lines cut ∙ ended line after free
lines_split [] line after some (free, inr (whole, none)) = absurd (omega (arith, some))
lines_split (b ∷ script) line after some (free, inr (whole, none)) =
    unended b script (subst (λ l. ¬ (Contains l 10)) (sym whole) free)
    ∙ ap (λ l. l ∷ []) whole ∙ ap (λ ls. line ∷ ls) (sym (ap script_lines none ∙ lines_of_none))
