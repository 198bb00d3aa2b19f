-- The last step that changed the line, from the last step on backwards, and what undos lead to.
use Rattle.std.proofs.Common.{◌≡◌, ◌≤◌, ◌<◌, ◌++◌, ◌-◌, ℕ, zero, suc, List, [], ◌∷◌, length, take, eqb, Option, Some, None, Bool, true, false, not, slice_get, if◌then◌else◌, refl, ap, sym, ◌∙◌, arith, rules, unwrap_or}
use Rattle.std.proofs.lemmas.Slice.Eq.{bytes_eq-Decides}
use Rattle.std.specs.Prelude.{option_map}
use Rattle.std.specs.Cmp.Lexicographic.{pointwise}
use Rattle.tw_line.specs.Extremes.{greatest_below, iterate}
use Rattle.tw_line.specs.Cut.{Cut}
use Rattle.tw_line.proofs.WordLemmas.{greatest_below-here, greatest_below-skip}
use Rattle.tw_key_parts.specs.Undo.{Undo, differs_at, last_change, last_undone, steps_left, step_at, oldest_line, undo_once, RedoGivesBack, UndosGiveOldest, UndoKeepsOldest}

pub greatest_end : (p : ℕ → Bool) (n : ℕ) → n ≡ 0 → greatest_below p n ≡ None
unfolding greatest_below
greatest_end p n e = rw e refl

pub ruleset greatest_steps = (greatest_below-here, greatest_below-skip, greatest_end)

-- ---- what undos lead to

-- a number that is found is below the limit
found_below : (p : ℕ → Bool) (to i : ℕ) → greatest_below p to ≡ Some i → i < to
unfolding greatest_below
found_below p zero i e = cc
found_below p (suc to) i e = let below = found_below p to i in grind (arith, below)

-- where none is found 0 is none
none_at_zero : (p : ℕ → Bool) (to : ℕ) → greatest_below p (suc to) ≡ None → p 0 ≡ false
unfolding greatest_below
none_at_zero p zero e = grind arith
none_at_zero p (suc to) e = let below = none_at_zero p to in grind (arith, below)

-- the oldest line, where an undo leads to this index
oldest_kept : (before : List Cut) (cut : Cut) (i : Option ℕ) → last_change cut.line before ≡ i
    → oldest_line (take (unwrap_or i 0) before) (unwrap_or (option_map (step_at before) i) cut) ≡ oldest_line before cut
oldest_kept [] cut None e = refl
oldest_kept [] cut (Some i) e = let low : i < 0 = found_below (differs_at cut.line []) 0 i e in absurd (omega (arith, low))
oldest_kept (first ∷ later) cut None e =
    let same : not (pointwise eqb first.line cut.line) ≡ false = none_at_zero (differs_at cut.line (first ∷ later)) (length later) e in
    sym ((bytes_eq-Decides first.line cut.line).0 (search (rules, same)))
oldest_kept (first ∷ later) cut (Some zero) e = refl
oldest_kept (first ∷ later) cut (Some (suc i)) e = refl

pub undo_keeps_oldest : UndoKeepsOldest
undo_keeps_oldest u cut = oldest_kept u.before cut (last_change cut.line u.before) refl

-- an undo leaves fewer steps
fewer : (before : List Cut) (line : List ℕ) (n : ℕ) (i : Option ℕ) → last_change line before ≡ i → length before ≤ suc n → length (take (unwrap_or i 0) before) ≤ n
fewer before line n None e few = search (rules)
fewer before line n (Some i) e few = let low = found_below (differs_at line before) (length before) i e in search (rules, low)

-- `n` undos give the oldest line, if there are at most `n` steps
undone_all : (n : ℕ) (u : Undo) (cut : Cut) → length u.before ≤ n → (iterate undo_once n (u, cut)).1.line ≡ oldest_line u.before cut
unfolding iterate
undone_all zero u cut few = none_yet u.before few
  where
    none_yet : (before : List Cut) → length before ≤ 0 → cut.line ≡ oldest_line before cut
    none_yet [] few = refl
    none_yet (first ∷ later) few = absurd (omega (arith, few))
undone_all (suc n) u cut few =
    undone_all n (undo_once (u, cut)).0 (undo_once (u, cut)).1 (fewer u.before cut.line n (last_change cut.line u.before) refl few) ∙ undo_keeps_oldest u cut

pub undos_give_oldest : UndosGiveOldest
undos_give_oldest u cut = undone_all (length u.before) u cut (omega arith)

-- ---- what a redo gives back

-- the last one of a list with one more
at_end : {A : Type 0} (xs : List A) (x : A) → slice_get (xs ++ x ∷ []) (length xs) ≡ Some x
at_end [] x = refl
at_end (y ∷ xs) x = at_end xs x

one_more : {A : Type 0} (xs : List A) (x : A) → length (xs ++ x ∷ []) ≡ suc (length xs)
one_more [] x = refl
one_more (y ∷ xs) x = ap suc (one_more xs x)

last_of : {A : Type 0} (xs : List A) (x : A) (same : Bool) → same ≡ false
    → let all = if same then xs else xs ++ x ∷ [] in slice_get all (length all - 1) ≡ Some x
last_of xs x true e = cc
last_of xs x false e =
    let last : length (xs ++ x ∷ []) - 1 ≡ length xs = omega (arith, one_more xs x) in ap (slice_get (xs ++ x ∷ [])) last ∙ at_end xs x

pub redo_gives_back : RedoGivesBack
redo_gives_back u cut changed = last_of u.undone cut _ changed
