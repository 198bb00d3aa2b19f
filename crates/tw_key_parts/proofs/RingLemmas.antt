-- Kills in a row, and a yank after them.
use Rattle.std.proofs.Common.{◌≡◌, ◌≤◌, ◌-◌, ℕ, List, length, take, drop, Some, true, false, refl, ap, sym, ◌∙◌, arith, ◌==◌, [], ◌∷◌, ◌++◌, min, max, Bool, nat_lt, eq-eqb, slice_range, length-append, length-drop}
use Rattle.std.specs.List.{remove_range}
use Rattle.std.proofs.lemmas.Bool.Decides.{nat_tests}
use Rattle.std.proofs.lemmas.List.{take_at}
use Rattle.std.proofs.lemmas.Slice.Eq.{bytes_eq-Decides}
use Rattle.tw_line.specs.Cut.{Cut}
use Rattle.tw_line.specs.Edits.{with_text}
use Rattle.tw_key_parts.specs.Ring.{Ring, is_same_cut, kill_of, killing, leads_onward, joined_kill, newest_kill, with_killed, with_killing, with_room, yank_of, given_back, line_before, ring_behind, KillsKeepLine, KillIsLatest, YankGivesBack}
use Rattle.std.specs.Prelude.{IsSomeAnd}
use Rattle.std.proofs.lemmas.Bool.{and_from}
use Rattle.std.proofs.lemmas.Grind.{common_steps}
use Rattle.std.proofs.lemmas.List.Folds.{drop_split}
use Rattle.std.proofs.lemmas.Option.{slice_get-get_or}
use Rattle.tw_input.specs.EventView.{EventView}
use Rattle.tw_line.specs.Movements.{destination}
use Rattle.tw_line.specs.declared.movements.Movement.{Movement}
use Rattle.tw_host.specs.ActionView.{ActionView}
use Rattle.tw_key_parts.specs.WordEdits.{passed_text}
use Rattle.tw_key_parts.specs.declared.ring.Latest.{Latest}
use Rattle.tw_key_parts.specs.declared.ring.Latest.TheVariants as latest

-- what stands before the second place
up_to_second : (l : List ℕ) (a b : ℕ) → a ≤ b → b ≤ length l → take b l ≡ take a l ++ slice_range l a b
up_to_second l a b order inside =
    let whole : (take a l ++ slice_range l a b) ++ drop b l ≡ l = grind (arith, common_steps, drop_split) in
    let long : length (take a l ++ slice_range l a b) ≡ b =
    omega (arith, ap length whole, length-append (take a l ++ slice_range l a b) (drop b l), length-drop b l, inside) in
    sym (sym (take_at (take a l ++ slice_range l a b) (drop b l) b long) ∙ ap (take b) whole)

-- a text with more, put in where more was killed, is the text put in before
put_joined : (l text : List ℕ) (p d : ℕ) → p ≤ length l
    → (take (min p d) (take (min p d) l ++ drop (max p d) l) ++ joined_kill (nat_lt p d) text (slice_range l (min p d) (max p d))) ++ drop (min p d) (take (min p d) l ++ drop (max p d) l)
    ≡ (take p l ++ text) ++ drop p l
put_joined l text p d inside = grind (arith, common_steps, nat_tests, drop_split, up_to_second l d p)

-- a cut text is the same as itself
same_cut : (cut : Cut) → is_same_cut cut cut ≡ true
same_cut cut = and_from _ (cut.cursor == cut.cursor) ((bytes_eq-Decides cut.line cut.line).1 refl) (eq-eqb cut.cursor cut.cursor refl)

-- the ring after a kill in place
killed_ring : (event : EventView) (action : ActionView) (m : Movement) (old : Cut) (r : Ring) → killing event (Some action) ≡ Some m
    → ring_behind event action old r ≡ with_killed (leads_onward m old) (passed_text m old) r
killed_ring event action m old r kills =
    let there : kill_of false event (Some action) old old ≡ Some m = rw (same_cut old) kills in
    ap (λ k. with_killing k old r) there

-- the newest of kills with one more
newest_of_more : (kills : List (List ℕ)) (text : List ℕ) → newest_kill (kills ++ text ∷ []) ≡ text
newest_of_more kills text = grind (arith, common_steps)

-- a list without elements
no_elements : (xs : List ℕ) → (length xs == 0) ≡ true → xs ≡ []
no_elements xs e = grind (arith, common_steps, nat_tests)

-- a text with nothing more
joined_to_nothing : (ahead : Bool) (text none : List ℕ) → none ≡ [] → joined_kill ahead text none ≡ text
joined_to_nothing ahead text none e = grind (arith, common_steps)

module _ (m : Movement) (old new : Cut) (inside : old.cursor ≤ length old.line)
    (line : new.line ≡ remove_range old.line (min old.cursor (destination m old)) (max old.cursor (destination m old)))
    (cursor : new.cursor ≡ min old.cursor (destination m old)) where
  -- a text with what was killed, put in at the new cursor
  joined_back : (text : List ℕ) → (with_text (joined_kill (leads_onward m old) text (passed_text m old)) new).line ≡ (with_text text old).line
  joined_back text = rw (line, cursor) (put_joined old.line text old.cursor (destination m old) inside)

  -- what was killed, put in at the new cursor
  killed_back : (with_text (passed_text m old) new).line ≡ old.line
  killed_back = rw (line, cursor) (grind (arith, common_steps, nat_tests, drop_split, up_to_second old.line (destination m old) old.cursor))

  -- where nothing was killed the line stays
  same_line : (length (passed_text m old) == 0) ≡ true → new.line ≡ old.line
  same_line e = let none = no_elements (passed_text m old) e in line ∙ grind (arith, common_steps, nat_tests, drop_split)

  -- by what was done last, and whether anything was killed
  kept_line : (l : Latest) (kills : List (List ℕ)) (nothing : Bool) → (length (passed_text m old) == 0) ≡ nothing
      → given_back (with_killed (leads_onward m old) (passed_text m old) (record { kills = kills; latest = l })) new ≡ line_before l kills old
  kept_line latest.Kill kills true e =
      rw e (ap (λ text. (with_text text new).line) (sym (joined_to_nothing (leads_onward m old) (newest_kill kills) (passed_text m old) (no_elements (passed_text m old) e)))
      ∙ joined_back (newest_kill kills))
  kept_line latest.Kill kills false e =
      rw e (ap (λ text. (with_text text new).line) (newest_of_more (take (length kills - 1) kills) _) ∙ joined_back (newest_kill kills))
  kept_line _ kills true e = rw e (same_line e)
  kept_line _ kills false e = rw e (ap (λ text. (with_text text new).line) (newest_of_more (with_room kills) _) ∙ killed_back)

pub kills_keep_line : KillsKeepLine
kills_keep_line event action m old new r in_place =
    ap (λ ring. given_back ring new) (killed_ring event action m old r in_place.kills)
    ∙ kept_line m old new in_place.inside in_place.line in_place.cursor r.latest r.kills (length (passed_text m old) == 0) refl

pub kill_is_latest : KillIsLatest
kill_is_latest event action m old r kills some =
    ap (λ ring. ring.latest) (killed_ring event action m old r kills) ∙ by (length (passed_text m old) == 0) refl
  where
    by : (nothing : Bool) → (length (passed_text m old) == 0) ≡ nothing → (with_killed (leads_onward m old) (passed_text m old) r).latest ≡ latest.Kill
    by true e = absurd (some (no_elements (passed_text m old) e))
    by false e = rw e refl

pub yank_gives_back : YankGivesBack
yank_gives_back r cut last some = rw last (newest_back r.kills some)
  where
    newest_back : (kills : List (List ℕ)) → 1 ≤ length kills → IsSomeAnd (yank_of kills (length kills - 1) cut) (λ y. (with_text y.text y.cut).line ≡ (with_text (newest_kill kills) cut).line)
    newest_back kills some = rw (slice_get-get_or kills (length kills - 1) [] (omega (arith, some))) refl
