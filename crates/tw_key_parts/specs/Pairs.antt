-- Two parts as one.
use Rattle.std.specs.Prelude.{◌≡◌, ◌⊎◌, Option, Some, None, option_map, unwrap_or}
use Rattle.tw_line.specs.Cut.{Cut}
use Rattle.tw_host.specs.ActionView.{ActionView}
use Rattle.tw_key_parts.specs.KeyRules.{Asked, Edited, KeyRules, KeyStep}

module _ {K L : Type 0} where
  -- the first part's edit, or else the second's
  abbrev pub first_or : Option (Edited K) → Option (Edited L) → Option (Edited (Option K × Option L))
  first_or (Some edit) other = Some (record { cut = edit.cut; action = edit.action; kept = (Some edit.kept, None) })
  first_or None (Some edit) = Some (record { cut = edit.cut; action = edit.action; kept = (None, Some edit.kept) })
  first_or None None = None

-- two parts, of which the first one goes first
abbrev pub pair_rules : {S K T L : Type 0} → KeyRules S K → KeyRules T L → KeyRules (S × T) (Option K × Option L)
pair_rules a b = record {
  edits = λ s asked. first_or (a.edits s.0 asked) (b.edits s.1 asked);
  follows = λ s kept step. let (first, second) = unwrap_or kept (None, None) in (a.follows s.0 first step, b.follows s.1 second step);
  leaves = λ s. (a.leaves s.0, b.leaves s.1);
}

-- ---- the order of two parts

-- what an edit does to the line, and the action that follows
abbrev pub done_by : {K : Type 0} → Option (Edited K) → Option (Option Cut × ActionView)
done_by edit = option_map (λ edit. (edit.cut, edit.action)) edit

-- what is kept of an edit, the other way round
abbrev pub turned_round : {K L : Type 0} → Option (Option K × Option L) → Option (Option L × Option K)
turned_round kept = option_map (λ kept. (kept.1, kept.0)) kept

module _ {S K T L : Type 0} (a : KeyRules S K) (b : KeyRules T L) where
  -- no event at a line has an edit of both
  abbrev pub AreApart : Type 0
  AreApart = (s : S) (t : T) (asked : Asked) → (a.edits s asked ≡ None) ⊎ (b.edits t asked ≡ None)

  -- Then their order is free: the same is done, and each of them holds the same afterwards.
  abbrev pub OrderIsFree : Type 0
  OrderIsFree = AreApart → (s : S) (t : T)
      → ((asked : Asked) → done_by ((pair_rules a b).edits (s, t) asked) ≡ done_by ((pair_rules b a).edits (t, s) asked))
      × ((kept : Option (Option K × Option L)) (step : KeyStep) → let there = (pair_rules a b).follows (s, t) kept step in
      (pair_rules b a).follows (t, s) (turned_round kept) step ≡ (there.1, there.0))
      × (let there = (pair_rules a b).leaves (s, t) in (pair_rules b a).leaves (t, s) ≡ (there.1, there.0))
