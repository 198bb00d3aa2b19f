-- Backward searches show the matching lines from the newest on.
use Rattle.std.proofs.Common.{◌≡◌, ℕ, zero, suc, ◌+◌, ◌-◌, ◌<◌, ◌≤◌, min, Bool, cond, List, [], ◌∷◌, ◌++◌, length, take, reverse, filter, replicate, slice_get, Option, Some, None, option_map, Result, Ok, IsOkAnd, refl, ap, sym, subst, ◌∙◌, arith, ⊎_elim}
use Rattle.std.proofs.lemmas.Bool.{cases_Bool, lt-ltb, ne_eqb}
use Rattle.std.proofs.lemmas.List.{take_more, take_all, reverse-append}
use Rattle.tw_line.specs.Cut.{Cut, cut_at}
use Rattle.tw_line.specs.Extremes.{greatest_below, iterate}
use Rattle.tw_line.specs.Patterns.{contains}
use Rattle.tw_line.specs.NearestMatch.{MatchView, line_at, last_index, matches, match_at, nearest_match}
use Rattle.tw_host.specs.ActionView.{InsertChar, InsertText, HistoryIncSearchBackwards}
use Rattle.tw_host.specs.HostRules.{HostRules}
use Rattle.tw_session.specs.Refusal.{Refusal}
use Rattle.tw_session.specs.EditState.{EditState, Searching}
use Rattle.tw_line.specs.Edits.{with_char, with_text}
use Rattle.tw_session.specs.Search.{nearest_match_from, shown_match, searched_again, search_step}
use Rattle.tw_session.specs.Steps.{apply, edit_step, without_cycle}
use Rattle.tw_session.specs.HistoryLaws.{newest_matches, match_in, apply_all, Enumerates}
use Rattle.tw_line.specs.declared.history.SearchStyle.{SearchStyle}
use Rattle.tw_line.specs.declared.history.SearchDirection.TheVariants.{Backwards}
use Rattle.tw_session.proofs.WalkLemmas.{IsOkAnd-step}

-- the greatest number below a bound is below it
greatest_below-lt : (p : ℕ → Bool) (to n : ℕ) → greatest_below p to ≡ Some n → n < to
unfolding greatest_below
greatest_below-lt p zero n found = absurd cc
greatest_below-lt p (suc to) n found =
    ⊎_elim (λ passes. let same : Some to ≡ Some n = rw passes at found in let e : to ≡ n = cc in omega arith)
    (λ fails. let lower : greatest_below p to ≡ Some n = rw fails at found in let low = greatest_below-lt p to n lower in omega arith)
    (cases_Bool (p to))

-- the lines below an index that contain a pattern, the newest first
abbrev older : List (List ℕ) → List ℕ → ℕ → List (List ℕ)
older lines pattern zero = []
older lines pattern (suc i) = cond (matches lines pattern i) (line_at lines i ∷ older lines pattern i) (older lines pattern i)

-- the line at an index, and the older ones
abbrev from_found : List (List ℕ) → List ℕ → Option ℕ → List (List ℕ)
from_found lines pattern None = []
from_found lines pattern (Some i) = line_at lines i ∷ older lines pattern i

-- the first of them stands at the greatest index
older-found : (lines : List (List ℕ)) (pattern : List ℕ) (i : ℕ) → older lines pattern i ≡ from_found lines pattern (greatest_below (matches lines pattern) i)
unfolding greatest_below
older-found lines pattern zero = refl
older-found lines pattern (suc i) =
    ⊎_elim (λ passes. rw passes refl) (λ fails. rw fails (older-found lines pattern i)) (cases_Bool (matches lines pattern i))

-- they are the lines that a filter leaves
older-filter : (lines : List (List ℕ)) (pattern : List ℕ) (i : ℕ) → i ≤ length lines → filter (contains pattern) (reverse (take i lines)) ≡ older lines pattern i
older-filter lines pattern zero low = refl
older-filter lines pattern (suc i) low =
    let e : i + 1 ≡ suc i = omega arith in
    let last : take (suc i) lines ≡ take i lines ++ line_at lines i ∷ [] = ap (λ n. take n lines) (sym e) ∙ take_more lines i [] (omega arith) in
    rw (last, reverse-append (take i lines) (line_at lines i ∷ []), older-filter lines pattern i (omega arith)) refl

-- the matching lines are those below the number of lines
newest-older : (lines : List (List ℕ)) (pattern : List ℕ) → newest_matches lines pattern ≡ older lines pattern (length lines)
newest-older lines pattern =
    ap (λ ls. filter (contains pattern) (reverse ls)) (sym (take_all (length lines) lines (omega arith))) ∙ older-filter lines pattern (length lines) (omega arith)

-- the match of a backward search below an index
nearest_match-below : (lines : List (List ℕ)) (pattern : List ℕ) (i : ℕ) → i < length lines → nearest_match lines i Backwards pattern ≡ option_map (match_at lines pattern) (greatest_below (matches lines pattern) (suc i))
unfolding nearest_match
nearest_match-below lines pattern i low =
    let e : i + 1 ≡ suc i = omega arith in
    rw (lt-ltb i (length lines) low, e) refl

-- the match of a backward search from the last line on
nearest_match-last : (lines : List (List ℕ)) (pattern : List ℕ) → nearest_match_from lines (last_index lines) Backwards pattern ≡ option_map (match_at lines pattern) (greatest_below (matches lines pattern) (length lines))
unfolding greatest_below
nearest_match-last [] pattern = refl
nearest_match-last (x ∷ lines) pattern =
    let e : suc (length lines) - 1 ≡ length lines = omega arith in
    rw e (nearest_match-below (x ∷ lines) pattern (length lines) (omega arith))

-- the state that shows a match
abbrev found : EditState → SearchStyle → ℕ → Cut → EditState
found s style i match = record s { history_index = Some i; cycle = None; mode = Searching style Backwards match }

-- the line of an index with the offset of the pattern
abbrev shown_at : List (List ℕ) → List ℕ → ℕ → Cut
shown_at lines pattern i = cut_at (line_at lines i) (match_at lines pattern i).cursor

-- the state after a backward search: with no older match it stays
abbrev found_if : List (List ℕ) → EditState → SearchStyle → ℕ → Cut → Option ℕ → EditState
found_if lines s style i match None = found s style i match
found_if lines s style i match (Some j) = found s style j (shown_at lines s.cut.line j)

-- a backward search from a state that shows a match
search_step-found : (lines : List (List ℕ)) (s : EditState) (style : SearchStyle) (i : ℕ) (match : Cut) → i ≤ length lines
    → without_cycle (search_step lines Backwards (found s style i match)) ≡ found_if lines s style i match (greatest_below (matches lines s.cut.line) i)
unfolding search_step greatest_below
search_step-found lines s style zero match low = refl
search_step-found lines s style (suc i) match low =
    let e : suc i - 1 ≡ i = omega arith in
    rw (ne_eqb (suc i) 0 (λ same. omega arith), e, nearest_match-below lines s.cut.line i low) (shown (greatest_below (matches lines s.cut.line) (suc i)))
  where
    shown : (o : Option ℕ) → without_cycle (shown_match style Backwards match (found s style (suc i) match) (option_map (match_at lines s.cut.line) o)) ≡ found_if lines s style (suc i) match o
    shown None = refl
    shown (Some j) = refl

-- a search and its match do not touch the candidates
without_cycle-shown : (style : SearchStyle) (match : Cut) (s : EditState) (o : Option MatchView) → without_cycle (shown_match style Backwards match s o) ≡ shown_match style Backwards match (without_cycle s) o
without_cycle-shown style match s None = refl
without_cycle-shown style match s (Some m) = refl

-- an insertion while searching backwards applies the pattern again from the last line on
edit_step-searching : (lines : List (List ℕ)) (edit : Cut → Cut) (s : EditState) (style : SearchStyle) (match : Cut) → s.mode ≡ Searching style Backwards match
    → edit_step lines edit s ≡ shown_match style Backwards match (record s { cut = edit s.cut; history_index = None }) (option_map (match_at lines (edit s.cut).line) (greatest_below (matches lines (edit s.cut).line) (length lines)))
unfolding searched_again
edit_step-searching lines edit s style match searches =
    rw (searches, nearest_match-last lines (edit s.cut).line) refl

module _ {V : Type 0} (rules : HostRules V) (v : V) where
  -- the lines of the history
  abbrev lines : List (List ℕ)
  lines = rules.lines v

  -- k backward searches from a state lead to the line of an index in a list
  abbrev Shows : EditState → ℕ → List (List ℕ) → ℕ → Type 0
  Shows t k shown i = IsOkAnd (apply_all rules v (replicate k HistoryIncSearchBackwards) t) (λ u. match_in u.mode ≡ slice_get shown i)

  -- from a state that shows a match they lead through the older ones, and then stay
  abbrev ShowsOlder : EditState → SearchStyle → ℕ → ℕ → Cut → Type 0
  ShowsOlder s style k i match = Shows (found s style i match) k (match.line ∷ older lines s.cut.line i) (min k (length (older lines s.cut.line i)))

  -- a backward search is applied
  apply-search : (s : EditState) → apply rules v HistoryIncSearchBackwards s ≡ Ok (without_cycle (search_step lines Backwards s))
  unfolding apply
  apply-search s = refl

  -- one search, and then k
  older-after : (s : EditState) (style : SearchStyle) (k i : ℕ) (match : Cut) → i < length lines → ((j : ℕ) (m : Cut) → j < length lines → ShowsOlder s style k j m)
      → (o : Option ℕ) → greatest_below (matches lines s.cut.line) i ≡ o
      → Shows (found_if lines s style i match o) k (match.line ∷ older lines s.cut.line i) (min (suc k) (length (older lines s.cut.line i)))
  older-after s style k i match low later None none =
      let e : older lines s.cut.line i ≡ [] = older-found lines s.cut.line i ∙ ap (from_found lines s.cut.line) none in
      let same : min (suc k) 0 ≡ min k 0 = omega arith in
      rw (e, same) (rw e at (later i match low))
  older-after s style k i match low later (Some j) some =
      let e : older lines s.cut.line i ≡ line_at lines j ∷ older lines s.cut.line j = older-found lines s.cut.line i ∙ ap (from_found lines s.cut.line) some in
      let below = greatest_below-lt (matches lines s.cut.line) i j some in
      let count : min (suc k) (suc (length (older lines s.cut.line j))) ≡ suc (min k (length (older lines s.cut.line j))) = omega arith in
      rw (e, count) (later j (shown_at lines s.cut.line j) (omega arith))

  -- any number of searches
  shows_older : (s : EditState) (style : SearchStyle) (k i : ℕ) (match : Cut) → i < length lines → ShowsOlder s style k i match
  shows_older s style zero i match low =
      let e : min 0 (length (older lines s.cut.line i)) ≡ 0 = omega arith in rw e refl
  shows_older s style (suc k) i match low =
      IsOkAnd-step rules v HistoryIncSearchBackwards (replicate k HistoryIncSearchBackwards) (found s style i match) _ _
      (apply-search (found s style i match) ∙ ap Ok (search_step-found lines s style i match (omega arith)))
      (older-after s style k i match low (shows_older s style k) (greatest_below (matches lines s.cut.line) i) refl)

  -- what the law says of the state after the insertion
  abbrev ShowsNewest : ℕ → EditState → Type 0
  ShowsNewest k t = 1 ≤ length (newest_matches lines t.cut.line) → Shows t k (newest_matches lines t.cut.line) (min k (length (newest_matches lines t.cut.line) - 1))

  -- the first match is the newest, where there is one
  newest-shown : (s : EditState) (style : SearchStyle) (match : Cut) (k : ℕ) (o : Option ℕ) → greatest_below (matches lines s.cut.line) (length lines) ≡ o
      → ShowsNewest k (shown_match style Backwards match (without_cycle s) (option_map (match_at lines s.cut.line) o))
  newest-shown s style match k None none some =
      let e : newest_matches lines s.cut.line ≡ [] = newest-older lines s.cut.line ∙ older-found lines s.cut.line (length lines) ∙ ap (from_found lines s.cut.line) none in
      let few : 1 ≤ 0 = rw e at some in
      absurd (omega arith)
  newest-shown s style match k (Some i) hit some =
      let e : newest_matches lines s.cut.line ≡ line_at lines i ∷ older lines s.cut.line i = newest-older lines s.cut.line ∙ older-found lines s.cut.line (length lines) ∙ ap (from_found lines s.cut.line) hit in
      let low = greatest_below-lt (matches lines s.cut.line) (length lines) i hit in
      let less : suc (length (older lines s.cut.line i)) - 1 ≡ length (older lines s.cut.line i) = omega arith in
      rw (e, less) (shows_older s style k i (shown_at lines s.cut.line i) low)

  -- the law, of an edit in place of an insertion
  enumerates_edit : (edit : Cut → Cut) (s t : EditState) (style : SearchStyle) (match : Cut) (k : ℕ) → s.mode ≡ Searching style Backwards match → ◌≡◌ {A = Result EditState Refusal} (Ok (without_cycle (edit_step lines edit s))) (Ok t) → ShowsNewest k t
  enumerates_edit edit s t style match k searches done =
      let same : without_cycle (edit_step lines edit s) ≡ t = cc in
      let shown : without_cycle (edit_step lines edit s) ≡ _ = ap without_cycle (edit_step-searching lines edit s style match searches) ∙ without_cycle-shown style match (record s { cut = edit s.cut; history_index = None }) _ in
      let e = sym shown ∙ same in
      subst (ShowsNewest k) e
      (newest-shown (record s { cut = edit s.cut; history_index = None }) style match k (greatest_below (matches lines (edit s.cut).line) (length lines)) refl)

  -- the law of searches
  pub enumerates : Enumerates rules v
  unfolding apply
  enumerates s t style match (InsertChar r x) k searches inserts done some = enumerates_edit (iterate (with_char x) r) s t style match k searches done some
  enumerates s t style match (InsertText r text) k searches inserts done some = enumerates_edit (iterate (with_text text) r) s t style match k searches done some
  enumerates s t style match _ k searches inserts done some = absurd inserts
