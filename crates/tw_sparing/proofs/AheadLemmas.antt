-- What is drawn ahead of what a terminal shows.
use Rattle.std.proofs.Common.{◌≡◌, ◌≤◌, ℕ, Bool, true, false, Option, Some, None, List, [], ◌∷◌, ◌++◌, ap, subst, ◌∙◌, sym, refl, inl, inr, ◌⊎◌, append-nil}
use Rattle.tw_surface.specs.ChangeView.{Batch}
use Rattle.tw_terminal.specs.declared.terminal.ScreenSize.{ScreenSize}
use Rattle.tw_ansi.specs.declared.encode.Encoder.{Encoder}
use Rattle.tw_ansi.specs.Encoding.{terse_batch}
use Rattle.tw_sparing.specs.declared.shown.Shown.{Shown}
use Rattle.tw_sparing.specs.Shown.{changes_below, gone_rows, left_behind, sent_for, IsDrawnAfter, IsFromStart, IsKnownAfter, IsPlayed, IsStillKnown, KeepsAbove}
use Rattle.tw_sparing.specs.KnownRuns.{AreKnownSince, sent_for_all}
use Rattle.tw_sparing.specs.Ahead.{AheadView, AreAhead, IsDrawnBetween, IsJoined, ahead_view, all_changes, changes_among, group_kept, groups_with, joined_group, latest_known, leaves_sight, sent_ahead}
use Rattle.tw_sparing.proofs.GroupLemmas.{all_changes-last}
use Rattle.tw_sparing.proofs.PlayedBatches.{drawn_known, drawn_row, drawn_width, known_drawn, known_width, played_width}

-- ---- two batches, as one

played_both : (rows : ℕ) (xs ys : Batch) (a b c : Shown) → IsPlayed rows xs a b → IsPlayed rows ys b c → IsPlayed rows (xs ++ ys) a c
played_both rows [] ys a b c first then = subst (λ (k : Shown). IsPlayed rows ys k c) first then
played_both rows (x ∷ xs) ys a b c first then = (first.0, first.1, played_both rows xs ys first.0 b c first.2 then)

-- what is drawn on a screen, and then on what it left, is drawn by both batches as one, where the rows that left the
-- terminal show what they showed at first
pub drawn_both : (rows : ℕ) (xs ys : Batch) (first drawn next : Shown) → IsDrawnAfter rows xs first drawn → IsDrawnAfter rows ys drawn next
    → KeepsAbove (left_behind rows next) first.screen next.screen → IsDrawnAfter rows (xs ++ ys) first next
drawn_both rows xs ys first drawn next one two above = (two.0, played_both rows xs ys first drawn next one.1 two.1, above)

-- what was drawn is known
between_known : (cols rows : ℕ) (batch : Batch) (a b : Option Shown) → IsDrawnBetween rows batch a b → IsKnownAfter cols rows batch a b
between_known cols rows batch None b drawn = absurd drawn
between_known cols rows batch (Some old) None drawn = absurd drawn
between_known cols rows batch (Some old) (Some new) drawn = drawn_known cols rows batch old new drawn

-- ---- what is drawn ahead

module _ (size : ScreenSize) where
  -- what is shown and what is drawn ahead, where anything is
  pub drawn_ahead : (a b : Option Shown) (kept : Batch) (shown drawn : Shown) → a ≡ Some shown → b ≡ Some drawn → AreAhead size a b kept → IsDrawnAfter size.rows kept shown drawn
  drawn_ahead a b kept shown drawn is_shown is_drawn are = subst (λ x. AreAhead size (Some shown) x kept) is_drawn (subst (λ x. AreAhead size x b kept) is_shown are)

  -- the latest picture is as wide as what is shown
  latest_width : (b : Option Shown) (kept batch : Batch) (shown then : Shown) → AreAhead size (Some shown) b kept
      → IsKnownAfter size.cols size.rows batch (latest_known (ahead_view size (Some shown) b kept)) (Some then) → shown.screen.width ≡ then.screen.width
  latest_width None kept batch shown then are known = known_width size.cols size.rows batch (Some shown) (Some then) shown then refl refl known
  latest_width (Some drawn) kept batch shown then are known =
      sym (played_width size.rows kept shown drawn are.1) ∙ known_width size.cols size.rows batch (Some drawn) (Some then) drawn then refl refl known

  joined_here : (b : Option Shown) (kept batch : Batch) (shown then : Shown) → AreAhead size (Some shown) b kept
      → IsKnownAfter size.cols size.rows batch (latest_known (ahead_view size (Some shown) b kept)) (Some then)
      → leaves_sight size.rows (latest_known (ahead_view size (Some shown) b kept)) batch ≡ false → KeepsAbove (left_behind size.rows then) shown.screen then.screen
      → IsJoined batch (ahead_view size (Some shown) b kept) (Some then)
  joined_here None kept batch shown then are known stays above = (stays, known_drawn size.cols size.rows batch shown then stays known)
  joined_here (Some drawn) kept batch shown then are known stays above =
      let whole = subst (λ xs. IsDrawnAfter size.rows xs shown drawn) (sym (append-nil kept)) are in
      (stays, drawn_both size.rows (kept ++ []) batch shown drawn then whole (known_drawn size.cols size.rows batch drawn then stays known) above)

  module _ (ahead : AheadView) (a b next : Option Shown) (kept batch : Batch) (shown then : Shown) (is : ahead_view size a b kept ≡ ahead) (is_shown : a ≡ Some shown) (is_next : next ≡ Some then) where
    there : ahead_view size (Some shown) b kept ≡ ahead
    there = subst (λ x. ahead_view size x b kept ≡ ahead) is_shown is

    here : AreAhead size a b kept → AreAhead size (Some shown) b kept
    here are = subst (λ x. AreAhead size x b kept) is_shown are

    -- what is known after a batch, drawn on the latest picture
    abbrev IsKnownNext : Type 0
    IsKnownNext = IsKnownAfter ahead.size.cols ahead.size.rows batch (latest_known ahead) next

    known_here : IsKnownNext → IsKnownAfter size.cols size.rows batch (latest_known (ahead_view size (Some shown) b kept)) (Some then)
    known_here known =
        subst (λ (v : AheadView). IsKnownAfter v.size.cols v.size.rows batch (latest_known v) (Some then)) (sym there)
        (subst (λ x. IsKnownAfter ahead.size.cols ahead.size.rows batch (latest_known ahead) x) is_next known)

    pub next_width : AreAhead size a b kept → IsKnownNext → shown.screen.width ≡ then.screen.width
    next_width are known = latest_width b kept batch shown then (here are) (known_here known)

    -- the rows that leave the terminal show what they show now, so one difference takes all
    pub joined_ahead : (top : ℕ) → top ≡ left_behind size.rows then → AreAhead size a b kept → IsKnownNext → leaves_sight size.rows (latest_known ahead) batch ≡ false
        → KeepsAbove top shown.screen then.screen → IsJoined batch ahead next
    joined_ahead top at are known stays above =
        subst (λ x. IsJoined batch ahead x) (sym is_next) (subst (λ v. IsJoined batch v (Some then)) there
        (joined_here b kept batch shown then (here are) (known_here known) (subst (λ (v : AheadView). leaves_sight size.rows (latest_known v) batch ≡ false) (sym there) stays)
        (subst (λ n. KeepsAbove n shown.screen then.screen) at above)))

    -- and where one difference takes all, these rows show what they show now
    pub above_ahead : (top : ℕ) → top ≡ left_behind size.rows then → IsJoined batch ahead next → KeepsAbove top shown.screen then.screen
    above_ahead top at joined =
        subst (λ n. KeepsAbove n shown.screen then.screen) (sym at) (subst (λ v. IsJoined batch v (Some then)) (sym there) (subst (λ x. IsJoined batch ahead x) is_next joined)).1.2

  groups_at : (is_joined : Bool) (a b next left : Option Shown) (kept batch : Batch) (e : Encoder) → AreAhead size a b kept
      → IsKnownAfter size.cols size.rows batch (latest_known (ahead_view size a b kept)) next → IsFromStart e.x batch (latest_known (ahead_view size a b kept)) next
      → (is_joined ≡ true → IsJoined batch (ahead_view size a b kept) next) → IsStillKnown next left
      → AreKnownSince size a e (groups_with is_joined batch (ahead_view size a b kept) next left)
  groups_at true None b next left kept batch e are known start joined still = absurd (joined refl).1
  groups_at true (Some shown) b next left kept batch e are known start joined still =
      (between_known size.cols size.rows (changes_among (group_kept b kept) ++ batch) (Some shown) next (joined refl).1, tt, still, tt)
  groups_at false a None next left kept batch e are known start joined still = (known, start, still, tt)
  groups_at false None (Some drawn) next left kept batch e are known start joined still = absurd are
  groups_at false (Some shown) (Some drawn) next left kept batch e are known start joined still =
      (drawn_known size.cols size.rows kept shown drawn are, tt, inl refl, (known, tt, still, tt))

  -- the groups that are sent are known, each after the one before
  pub groups_ahead : (is_joined : Bool) (ahead : AheadView) (a b next left : Option Shown) (kept batch : Batch) (e : Encoder) → ahead_view size a b kept ≡ ahead → AreAhead size a b kept
      → IsKnownAfter size.cols size.rows batch (latest_known ahead) next → IsFromStart e.x batch (latest_known ahead) next → (is_joined ≡ true → IsJoined batch ahead next) → IsStillKnown next left
      → AreKnownSince ahead.size ahead.shown e (groups_with is_joined batch ahead next left)
  groups_ahead is_joined ahead a b next left kept batch e is are known start joined still =
      subst (λ (v : AheadView). AreKnownSince v.size v.shown e (groups_with is_joined batch v next left)) is
      (groups_at is_joined a b next left kept batch e are (subst (λ (v : AheadView). IsKnownAfter size.cols size.rows batch (latest_known v) next) (sym is) known)
      (subst (λ (v : AheadView). IsFromStart e.x batch (latest_known v) next) (sym is) start) (λ yes. subst (λ v. IsJoined batch v next) (sym is) (joined yes)) still)

  kept_at : (a b : Option Shown) (kept : Batch) (e : Encoder) → AreAhead size a b kept → AreKnownSince size a e (group_kept b kept)
  kept_at a None kept e are = tt
  kept_at None (Some drawn) kept e are = absurd are
  kept_at (Some shown) (Some drawn) kept e are = (drawn_known size.cols size.rows kept shown drawn are, tt, inl refl, tt)

  -- what is kept back is known
  pub kept_ahead : (ahead : AheadView) (a b : Option Shown) (kept : Batch) (e : Encoder) → ahead_view size a b kept ≡ ahead → AreAhead size a b kept → AreKnownSince ahead.size ahead.shown e ahead.kept
  kept_ahead ahead a b kept e is are = subst (λ (v : AheadView). AreKnownSince v.size v.shown e v.kept) is (kept_at a b kept e are)

  -- where nothing is shown, or nothing known next, no difference takes all
  pub not_joined : (is_joined : Bool) (ahead : AheadView) (a b next : Option Shown) (kept batch : Batch) → ahead_view size a b kept ≡ ahead → (is_joined ≡ true → IsJoined batch ahead next)
      → (a ≡ None) ⊎ (next ≡ None) → is_joined ≡ false
  not_joined false ahead a b next kept batch is joined none = refl
  not_joined true ahead a b next kept batch is joined (inl none) =
      let shown : ahead.shown ≡ None = sym (ap (λ (v : AheadView). v.shown) is) ∙ none in
      absurd (subst (λ x. IsDrawnBetween ahead.size.rows (changes_among ahead.kept ++ batch) x next) shown (joined refl).1)
  not_joined true ahead a b next kept batch is joined (inr none) =
      absurd (none_drawn ahead.shown (subst (λ x. IsDrawnBetween ahead.size.rows (changes_among ahead.kept ++ batch) ahead.shown x) none (joined refl).1))
    where
      none_drawn : (x : Option Shown) → IsDrawnBetween ahead.size.rows (changes_among ahead.kept ++ batch) x None → ⊥
      none_drawn None drawn = drawn
      none_drawn (Some shown) drawn = drawn

  -- ---- what is sent for what was drawn

  -- what is sent for one group
  abbrev IsSentAlone : Batch → Shown → Shown → Option Shown → Encoder → Type 0
  IsSentAlone batch old new left e =
      let alone = sent_for_all size.rows (Some old) (record { batch = batch; drawn = Some new; known = left } ∷ []) e in
      let sent = terse_batch (changes_below (gone_rows size.rows old new) (left_behind size.rows new) old new) e in
      (alone.bytes ≡ sent.bytes) × (alone.next ≡ sent.next)

  group_sent : (batch : Batch) (old new : Shown) (left : Option Shown) (e : Encoder) → IsSentAlone batch old new left e
  group_sent batch old new left e = (append-nil (sent_for size.rows batch (Some old) (Some new) e).bytes, refl)

  -- for what is kept back
  pub kept_sent : (ahead : AheadView) (a b : Option Shown) (kept : Batch) (shown drawn : Shown) (e : Encoder) → ahead_view size a b kept ≡ ahead → a ≡ Some shown → b ≡ Some drawn
      → let sent = terse_batch (changes_below (gone_rows size.rows shown drawn) (left_behind size.rows drawn) shown drawn) e in
      ((sent_ahead ahead e).bytes ≡ sent.bytes) × ((sent_ahead ahead e).next ≡ sent.next)
  kept_sent ahead a b kept shown drawn e is is_shown is_drawn =
      let there : ahead_view size (Some shown) (Some drawn) kept ≡ ahead =
      subst (λ x. ahead_view size (Some shown) x kept ≡ ahead) is_drawn (subst (λ x. ahead_view size x b kept ≡ ahead) is_shown is) in
      let sent = terse_batch (changes_below (gone_rows size.rows shown drawn) (left_behind size.rows drawn) shown drawn) e in
      subst (λ v. ((sent_ahead v e).bytes ≡ sent.bytes) × ((sent_ahead v e).next ≡ sent.next)) there
      (group_sent kept shown drawn (Some drawn) e)

  -- and for all that one difference takes
  pub joined_sent : (ahead : AheadView) (a b next left : Option Shown) (kept batch : Batch) (shown then : Shown) (e : Encoder) → ahead_view size a b kept ≡ ahead → a ≡ Some shown → next ≡ Some then
      → let all = sent_for_all ahead.size.rows ahead.shown (groups_with true batch ahead next left) e in
      let sent = terse_batch (changes_below (gone_rows size.rows shown then) (left_behind size.rows then) shown then) e in
      (all.bytes ≡ sent.bytes) × (all.next ≡ sent.next)
  joined_sent ahead a b next left kept batch shown then e is is_shown is_next =
      let there : ahead_view size (Some shown) b kept ≡ ahead = subst (λ x. ahead_view size x b kept ≡ ahead) is_shown is in
      let sent = terse_batch (changes_below (gone_rows size.rows shown then) (left_behind size.rows then) shown then) e in
      let same = subst (λ (v : AheadView). let all = sent_for_all v.size.rows v.shown (groups_with true batch v (Some then) left) e in (all.bytes ≡ sent.bytes) × (all.next ≡ sent.next)) there
      (group_sent (changes_among (group_kept b kept) ++ batch) shown then left e) in
      subst (λ x. let all = sent_for_all ahead.size.rows ahead.shown (groups_with true batch ahead x left) e in (all.bytes ≡ sent.bytes) × (all.next ≡ sent.next)) (sym is_next) same

  joined_fits_at : (b : Option Shown) (kept batch : Batch) (shown then : Shown) → IsJoined batch (ahead_view size (Some shown) b kept) (Some then)
      → (shown.screen.width ≡ then.screen.width) × (gone_rows size.rows shown then ≤ shown.screen.row)
  joined_fits_at b kept batch shown then joined =
      let all : Batch = changes_among (group_kept b kept) ++ batch in
      (drawn_width size.rows all shown then joined.1, drawn_row size.rows all shown then joined.1)

  pub joined_fits : (ahead : AheadView) (a b next : Option Shown) (kept batch : Batch) (shown then : Shown) → ahead_view size a b kept ≡ ahead → a ≡ Some shown → next ≡ Some then
      → IsJoined batch ahead next → (shown.screen.width ≡ then.screen.width) × (gone_rows size.rows shown then ≤ shown.screen.row)
  joined_fits ahead a b next kept batch shown then is is_shown is_next joined =
      let there : ahead_view size (Some shown) b kept ≡ ahead = subst (λ x. ahead_view size x b kept ≡ ahead) is_shown is in
      joined_fits_at b kept batch shown then (subst (λ v. IsJoined batch v (Some then)) (sym there) (subst (λ x. IsJoined batch ahead x) is_next joined))

  -- ---- one more batch is kept back

  -- the changes that are kept back
  group_changes : (a b : Option Shown) (kept : Batch) → AreAhead size a b kept → changes_among (group_kept b kept) ≡ kept
  group_changes a None kept are = sym are
  group_changes a (Some drawn) kept are = append-nil kept

  more_drawn : (a next : Option Shown) (xs ys : Batch) → xs ≡ ys → IsDrawnBetween size.rows xs a next → AreAhead size a next ys
  more_drawn None next xs ys is drawn = absurd drawn
  more_drawn (Some shown) None xs ys is drawn = absurd drawn
  more_drawn (Some shown) (Some then) xs ys is drawn = subst (λ v. IsDrawnAfter size.rows v shown then) is drawn

  more_changes : (a b : Option Shown) (batch : Batch) (kept more : List Batch) → AreAhead size a b (all_changes kept) → more ≡ kept ++ batch ∷ []
      → changes_among (group_kept b (all_changes kept)) ++ batch ≡ all_changes more
  more_changes a b batch kept more are is =
      ap (λ xs. xs ++ batch) (group_changes a b (all_changes kept) are) ∙ sym (all_changes-last kept batch) ∙ ap all_changes (sym is)

  pub still_ahead : (ahead : AheadView) (a b next : Option Shown) (batch : Batch) (kept more : List Batch) → ahead_view size a b (all_changes kept) ≡ ahead
      → AreAhead size a b (all_changes kept) → more ≡ kept ++ batch ∷ [] → IsJoined batch ahead next → AreAhead size a next (all_changes more)
  still_ahead ahead a b next batch kept more is are adds joined =
      let here : IsJoined batch (ahead_view size a b (all_changes kept)) next = subst (λ v. IsJoined batch v next) (sym is) joined in
      more_drawn a next (changes_among (group_kept b (all_changes kept)) ++ batch) (all_changes more) (more_changes a b batch kept more are adds) here.1

  more_group : (a next : Option Shown) (xs ys : Batch) → xs ≡ ys → IsDrawnBetween size.rows xs a next → group_kept next ys ≡ record { batch = xs; drawn = next; known = next } ∷ []
  more_group None next xs ys is drawn = absurd drawn
  more_group (Some shown) None xs ys is drawn = absurd drawn
  more_group (Some shown) (Some then) xs ys is drawn = ap (λ v. group_kept (Some then) v) (sym is)

  pub still_viewed : (ahead : AheadView) (a b next : Option Shown) (batch : Batch) (kept more : List Batch) → ahead_view size a b (all_changes kept) ≡ ahead
      → AreAhead size a b (all_changes kept) → more ≡ kept ++ batch ∷ [] → IsJoined batch ahead next
      → ahead_view size a next (all_changes more) ≡ record ahead { kept = joined_group batch ahead next next ∷ [] }
  still_viewed ahead a b next batch kept more is are adds joined =
      let here : IsJoined batch (ahead_view size a b (all_changes kept)) next = subst (λ v. IsJoined batch v next) (sym is) joined in
      subst (λ (v : AheadView). ahead_view size a next (all_changes more) ≡ record v { kept = joined_group batch v next next ∷ [] }) is
      (ap (λ groups. record { size = size; shown = a; kept = groups })
      (more_group a next (changes_among (group_kept b (all_changes kept)) ++ batch) (all_changes more) (more_changes a b batch kept more are adds) here.1))
