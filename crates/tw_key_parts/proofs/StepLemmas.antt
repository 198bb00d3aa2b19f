-- Steps by grapheme clusters, the ends of a row, and steps that reach an offset.
use Rattle.std.proofs.Common.{◌≡◌, ◌+◌, ◌-◌, ◌<◌, ℕ, suc, Bool, Some, if◌then◌else◌, refl, sym, arith, ◌≢◌, ◌≤◌, ◌==◌, zero, true, false, not, List, length, get_or, min, max, MatchOption, slice_range, take, drop, Option, None, ap, subst, ◌∙◌, ⊎_elim, unwrap_or}
use Rattle.std.proofs.lemmas.Str.{IsCharBoundary-start}
use Rattle.tw_line.specs.Extremes.{iterate, least_from}
use Rattle.tw_line.proofs.ExtremesLemmas.{iterate-add}
use Rattle.tw_line.proofs.WordLemmas.{least_from-end}
use Rattle.tw_line.specs.Clusters.{cluster_after, cluster_before, is_cluster_boundary}
use Rattle.tw_line.specs.Cut.{Cut, cut_at}
use Rattle.tw_line.specs.Movements.{after_move, destination}
use Rattle.tw_key_parts.specs.ClusterSteps.{cluster_steps}
use Rattle.tw_key_parts.specs.declared.steps.Way.{Way}
use Rattle.tw_key_parts.specs.declared.steps.Way.TheVariants.{Back, Ahead}
use Rattle.std.specs.List.{list_any, position_or_len, suffix_len}
use Rattle.std.specs.Option.{option_and_then}
use Rattle.std.proofs.lemmas.Bool.{cases_Bool, cases_lt, eq-eqb, le-leb, leb-false, leb-true, ne_eqb, true≢false}
use Rattle.std.proofs.lemmas.List.{get_or-drop, get_or-take, get_or_past, length-drop, length-take}
use Rattle.std.proofs.lemmas.List.Sums.{position_or_len_is, suffix_len_is}
use Rattle.std.proofs.lemmas.List.Folds.{list_any_at}
use Rattle.tw_surface.specs.Characters.{lf}
use Rattle.tw_line.proofs.StepLawLemmas.{offsets_are_extremes}
use Rattle.tw_line.specs.declared.movements.Movement.TheVariants as movement
use Rattle.tw_input.specs.EventView.{EventView, Paste}
use Rattle.tw_hosts.specs.Words.{end_row}
use Rattle.tw_key_parts.specs.RowKeys.{OneRowIsLeft, RowKillIsKept, StepsLeadThere, brings_rows, edit_by, edit_of_pattern, has_reached, is_reached_by, edge_of_row, row_end, row_key, steps_to}
use Rattle.tw_key_parts.specs.declared.row_keys.RowKey.{RowKey}
use Rattle.tw_key_parts.specs.declared.row_keys.RowKey.TheVariants.{Break, ToRow, ToEdge, KillToEnd}

pub step-more : (way : Way) (n : ℕ) (cut : Cut) → destination (cluster_steps way 1) (after_move (cluster_steps way n) cut) ≡ destination (cluster_steps way (n + 1)) cut
unfolding destination iterate
step-more Back n cut = sym (iterate-add (cluster_before cut.line) n 1 cut.cursor)
step-more Ahead n cut = sym (iterate-add (cluster_after cut.line) n 1 cut.cursor)

-- no step at all
pub no_step : (way : Way) (cut : Cut) → destination (cluster_steps way 0) cut ≡ cut.cursor
unfolding destination iterate
no_step Back cut = refl
no_step Ahead cut = refl

-- a search for the least number, one number on
pub least_more : (p : ℕ → Bool) (from to : ℕ) → from < to → least_from p from (to - from) ≡ (if p from then Some from else least_from p (from + 1) (to - (from + 1)))
unfolding least_from
least_more p from to low =
    let count : to - from ≡ suc (to - (from + 1)) = omega (arith, low) in
    let next : from + 1 ≡ suc from = omega arith in rw (count, next) refl

pub ruleset least_steps = (least_more, least_from-end)

pub ruleset walks = (least_steps, step-more, no_step)

-- a text begins with a character
pub ruleset text_starts = (IsCharBoundary-start)

-- ---- the ends of a row

-- where the last row of a text begins: a line feed stands before it, and none from there on
pub last_row : (text : List ℕ) (start : ℕ) → start ≤ length text → ((i : ℕ) → start ≤ i → i < length text → get_or text i 0 ≢ lf) → ((k : ℕ) → start ≡ k + 1 → get_or text k 0 ≡ lf)
    → length text - length (end_row text) ≡ start
last_row text start inside none feed =
    let last : suffix_len (λ b. not (b == lf)) text ≡ length text - start =
    suffix_len_is _ text start 0 inside (λ i above below. ap not (ne_eqb _ lf (none i above below))) (λ some. ap not (eq-eqb _ lf (feed (start - 1) (omega (arith, some))))) in
    omega (arith, last, inside, length-drop (length text - suffix_len (λ b. not (b == lf)) text) text)

-- where the first line feed was found, or the length where none was
pub feed_found : (text : List ℕ) (found : Option ℕ) → MatchOption found ((i : ℕ) → i < length text → get_or text i 0 ≢ lf) (λ k. (k < length text) × (get_or text k 0 ≡ lf) × ((i : ℕ) → i < k → get_or text i 0 ≢ lf))
    → unwrap_or found (length text) ≡ position_or_len (λ byte. byte == lf) text
feed_found text None none =
    sym (position_or_len_is _ text (length text) 0 (omega arith) (λ i below. ne_eqb _ lf (none i below)) (λ h. absurd (omega (arith, h))))
feed_found text (Some k) (low, there, before) =
    sym (position_or_len_is _ text k 0 (omega (arith, low)) (λ i below. ne_eqb _ lf (before i below)) (λ h. eq-eqb _ _ there))

-- ---- a line of one row

-- a text in which no byte is a line feed
no-feed : (text : List ℕ) → list_any (λ b. b == lf) text ≡ false → (i : ℕ) → get_or text i 0 ≢ lf
no-feed text none i there =
    ⊎_elim (λ inside. true≢false (sym (list_any_at (λ b. b == lf) text i 0 inside (eq-eqb (get_or text i 0) lf there)) ∙ none))
    (λ past. absurd (omega (arith, get_or_past text i 0 past, there))) (cases_lt i (length text))

pub one_row_is_left : OneRowIsLeft
one_row_is_left goal asked none whole other = by asked.searching
  where
    cut : Cut
    cut = asked.cut

    no_edge : (way : Way) → edge_of_row way cut ≡ None
    no_edge Back =
        let front = take cut.cursor cut.line in
        rw (last_row front 0 (omega arith) (λ i above below h. no-feed cut.line none i (sym (get_or-take cut.cursor cut.line i 0 (omega (arith, below, length-take cut.cursor cut.line))) ∙ h)) (λ k e. absurd (omega (arith, e)))) refl
    no_edge Ahead =
        let rest = drop cut.cursor cut.line in
        let end : length rest ≡ position_or_len (λ byte. byte == lf) rest = feed_found rest None (λ i below h. no-feed cut.line none (cut.cursor + i) (sym (get_or-drop cut.cursor cut.line i 0) ∙ h)) in
        let all : row_end cut.line cut.cursor ≡ length cut.line = omega (arith, end, length-drop cut.cursor cut.line) in
        rw (all, eq-eqb (length cut.line) (length cut.line) refl) refl

    by_key : (key : Option RowKey) → key ≢ Some Break → option_and_then (λ key. edit_by key goal cut) key ≡ None
    by_key None other = refl
    by_key (Some Break) other = absurd (other refl)
    by_key (Some (ToRow way)) other = rw (no_edge way) refl
    by_key (Some (ToEdge way)) other = rw (no_edge way) refl
    by_key (Some KillToEnd) other = rw (no_edge Ahead) refl

    by_event : (event : EventView) → brings_rows event ≡ false → edit_of_pattern event ≡ None
    by_event (Paste text) whole = rw whole refl
    by_event _ whole = refl

    by : (searching : Bool) → (if searching then edit_of_pattern asked.event else option_and_then (λ key. edit_by key goal cut) (row_key asked.event)) ≡ None
    by true = by_event asked.event whole
    by false = by_key (row_key asked.event) other

-- ---- where steps lead

module _ (line : List ℕ) (to : ℕ) (there : is_cluster_boundary line to ≡ true) where
  -- one step does not pass a boundary
  back-step : (at : ℕ) → to < at → (to ≤ cluster_before line at) × (cluster_before line at < at)
  back-step at below =
      ⊎_elim (λ found. (⊎_elim (λ less. absurd (true≢false (sym there ∙ found.last to less below))) (λ enough. enough) (cases_lt (cluster_before line at) to), found.high))
      (λ none. absurd (true≢false (sym there ∙ none.0 to (omega arith) below))) (offsets_are_extremes line at).cluster_before

  ahead-step : (at : ℕ) → at < to → to ≤ length line → (cluster_after line at ≤ to) × (at < cluster_after line at)
  ahead-step at above inside =
      ⊎_elim (λ found. (⊎_elim (λ less. absurd (true≢false (sym there ∙ found.first to (omega (arith, above)) less))) (λ enough. enough) (cases_lt to (cluster_after line at)), omega (arith, found.low)))
      (λ none. absurd (true≢false (sym there ∙ none.0 to (omega (arith, above)) (omega (arith, inside))))) (offsets_are_extremes line at).cluster_after

-- after steps none of which reached an offset it is still ahead on the way, and each step went on
abbrev IsOnWay : Way → ℕ → Cut → ℕ → ℕ → Type 0
IsOnWay Back to cut n at = (to ≤ at) × (at + n ≤ cut.cursor)
IsOnWay Ahead to cut n at = (at ≤ to) × (cut.cursor + n ≤ at)

module _ (to : ℕ) (cut : Cut) (there : is_cluster_boundary cut.line to ≡ true) (inside : to ≤ length cut.line) where
  on-way-step : (way : Way) (n at : ℕ) → has_reached way to at ≡ false → IsOnWay way to cut n at → IsOnWay way to cut (n + 1) (destination (cluster_steps way 1) (cut_at cut.line at))
  unfolding destination iterate
  on-way-step Back n at other on =
      let step = back-step cut.line to there at (omega (arith, leb-false at to other)) in (step.0, omega (arith, step.1, on.1))
  on-way-step Ahead n at other on =
      let step = ahead-step cut.line to there at (omega (arith, leb-false to at other)) inside in (step.0, omega (arith, step.1, on.1))

  on-way-start : (way : Way) → has_reached way cut.cursor to ≡ true → IsOnWay way to cut 0 cut.cursor
  on-way-start Back way = (leb-true to cut.cursor way, omega arith)
  on-way-start Ahead way = (leb-true cut.cursor to way, omega arith)

  -- where it is reached, or as many steps went on as there are bytes, it is the place
  there-at : (way : Way) (n at : ℕ) → has_reached way to at ≡ true → IsOnWay way to cut n at → at ≡ to
  there-at Back n at here on = omega (arith, on.0, leb-true at to here)
  there-at Ahead n at here on = omega (arith, on.0, leb-true to at here)

  all-gone : (way : Way) (at : ℕ) → cut.cursor ≤ length cut.line → IsOnWay way to cut (length cut.line) at → at ≡ to
  all-gone Back at low on = omega (arith, on.0, on.1, low)
  all-gone Ahead at low on = omega (arith, on.0, on.1, inside)

  -- after `n` steps on the way the least number that reaches the place leads there
  leads : (way : Way) (n m : ℕ) → cut.cursor ≤ length cut.line → n + m ≡ length cut.line → IsOnWay way to cut n (destination (cluster_steps way n) cut)
      → destination (cluster_steps way (unwrap_or (least_from (is_reached_by way to cut) n m) (length cut.line))) cut ≡ to
  unfolding least_from
  leads way n zero low whole on =
      let all : n ≡ length cut.line = omega (arith, whole) in
      all-gone way _ low (subst (λ k. IsOnWay way to cut k (destination (cluster_steps way k) cut)) all on)
  leads way n (suc m) low whole on =
      ⊎_elim (λ here. rw here (there-at way n _ here on))
      (λ other. let next : n + 1 ≡ suc n = omega arith in
      let after = subst (IsOnWay way to cut (n + 1)) (step-more way n cut) (on-way-step way n _ other on) in
      rw other (leads way (suc n) m low (omega (arith, whole)) (subst (λ k. IsOnWay way to cut k (destination (cluster_steps way k) cut)) next after)))
      (cases_Bool (is_reached_by way to cut n))

pub steps_lead_there : StepsLeadThere
steps_lead_there way to cut low inside there from =
    leads to cut there inside way 0 (length cut.line) low (omega arith) (subst (IsOnWay way to cut 0) (sym (no_step way cut)) (on-way-start to cut there inside way from))

-- ---- the rest of a row that is killed

pub row_kill_is_kept : RowKillIsKept
row_kill_is_kept cut some inside there =
    let end = row_end cut.line cut.cursor in
    let n = steps_to Ahead end cut in
    let leads : destination (cluster_steps Ahead n) cut ≡ end =
    steps_lead_there Ahead end cut (omega (arith, some, inside)) (omega (arith, inside)) there (le-leb cut.cursor end (omega (arith, some))) in
    let moves : n ≢ 0 = λ none. absurd (omega (arith, some, sym leads ∙ ap (λ k. destination (cluster_steps Ahead k) cut) none ∙ no_step Ahead cut)) in
    let whole : max n 1 ≡ n = omega (arith, moves) in
    let leads_to : destination (movement.ForwardChar (max n 1)) cut ≡ end = ap (λ k. destination (movement.ForwardChar k) cut) whole ∙ leads in
    rw (ne_eqb end (length cut.line) (λ e. absurd (omega (arith, e, inside))))
    (ap (λ to. slice_range cut.line (min cut.cursor to) (max cut.cursor to)) leads_to
    ∙ ap (λ from. slice_range cut.line from (max cut.cursor end)) (let low : min cut.cursor end ≡ cut.cursor = omega (arith, some) in low)
    ∙ ap (slice_range cut.line cut.cursor) (let high : max cut.cursor end ≡ end = omega (arith, some) in high))
