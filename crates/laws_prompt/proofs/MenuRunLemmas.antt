-- A menu tells at each event of a run what stands in the line.
use Rattle.std.proofs.Common.{◌≡◌, ◌∙◌, ℕ, zero, suc, ◌+◌, ◌-◌, ◌<◌, ◌==◌, List, [], ◌∷◌, Bool, true, false, nat_lt, length, take, drop, slice_get, refl, ap, sym, subst, arith, Option, None, Some, Result, Ok, Err, if◌then◌else◌, ◌&&◌, ◌||◌, not, option_map}
use Rattle.std.proofs.lemmas.Option.{slice_get-get_or}
use Rattle.tw_line.specs.Cut.{Cut}
use Rattle.tw_host.specs.ActionView.{ActionView, AcceptLine, Cancel, EndOfFile, Repaint, Complete, NoAction}
use Rattle.tw_host.specs.CandidateView.{CandidateView, completed_by}
use Rattle.tw_host.specs.HostRules.{HostRules, Resolution, or_default}
use Rattle.tw_session.specs.EditState.{EditState, ModeView, CycleView, Searching}
use Rattle.tw_session.specs.Refusal.{Refusal}
use Rattle.tw_session.specs.Completion.{with_completion, with_candidate, cycle_of, completed_from, completion_step}
use Rattle.tw_session.specs.Outcomes.{is_over}
use Rattle.tw_session.specs.Search.{search_left_in, search_left}
use Rattle.tw_session.specs.Steps.{apply, apply_if}
use Rattle.tw_key_parts.specs.KeyRules.{KeyRules, Edited}
use Rattle.tw_prompt_host.specs.Menu.{menu_after, offered, open_if, chosen_at, asks, is_completing, is_still, menu_begun, turn_line, turn_unless, turned}
use Rattle.tw_prompt_host.specs.MenuKeys.{menu_walked_by}
use Rattle.tw_prompt_host.specs.MenuLayout.{Shown}
use Rattle.tw_prompt_host.specs.PromptRules.{Prompted, found, prompt_rules, Answer, accepting_at, answered, completing, edit_at, fails_at, judged, turn_at}
use Rattle.tw_prompt_host.specs.declared.menu.Menu.{Menu}
use Rattle.tw_prompt_host.specs.declared.menu.Menu.TheVariants.{Closed, Unseen, Few, Open}
use Rattle.laws_prompt.specs.MenuRuns.{IsMarked, TellsLine, ClosesAfterLines, IsMenuTold, TellsLines}
use Rattle.laws_prompt.specs.SearchRuns.{is_searching}
use Rattle.std.proofs.lemmas.Bool.{false≢true, and_parts, eqb-true, ltb-true, not-true}
use Rattle.std.proofs.lemmas.Slice.Eq.{bytes_eq-Decides}
use Rattle.std.specs.Bool.{⊤}
use Rattle.std.specs.Str.{bytes_eq}
use Rattle.tw_input.specs.EventView.{EventView}
use Rattle.tw_host.specs.KeyTable.{action_of}
use Rattle.tw_lineedit.specs.Frame.{Frame}
use Rattle.tw_lineedit.specs.Run.{run_of, progress_of, chosen_action, after_resolution}
use Rattle.tw_lineedit.specs.Reading.{start}
use Rattle.tw_key_parts.specs.Ring.{is_same_cut}
use Rattle.tw_key_parts.specs.SearchWatch.{has_lines, searches_after}
use Rattle.tw_prompt_host.specs.Going.{going_at_rest, before_search_after, comes_back_after, gives_up, event_line}
use Rattle.tw_prompt_host.specs.Verdicts.{said, verdict_on}
use Rattle.tw_prompt_host.specs.declared.answers.Verdict.{Verdict}
use Rattle.tw_prompt_host.specs.declared.answers.Verdict.TheVariants.{Passes}
use Rattle.tw_prompt_host.specs.declared.going.Going.{Going}
use Rattle.laws_prompt.proofs.SearchRunLemmas.{completed, leads_as_told, IsKept, holds_at_stations, holds_over}

-- a menu tells a state while the line is not over, and there is none after that
abbrev pub AgreesIf : Bool → Menu → EditState → Type 0
AgreesIf true m s = m ≡ Closed
AgreesIf false m s = TellsLine m s

abbrev pub Agrees : Menu → EditState → Type 0
Agrees m s = AgreesIf (is_over s.mode) m s

-- so it is at the state to which something leads, where it is not refused
abbrev pub Leads : Menu → Result EditState Refusal → Type 0
Leads m (Ok s) = Agrees m s
Leads m (Err r) = Unit {0}

-- no menu, and no completion
closed : (over : Bool) (m : Menu) (s : EditState) → m ≡ Closed → s.cycle ≡ None → AgreesIf over m s
closed true m s e none = e
closed false m s e none = subst (λ menu. TellsLine menu s) (sym e) none

-- a line that is not over
pub going_on : (s : EditState) (m : Menu) → is_over s.mode ≡ false → TellsLine m s → Agrees m s
going_on s m going tells = subst (λ over. AgreesIf over m s) (sym going) tells

-- a search that is left leads to a line that is not over; without a search all stays
left_going_in : (s : EditState) (mode : ModeView) → is_over s.mode ≡ false → is_over (search_left_in s mode).mode ≡ false
left_going_in s (Searching style direction matching) going = refl
left_going_in s _ going = going

left_still_in : (s : EditState) (mode : ModeView) → is_searching mode ≡ false → search_left_in s mode ≡ s
left_still_in s (Searching style direction matching) e = cc
left_still_in s _ e = refl

-- a candidate comes in
put : (s : EditState) (m : Menu) (cycle : Option CycleView) (cut : Option Cut) → is_over s.mode ≡ false
    → ((c : Cut) → cut ≡ Some c → TellsLine m (record s { cut = c; cycle = cycle })) → Leads m (with_completion s cycle cut)
put s m cycle None going tells = tt
put s m cycle (Some cut) going tells = going_on (record s { cut = cut; cycle = cycle }) m going (tells cut refl)

-- one of a list, taken out of it
one_taken : {A : Type 0} → (l : List A) (i : ℕ) (c : A) → slice_get l i ≡ Some c → take 1 (drop i l) ≡ c ∷ []
one_taken [] i c e = cc
one_taken (x ∷ l) zero c e = (let same : x ≡ c = cc in ap (λ y. y ∷ []) same)
one_taken (x ∷ l) (suc i) c e = one_taken l i c e

-- ---- a completion to which the menu turns

module _ (s : EditState) (going : is_over s.mode ≡ false) where
  -- the candidate that is marked
  marked : (m : Shown) (c : CandidateView) → 1 < length m.candidates → slice_get m.candidates m.chosen ≡ Some c → s.cut ≡ m.line
      → Leads (Open m) (completed_from (take 1 (drop m.chosen m.candidates)) s None)
  marked m c more there line =
      subst (λ candidates. Leads (Open m) (completed_from candidates s None)) (sym (one_taken m.candidates m.chosen c there))
      (put s (Open m) None (completed_by c s.cut) going
      (λ cut e. record { none = refl; more = more; candidate = c; there = there; line = ap (completed_by c) (sym line) ∙ e }))

  -- one candidate, or none
  few_of : (candidates : List CandidateView) (c : Option CandidateView) → s.cycle ≡ None → cycle_of candidates s.cut ≡ None
      → Leads (Few candidates) (with_candidate s (cycle_of candidates s.cut) s.cut c)
  few_of candidates None none single = going_on s (Few candidates) going none
  few_of candidates (Some c) none single = put s (Few candidates) (cycle_of candidates s.cut) (completed_by c s.cut) going (λ cut e. single)

  few : (candidates : List CandidateView) → s.cycle ≡ None → nat_lt 1 (length candidates) ≡ false → Leads (Few candidates) (completed_from candidates s None)
  few candidates none single =
      few_of candidates (slice_get candidates 0) none
      (ap (λ many. if many then Some (record { candidates = candidates; index = 0; original = s.cut }) else None) single)

  completes : (menu : Menu) (other : Cut → List CandidateView) → is_searching s.mode ≡ false → s.cycle ≡ None → Leads menu (completed_from (offered menu (other s.cut)) s None)
      → Leads menu (completion_step (λ cut. offered menu (other cut)) (search_left s))
  unfolding completion_step
  completes menu other still none turned =
      subst (λ t. Leads menu (completed_from (offered menu (other t.cut)) t t.cycle)) (sym (left_still_in s s.mode still))
      (subst (λ cycle. Leads menu (completed_from (offered menu (other s.cut)) s cycle)) (sym none) turned)

-- a walk leads to one of the candidates
pub walk_stays : (index : ℕ) (m : Shown) → 1 < length m.candidates → (chosen_at index m).chosen < length m.candidates
walk_stays index m more = omega (arith, more)

-- ---- other actions

-- what a menu tells is the same of the same line, and without one it tells nothing of the line
module _ {V S K : Type 0} (keys : KeyRules S K) (rules : HostRules V) (v : Prompted V S) (m : Menu) (s : EditState) (after : Cut) (same : Bool)
    (stays : (x : Shown) → m ≡ Open x → same ≡ true → after ≡ s.cut) (going : is_over s.mode ≡ false) (tells : TellsLine m s) where
  abbrev left : EditState
  left = record s { cut = after }

  kept_open : (n : Menu) (b : Bool) → m ≡ n → same ≡ b → TellsLine n s → TellsLine (open_if b n) left
  kept_open (Open x) true is e tells = subst (λ cut. IsMarked x (record s { cut = cut })) (sym (stays x is e)) tells
  kept_open (Open x) false is e tells = tells.none
  kept_open n true is e tells = tells
  kept_open n false is e tells = tells

  -- nothing is done to the line
  idle : v.going.menu ≡ open_if same m → Agrees v.going.menu left
  idle e = going_on left v.going.menu going (subst (λ menu. TellsLine menu left) (sym e) (kept_open m same refl refl tells))

  -- an action
  applied : (a : ActionView) → v.going.menu ≡ menu_after same (Some a) m → Leads v.going.menu (apply (prompt_rules keys rules) v a left)
  unfolding apply
  applied AcceptLine e = e
  applied Cancel e = e
  applied EndOfFile e = tt
  applied Repaint e = idle e
  applied Complete e =
      let still = left_going_in left left.mode going in
      subst (λ menu. Leads menu (completion_step (λ cut. offered v.going.menu (found keys rules v cut)) (search_left left))) (sym e)
      (completed (Leads Unseen) (λ r. tt) (search_left left) (going_on (search_left left) Unseen still tt) (λ cycle cut. going_on (record (search_left left) { cut = cut; cycle = cycle }) Unseen still tt) _)
  applied NoAction e = idle e
  applied _ e = closed _ v.going.menu _ e refl

  -- where an action that turns no menu leads to a state, the menu tells it
  pub applied_if : (a : Option ActionView) → v.going.menu ≡ menu_after same a m → Leads v.going.menu (apply_if (prompt_rules keys rules) v a left)
  applied_if None e = idle e
  applied_if (Some a) e = applied a e

-- ---- what goes on beside a menu

-- while a menu is open the editor does not search, and no line comes back
abbrev IsQuiet : Menu → Bool → Option Cut → Type 0
IsQuiet (Open m) searching back = (searching ≡ false) × (back ≡ None)
IsQuiet _ searching back = ⊤

-- where none stood before a search none comes back
none_back : (gave searches : Bool) (before : Option Cut) → before ≡ None → comes_back_after gave searches before ≡ None
none_back true false before e = e
none_back _ _ before e = refl

-- out of a search there is none from before it
none_before : (searched searches : Bool) (line : Cut) (before : Option Cut) → searches ≡ false → before_search_after searched searches line before ≡ None
none_before searched false line before e = refl
none_before searched true line before e = absurd (false≢true (sym e))

module _ (gave lines same : Bool) (g : Going) (m : Menu) (still : g.searching ≡ false → g.before_search ≡ None) (quiet : IsQuiet m g.searching g.comes_back) where
  abbrev Quiet : Menu → Option ActionView → Type 0
  Quiet menu a = IsQuiet menu (searches_after lines a g.searching) (comes_back_after gave (searches_after lines a g.searching) g.before_search)

  stays_quiet : (n : Menu) (b : Bool) → m ≡ n → IsQuiet n g.searching g.comes_back → IsQuiet (open_if b n) g.searching (comes_back_after gave g.searching g.before_search)
  stays_quiet (Open x) true is quiet = (quiet.0, none_back gave g.searching g.before_search (still quiet.0))
  stays_quiet (Open x) false is quiet = tt
  stays_quiet n true is quiet = tt
  stays_quiet n false is quiet = tt

  quiet_after : (a : Option ActionView) → Quiet (menu_after same a m) a
  quiet_after None = stays_quiet m same refl quiet
  quiet_after (Some Repaint) = stays_quiet m same refl quiet
  quiet_after (Some NoAction) = stays_quiet m same refl quiet
  quiet_after _ = tt

-- ---- where an event turns a menu

-- a completion
is_complete : (a : Option ActionView) → is_completing a ≡ true → a ≡ Some Complete
is_complete (Some Complete) e = refl
is_complete _ e = cc

-- where one begins there is none
none_begun : (m : Menu) (s : EditState) → is_still m ≡ true → TellsLine m s → s.cycle ≡ None
none_begun Closed s e tells = tells
none_begun Unseen s e tells = cc
none_begun (Few candidates) s e tells = tells
none_begun (Open m) s e tells = cc

-- a line that is the same
same_is : (a b : Cut) → is_same_cut a b ≡ true → b ≡ a
same_is a b e =
    let both = and_parts (bytes_eq a.line b.line) (a.cursor == b.cursor) e in
    let line : a.line ≡ b.line = (bytes_eq-Decides a.line b.line).0 both.0 in
    ap (λ l. record { line = l; cursor = b.cursor }) (sym line) ∙ ap (λ (n : ℕ). record { line = a.line; cursor = n }) (sym (eqb-true a.cursor b.cursor both.1))

module _ {V S K : Type 0} (keys : KeyRules S K) (rules : HostRules V) where
  abbrev Host : HostRules (Prompted V S)
  Host = prompt_rules keys rules

  -- a prompt and a state of the editor that fit
  record Fits (v : Prompted V S) (s : EditState) : Type 0 where
    menu : Agrees v.going.menu s
    watch : v.going.searching ≡ is_searching s.mode
    still : v.going.searching ≡ false → v.going.before_search ≡ None
    quiet : IsQuiet v.going.menu v.going.searching v.going.comes_back

  -- so they do after an event
  module _ (v : Prompted V S) (e : EventView) (s : EditState) (going : is_over s.mode ≡ false) (fits : Fits v s) where
    abbrev cut : Cut
    cut = event_line v.going s.cut

    abbrev told_line : TellsLine v.going.menu s
    told_line = subst (λ over. AgreesIf over v.going.menu s) going fits.menu

    -- what a resolution leads to
    abbrev Led : Resolution (Prompted V S) → Type 0
    Led r = Leads r.value.going.menu (apply_if Host r.value (or_default r.action e) (record s { cut = r.cut }))
        × IsQuiet r.value.going.menu r.value.going.searching r.value.going.comes_back

    -- a line that stays the same under an open menu is the editor's
    stays : (x : Shown) (after : Cut) → v.going.menu ≡ Open x → is_same_cut cut after ≡ true → after ≡ s.cut
    stays x after shown same =
        let quiet = subst (λ m. IsQuiet m v.going.searching v.going.comes_back) shown fits.quiet in
        same_is cut after same ∙ ap (λ back. event_line (record v.going { comes_back = back }) s.cut) quiet.1

    unturned : (answer : Answer K) (value : V) (verdict : Verdict) (fails : Bool) → Led (judged keys rules v e cut value answer None verdict fails)
    unturned answer value verdict fails =
        let r = judged keys rules v e cut value answer None verdict fails in
        let same = is_same_cut cut answer.cut in (
          applied_if keys rules r.value v.going.menu s answer.cut same (λ x shown. stays x answer.cut shown) going told_line (or_default r.action e) refl,
          quiet_after (gives_up e) (has_lines v.lines) same v.going v.going.menu fits.still fits.quiet (or_default r.action e),
        )

    -- a menu to which the event turns
    abbrev IsReady : Menu → Type 0
    IsReady (Open m) = (1 < length m.candidates) × (m.chosen < length m.candidates)
    IsReady (Few candidates) = (nat_lt 1 (length candidates) ≡ false) × (action_of e ≡ Some Complete)
    IsReady _ = ⊥

    record Turns (turn : Menu) : Type 0 where
      none : s.cycle ≡ None
      still : v.going.searching ≡ false
      ready : IsReady turn

    begun_ready : (candidates : List CandidateView) (many : Bool) → nat_lt 1 (length candidates) ≡ many → action_of e ≡ Some Complete
        → IsReady (if many then Open (record { candidates = candidates; chosen = 0; line = cut }) else Few candidates)
    begun_ready candidates true more complete =
        let two : 1 < length candidates = ltb-true 1 (length candidates) more in
        (two, omega (arith, two))
    begun_ready candidates false single complete = (single, complete)

    begun_turns : (m turn : Menu) (candidates : List CandidateView) (b : Bool) → v.going.menu ≡ m → asks v.going.searching m (action_of e) ≡ b
        → option_map (λ candidates. menu_begun candidates cut) (if b then Some candidates else None) ≡ Some turn → Turns turn
    begun_turns m turn candidates false is asked e = cc
    begun_turns m turn candidates true is asked begun =
        let asks = and_parts (not v.going.searching) (is_still m && is_completing (action_of e)) asked in
        let both = and_parts (is_still m) (is_completing (action_of e)) asks.1 in
        let ready = begun_ready candidates (nat_lt 1 (length candidates)) refl (is_complete (action_of e) both.1) in
        let same : menu_begun candidates cut ≡ turn = cc in
        record {
          none = none_begun m s both.0 (subst (λ m. TellsLine m s) is told_line);
          still = not-true v.going.searching asks.0;
          ready = subst IsReady same ready;
        }

    walk_turns : (x : Shown) (turn : Menu) → v.going.menu ≡ Open x → (index : ℕ) → Some (Open (chosen_at index x)) ≡ Some turn → Turns turn
    walk_turns x turn is index leads =
        let marked = subst (λ m. TellsLine m s) is told_line in
        let quiet = subst (λ m. IsQuiet m v.going.searching v.going.comes_back) is fits.quiet in
        let to : Open (chosen_at index x) ≡ turn = cc in
        subst Turns to (record { none = marked.none; still = quiet.0; ready = (marked.more, walk_stays index x marked.more) })

    open_turns : (x : Shown) (index : Option ℕ) (turn : Menu) → v.going.menu ≡ Open x → option_map (λ index. Open (chosen_at index x)) index ≡ Some turn → Turns turn
    open_turns x (Some index) turn is leads = walk_turns x turn is index leads
    open_turns x None turn is leads = absurd (let none : None ≡ Some turn = leads in cc)

    turns_at : (m turn : Menu) → v.going.menu ≡ m
        → turned v.style (option_map (λ candidates. menu_begun candidates cut) (if asks v.going.searching m (action_of e) then Some (found keys rules v cut) else None)) e m ≡ Some turn
        → Turns turn
    turns_at (Open x) turn is leads = open_turns x (menu_walked_by v.style e x) turn is leads
    turns_at m turn is begun = begun_turns m turn _ _ is refl begun

    turned_to : (turn : Menu) (rcut : Cut) (value : V) (accept : Verdict) (lines fails : Bool) → Turns turn
        → let answer = answered None (completing None (turn_line (Some turn))) rcut in
        Led (judged keys rules v e cut value answer (Some turn) (verdict_on accept lines (or_default answer.action e)) fails)
    unfolding apply
    turned_to (Few candidates) rcut value accept lines fails turns =
        let answer = answered None None rcut in
        let r = judged keys rules v e cut value answer (Some (Few candidates)) (verdict_on accept lines (action_of e)) fails in
        let action : or_default r.action e ≡ Some Complete =
        ap (λ a. or_default (said (verdict_on accept lines a) None) e) turns.ready.1 ∙ turns.ready.1 in (
          subst (λ a. Leads (Few candidates) (apply_if Host r.value a (record s { cut = rcut }))) (sym action)
              (completes (record s { cut = rcut }) going (Few candidates) (found keys rules r.value) (sym fits.watch ∙ turns.still) turns.none (few (record s { cut = rcut }) going candidates turns.none turns.ready.0)),
          tt,
        )
    turned_to (Open m) rcut value accept lines fails turns =
        let answer = answered None (completing None (Some m.line)) rcut in
        let r = judged keys rules v e cut value answer (Some (Open m)) Passes fails in (
          completes (record s { cut = m.line }) going (Open m) (found keys rules r.value) (sym fits.watch ∙ turns.still) turns.none
              (marked (record s { cut = m.line }) going m _ turns.ready.0 (slice_get-get_or m.candidates m.chosen (record { start = 0; end = 0; text = [] }) turns.ready.1) refl),
          (refl, none_back (gives_up e) false v.going.before_search (fits.still turns.still)),
        )
    turned_to _ rcut value accept lines fails turns = absurd turns.ready

    led_by : (own : Option ActionView) (rcut : Cut) (value : V) (edit : Option (Edited (Option K))) (turn : Option Menu) (accept : Verdict) (lines fails : Bool) → turn_at keys rules v e cut ≡ turn
        → let answer = answered own (completing edit (turn_line turn)) rcut in
        Led (judged keys rules v e cut value answer (turn_unless own edit turn) (verdict_on accept lines (or_default answer.action e)) fails)
    led_by None rcut value None (Some turn) accept lines fails is = turned_to turn rcut value accept lines fails (turns_at v.going.menu turn refl is)
    led_by own rcut value edit turn accept lines fails is =
        let answer : Answer K = answered own (completing edit (turn_line turn)) rcut in unturned answer value (verdict_on accept lines (or_default answer.action e)) fails

    led : Led (Host.resolve v e s.cut)
    led =
        let own = rules.resolve v.host e cut in
        led_by own.action own.cut own.value (edit_at keys rules v e cut) (turn_at keys rules v e cut)
        (accepting_at keys rules v cut.line) (v.going.searching || has_lines v.lines) (fails_at keys rules v e cut own.action) refl

  -- a prompt fits after an event at a line that is not over
  fits_after : IsKept Host Fits
  fits_after s e state going fits leads =
      let came = led s.value e s.state going fits in
      let v = (after_resolution Host s e).value in record {
        menu = subst (Leads v.going.menu) leads came.0;
        watch = ap (λ before. searches_after (has_lines (Host.lines v)) (chosen_action Host s e) before) fits.watch
            ∙ sym (leads_as_told Host v (chosen_action Host s e) (after_resolution Host s e).state state leads);
        still = none_before s.value.going.searching v.going.searching (event_line s.value.going s.state.cut) s.value.going.before_search;
        quiet = came.1;
      }

  -- a reading begins with no completion
  at_first : (initial : Option (List ℕ)) (f : Frame (Prompted V S)) → f.value.going ≡ going_at_rest → Fits (start initial f).value (start initial f).state
  at_first initial f rest = record {
    menu = subst (λ g. TellsLine g.menu (start initial f).state) (sym rest) refl;
    watch = subst (λ (g : Going). g.searching ≡ false) (sym rest) refl;
    still = λ e. subst (λ (g : Going). g.before_search ≡ None) (sym rest) refl;
    quiet = subst (λ (g : Going). IsQuiet g.menu g.searching g.comes_back) (sym rest) tt;
  }

  pub tells_lines : TellsLines keys rules
  tells_lines initial f rest =
      holds_at_stations Host Fits fits_after (IsMenuTold keys rules) (λ cleared s fits going. subst (λ over. AgreesIf over s.value.going.menu s.state) going fits.menu) f.terminal.events false (progress_of (start initial f)) (at_first initial f rest)

  pub closes_after_lines : ClosesAfterLines keys rules
  closes_after_lines initial f rest over =
      let end = run_of Host (start initial f) in
      subst (λ over. AgreesIf over end.value.going.menu end.state) over (holds_over Host Fits fits_after f.terminal.events (progress_of (start initial f)) (at_first initial f rest) over).menu
