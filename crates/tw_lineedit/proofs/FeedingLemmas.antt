-- An event that is handled and painted, against the run.
use Rattle.std.proofs.Common.{◌≡◌, ◌≢◌, ℕ, OnOk, IfErr, List, [], ◌∷◌, ◌++◌, cond, Bool, true, false, refl, sym, ◌∙◌, ap, subst, inl, inr, Option, Some, None, Result, Ok, Err}
use Rattle.std.proofs.lemmas.Bool.{false≢true}
use Rattle.tw_surface.specs.ChangeView.{Batch}
use Rattle.tw_surface.specs.Paintings.{Mark}
use Rattle.tw_surface.specs.PaintingBatches.{clear_batch}
use Rattle.tw_input.specs.EventView.{EventView}
use Rattle.tw_terminal.specs.TerminalState.{TerminalState, size_after}
use Rattle.tw_terminal.specs.declared.terminal.ScreenSize.{ScreenSize}
use Rattle.tw_host.specs.ActionView.{Repaint}
use Rattle.tw_host.specs.HostRules.{HostRules}
use Rattle.tw_host.specs.declared.host.Overrides.{Overrides}
use Rattle.tw_session.specs.EditState.{EditState, ModeView, Inactive, Editing, Searching}
use Rattle.tw_session.specs.Refusal.{Refusal, refusal_of}
use Rattle.tw_session.specs.Painting.{Rendering}
use Rattle.tw_session.specs.declared.error.Error.{Error}
use Rattle.tw_session.specs.declared.error.Error.TheVariants.{Memory, Terminal}
use Rattle.tw_session.specs.Outcomes.{Outcome, is_over, is_open, answer_at}
use Rattle.tw_session.specs.Memory.{TakesMemory}
use Rattle.tw_session.specs.Steps.{clears_if}
use Rattle.tw_lineedit.specs.Frame.{Frame}
use Rattle.tw_lineedit.specs.Run.{Progress, Ending, Moment, Cause, want, fault, run, run_of, ends, ending, at_no_event, after_event, chosen_action, resolution_of, after_action, state_after, after_resolution, after_taking, after_painting, painting_at, moment, progress_of, CanStop, StandsAt, Quiet, IsRefusedIn, CanMiss, unmeasured, unpainted, half_painted, CanRefuse, unresolved, unapplied, half_cleared, missed, CanStopAt, refused, later, CanStopOn, unpolled, uncopied, taking, behind_painting, at_painting}
use Rattle.tw_lineedit.specs.Run as stop
use Rattle.tw_lineedit.specs.EditorSteps.{Paints, FailsToPaint, Handles, FailsToHandle, HandlesAndPaints, FailsToHandleOrPaint, GivesUp, answered_frame}
use Rattle.tw_lineedit.specs.Reading.{start, IsTurnedDown}
use Rattle.tw_lineedit.specs.Feeding.{paint_end, painted_run, fed_run, run_on, Begins, IsFed, IsNotBegun, begun_run, WantsToBegin, FaultsToBegin, FailsToFeed, event_run, WantsToFeed, FaultsToFeed}
use Rattle.tw_lineedit.specs.Reading as call
use Rattle.tw_lineedit.proofs.ClosingLemmas.{gives_up_refused}
use Rattle.tw_session.proofs.ModeLemmas.{never_inactive}
use Rattle.tw_lineedit.proofs.StandLemmas.{stands_here, stands_failed, stands_in_part, quiet_self, quiet_on, fails_on, failed, render_failed, refused_later}

-- runs of the same parts have come as far
pub same_progress : {V : Type 0} (s t : Progress V) → s.state ≡ t.state → s.value ≡ t.value → s.size ≡ t.size → s.mark ≡ t.mark → s.taken ≡ t.taken → s ≡ t
same_progress {V = V} s t a b c d e =
    ap (λ (x : EditState). let r : Progress V = record s { state = x } in r) a
    ∙ ap (λ (x : V). let r : Progress V = record s { state = t.state; value = x } in r) b
    ∙ ap (λ (x : ScreenSize). let r : Progress V = record t { size = x; mark = s.mark; taken = s.taken } in r) c
    ∙ ap (λ (x : Option Mark). let r : Progress V = record t { mark = x; taken = s.taken } in r) d
    ∙ ap (λ (x : List Batch). let r : Progress V = record t { taken = x } in r) e

-- a line is no refusal
abbrev has_line : Outcome → Bool
has_line (Ok line) = true
has_line (Err r) = false

-- an open mode does not end the run
pub open_goes_on : (m : ModeView) → is_open m ≡ true → is_over m ≡ false
open_goes_on Editing o = refl
open_goes_on (Searching style direction matching) o = refl
open_goes_on _ o = absurd (false≢true o)

-- nor is it Inactive
pub open_is_begun : (m : ModeView) → is_open m ≡ true → m ≢ Inactive
open_is_begun m o inactive = false≢true (sym (ap is_open inactive) ∙ o)

module _ {V : Type 0} (rules : HostRules V) where
  -- a refused painting

  -- where the painting is refused the run ends
  run_unpainted : (es : List EventView) (s : Progress V) (n : Refusal) → painting_at rules s ≡ Err n → run rules es s ≡ ends (Err n) es s
  run_unpainted [] s n h = ap (at_no_event rules s) h
  run_unpainted (e ∷ es) s n h = ap (stop.at_event rules e es s (run rules es)) h

  -- the painting is refused, by memory, by the terminal or by itself
  abbrev IsUnshown : Frame V → Frame V → Error → Type 0
  IsUnshown f g e = IsRefusedIn (painted_run rules f.terminal.events (progress_of f)) (CanMiss rules want f.terminal.events (progress_of f)) (CanMiss rules fault f.terminal.events (progress_of f)) f g e

  paint_refused : (f g : Frame V) (e : Error) → FailsToPaint rules f g e → IsUnshown f g e
  paint_refused f g (Memory x) (same, sized) = subst (λ (y : Frame V). IsUnshown f y (Memory x)) (sym same) ((moment None f.terminal.events (progress_of f), unpainted sized, refl, stands_here f), quiet_self f)
  paint_refused f g (Terminal x) (keeps, h) = elim h [
    | inl fails ↦ ((moment None f.terminal.events (progress_of f), unmeasured, stands_failed _ f g keeps fails (stands_here f)), failed f g fails)
    | inr part ↦ ((moment (Some part.0.changes) f.terminal.events (progress_of f), half_painted part.1, stands_in_part part.0.changes f g keeps part.2), render_failed part.0.changes f g part.2)
  ]
  paint_refused f g e (same, h) =
      (ap (paint_end f.terminal.events (progress_of f)) h ∙ ap (ending (Err (refusal_of e))) (sym same), subst (λ (y : Frame V). Quiet f y) (sym same) (quiet_self f))

  -- a refusal of a painting ends the run
  refused_by : (es : List EventView) (s : Progress V) (r : Refusal) (g : Frame V) (p : Result Rendering Refusal) → painting_at rules s ≡ p → paint_end es s p ≡ ending (Err r) g → run rules es s ≡ ending (Err r) g
  refused_by es s r g (Err n) h at = run_unpainted es s n h ∙ at
  refused_by es s r g (Ok p) h at = absurd (false≢true (sym (ap (λ (x : Ending V). has_line x.answer) at)))

  pub refused_painting : (es : List EventView) (s : Progress V) (r : Refusal) (g : Frame V) → painted_run rules es s ≡ ending (Err r) g → run rules es s ≡ ending (Err r) g
  refused_painting es s r g at = refused_by es s r g (painting_at rules s) refl at

  -- a painting

  -- a run goes on from its first painting
  run_painted : (es : List EventView) (s : Progress V) (p : Rendering) → painting_at rules s ≡ Ok p → run rules es s ≡ run_on rules es (after_painting s p)
  run_painted [] s p h = ap (at_no_event rules s) h
  run_painted (e ∷ es) s p h = ap (stop.at_event rules e es s (run rules es)) h

  -- how far a painted frame has come
  painted_is : (f g : Frame V) (h : Paints rules f g) → progress_of g ≡ after_painting (progress_of f) h.picture.0
  painted_is f g h = same_progress (progress_of g) (after_painting (progress_of f) h.picture.0) h.state h.value
      (ap (λ (t : TerminalState). t.size) h.picture.3) h.picture.2 (ap (λ (t : TerminalState). t.batches) h.picture.3)

  -- a painting is quiet
  quiet_painted : (f g : Frame V) → Paints rules f g → Quiet f g
  quiet_painted f g p = record { flushed = ap (λ (t : TerminalState). t.flushed) p.picture.3; failures = ap (λ (t : TerminalState). t.failures) p.picture.3 }

  -- the run after the first painting
  run_begun : (f g : Frame V) → Paints rules f g → (es : List EventView) → run rules es (progress_of f) ≡ run_on rules es (progress_of g)
  run_begun f g h es = run_painted es (progress_of f) h.picture.0 h.picture.1 ∙ ap (run_on rules es) (sym (painted_is f g h))

  -- an event

  -- once the event is taken, the action leads to a state
  abbrev kept : Progress V → EventView → EditState → Progress V
  kept s e state = record s { state = state; value = (resolution_of rules s e).value; taken = s.taken ++ clears_if (chosen_action rules s e) }

  -- how far a frame has come that has handled an event
  handled_is : (h i : Frame V) (e : EventView) → Handles rules e h i → progress_of i ≡ kept (progress_of h) e i.state
  handled_is h i e a = same_progress (progress_of i) (kept (progress_of h) e i.state) refl a.value
      (ap (λ (t : TerminalState). t.size) a.terminal) a.mark (ap (λ (t : TerminalState). t.batches) a.terminal)

  -- the handling of an event is quiet
  quiet_handled : (h i : Frame V) (e : EventView) → Handles rules e h i → Quiet h i
  quiet_handled h i e a = record { flushed = ap (λ (t : TerminalState). t.flushed) a.terminal; failures = ap (λ (t : TerminalState). t.failures) a.terminal }

  -- the run by the state to which the event leads
  run_taken : (e : EventView) (es : List EventView) (s : Progress V) (r : Result EditState Refusal) → is_over s.state.mode ≡ false → state_after rules s e ≡ r → run_on rules (e ∷ es) s ≡ after_event rules e es s (run rules es) r
  run_taken e es s r o st =
      ap (λ (b : Bool). cond b (ends (answer_at s.state) (e ∷ es) s) (after_event rules e es s (run rules es) (state_after rules s e))) o
      ∙ ap (after_event rules e es s (run rules es)) st

  -- a refusal of an event ends the run
  refused_event_by : (e : EventView) (es : List EventView) (s : Progress V) (r : Refusal) (g : Frame V) (x : Result EditState Refusal) → is_over s.state.mode ≡ false → state_after rules s e ≡ x
      → after_event rules e es s (painted_run rules es) x ≡ ending (Err r) g → run_on rules (e ∷ es) s ≡ ending (Err r) g
  refused_event_by e es s r g (Err n) o st at = run_taken e es s (Err n) o st ∙ at
  refused_event_by e es s r g (Ok state) o st at = run_taken e es s (Ok state) o st ∙ refused_painting es (after_action rules s e state) r g at

  pub refused_event : (e : EventView) (es : List EventView) (s : Progress V) (r : Refusal) (g : Frame V) → is_over s.state.mode ≡ false → fed_run rules e es s ≡ ending (Err r) g → run_on rules (e ∷ es) s ≡ ending (Err r) g
  refused_event e es s r g o at = refused_event_by e es s r g (state_after rules s e) o refl at

  -- A run that was painted at s takes the event, and then the frame h handles it.
  module _ (s : Progress V) (e : EventView) (h : Frame V) (at : progress_of h ≡ after_taking s e) where
    module _ (i : Frame V) (a : Handles rules e h i) where
      -- the event leads to the state of i
      leads : state_after rules s e ≡ Ok i.state
      leads = subst (λ (t : Progress V). state_after rules t e ≡ Ok i.state) at a.state

      -- and so far the run has come
      comes : progress_of i ≡ after_action rules s e i.state
      comes = handled_is h i e a ∙ ap (λ (t : Progress V). kept t e i.state) at

      -- the run goes on from i
      run_handled : is_over s.state.mode ≡ false → (es : List EventView) → run_on rules (e ∷ es) s ≡ run rules es (progress_of i)
      run_handled o es = run_taken e es s (Ok i.state) o leads ∙ ap (run rules es) (sym comes)

      -- the events left are the same
      left_handled : i.terminal.events ≡ h.terminal.events
      left_handled = ap (λ (t : TerminalState). t.events) a.terminal

    -- the run after an event that is handled and painted
    pub run_advanced : is_over s.state.mode ≡ false → (g : Frame V) → HandlesAndPaints rules e h g → (es : List EventView) → run_on rules (e ∷ es) s ≡ run_on rules es (progress_of g)
    run_advanced o g (i, a, p) es = run_handled i a o es ∙ run_begun i g p es

    -- the frame h stands where the event is taken
    stands_taken : StandsAt (moment None h.terminal.events (after_taking s e)) h
    stands_taken = subst (λ (t : Progress V). StandsAt (moment None h.terminal.events t) h) at (stands_here h)

    -- the frame where the host has answered
    abbrev asked : Frame V
    asked = answered_frame rules e h

    -- once the host has answered
    abbrev turned : Progress V → Progress V
    turned t = record t { state = (after_resolution rules t e).state; value = (after_resolution rules t e).value }

    -- how far the run has come where the host has answered
    comes_asked : progress_of asked ≡ after_resolution rules s e
    comes_asked = ap turned at

    -- that was quiet
    quiet_asked : Quiet h asked
    quiet_asked = record { flushed = refl; failures = refl }

  -- the handling and the painting of an event are quiet
  pub quiet_advanced : (e : EventView) (f g : Frame V) → HandlesAndPaints rules e f g → Quiet f g
  quiet_advanced e f g (i, a, p) = quiet_on f i g (quiet_handled f i e a) (quiet_painted i g p)

  -- and take no event
  pub left_advanced : (e : EventView) (f g : Frame V) → HandlesAndPaints rules e f g → g.terminal.events ≡ f.terminal.events
  left_advanced e f g (i, a, p) = ap (λ (t : TerminalState). t.events) p.picture.3 ∙ ap (λ (t : TerminalState). t.events) a.terminal

  -- and don't close the line
  begun_advanced : (e : EventView) (f g : Frame V) → f.state.mode ≢ Inactive → HandlesAndPaints rules e f g → g.state.mode ≢ Inactive
  begun_advanced e f g b (i, a, p) inactive =
      never_inactive rules (answered_frame rules e f).value (chosen_action rules (progress_of f) e) (answered_frame rules e f).state i.state b a.state
      (ap (λ (x : EditState). x.mode) (sym p.state) ∙ inactive)

  -- the taking of an event that has the terminal's size changes nothing
  at_own_size : (f : Frame V) (e : EventView) → size_after e f.terminal.size ≡ f.terminal.size → progress_of f ≡ after_taking (progress_of f) e
  at_own_size f e told = ap (λ (z : ScreenSize). let r : Progress V = record (progress_of f) { size = z } in r) (sym told)

  -- the first painting of a line is refused
  unbegun_at_start : (initial : Option (List ℕ)) (f h : Frame V) (e : Error) → FailsToPaint rules (start initial f) h e → IsNotBegun rules initial f h e
  unbegun_at_start initial f h e p = refused_later (begun_run rules initial f) (begun_run rules initial f)
      (WantsToBegin rules initial f) (FaultsToBegin rules initial f) (CanMiss rules want f.terminal.events (progress_of (start initial f))) (CanMiss rules fault f.terminal.events (progress_of (start initial f)))
      f (start initial f) h (λ n at. at) (λ m can. inl can) (λ m can. can) (record { flushed = refl; failures = refl }) e (paint_refused (start initial f) h e p)

  -- how a part that comes last is answered

  -- the first painting is refused
  pub not_begun_if : (A : Type 0) (answer : Result A Error) (initial : Option (List ℕ)) (f g h : Frame V) → g ≡ start initial f → IfErr answer (FailsToPaint rules g h) → IfErr answer (IsNotBegun rules initial f h)
  not_begun_if A (Ok x) initial f g h same p = tt
  not_begun_if A (Err e) initial f g h same p = unbegun_at_start initial f h e (subst (λ (y : Frame V). FailsToPaint rules y h e) same p)

  -- the painting after an event
  pub advances_if : (A : Type 0) (answer : Result A Error) (e : EventView) (f g h : Frame V) → Handles rules e f g → OnOk answer (Paints rules g h) → OnOk answer (HandlesAndPaints rules e f h)
  advances_if A (Ok x) e f g h a p = (g, a, p)
  advances_if A (Err y) e f g h a p = tt

module _ {V : Type 0} (rules : HostRules V) (overrides : Overrides) where
  -- the first painting
  pub begins : (f g : Frame V) → Paints rules f g → Begins rules overrides f g
  begins f g h = record {
    paints = h;
    run = run_begun rules f g h;
    stops = λ c es m r. behind_painting h.picture.1 (subst (λ (s : Progress V). CanStopOn rules overrides c es s m) (painted_is rules f g h) r);
    quiet = quiet_painted rules f g h;
    left = ap (λ (t : TerminalState). t.events) h.picture.3;
  }

  -- A run that was painted at s takes the event, and then the frame h handles it.
  module _ (s : Progress V) (e : EventView) (h : Frame V) (at : progress_of h ≡ after_taking s e) where
    module _ (i : Frame V) (a : Handles rules e h i) where
      -- the run can be stopped where that from i can
      stops_handled : (c : Cause) (es : List EventView) (m : Moment V) → CanStop rules overrides c es (progress_of i) m → CanStopAt rules overrides c e es s m
      stops_handled c es m r = later (leads rules s e h at i a) (subst (λ (t : Progress V). CanStop rules overrides c es t m) (comes rules s e h at i a) r)

      -- the event can be refused where the painting of i can
      stops_behind : (c : Cause) (es : List EventView) (m : Moment V) → CanMiss rules c es (progress_of i) m → CanRefuse rules overrides c e es s m
      stops_behind c es m r = missed (leads rules s e h at i a) (subst (λ (t : Progress V). CanMiss rules c es t m) (comes rules s e h at i a) r)

    pub stops_advanced : (g : Frame V) → HandlesAndPaints rules e h g → (c : Cause) (es : List EventView) (m : Moment V) → CanStopOn rules overrides c es (progress_of g) m → CanStopAt rules overrides c e es s m
    stops_advanced g (i, a, p) c es m r = stops_handled i a c es m ((begins i g p).stops c es m r)

    -- what a refusal leaves
    abbrev Refused : Frame V → Error → Type 0
    Refused g x = IsRefusedIn (fed_run rules e h.terminal.events s) (CanRefuse rules overrides want e h.terminal.events s) (CanRefuse rules overrides fault e h.terminal.events s) h g x

    -- the event is not handled
    unhandled : (g : Frame V) (x : Error) → FailsToHandle rules overrides e h g x → Refused g x
    unhandled g (Memory y) r = elim r [
      | inl own ↦ subst (λ (k : Frame V). Refused k (Memory y)) (sym own.0) ((moment None h.terminal.events (after_taking s e), unresolved own.1, refl, stands_taken rules s e h at), quiet_self h)
      | inr apart ↦ subst (λ (k : Frame V). Refused k (Memory y)) (sym apart.0) (
        (
          moment None h.terminal.events (after_resolution rules s e),
          unapplied (subst (λ (t : Progress V). TakesMemory rules overrides (after_resolution rules t e).value (chosen_action rules t e) (after_resolution rules t e).state) at apart.1),
          refl,
          subst (λ (t : Progress V). StandsAt (moment None h.terminal.events t) (asked rules s e h at)) (comes_asked rules s e h at) (stands_here (asked rules s e h at)),
        ),
        quiet_asked rules s e h at,
      )
    ]
    unhandled g (Terminal y) r = (
      (
        moment (Some clear_batch) h.terminal.events (after_resolution rules s e),
        half_cleared (subst (λ (t : Progress V). chosen_action rules t e ≡ Some Repaint) at r.0),
        subst (λ (t : Progress V). StandsAt (moment (Some clear_batch) h.terminal.events t) g) (comes_asked rules s e h at) (stands_in_part clear_batch (asked rules s e h at) g r.1 r.2),
      ),
      fails_on h (asked rules s e h at) g (quiet_asked rules s e h at) (render_failed clear_batch (asked rules s e h at) g r.2),
    )
    unhandled g x r = subst (λ (k : Frame V). Refused k x) (sym r.0) (
      ap (after_event rules e h.terminal.events s (painted_run rules h.terminal.events)) (subst (λ (t : Progress V). state_after rules t e ≡ Err (refusal_of x)) at r.1)
          ∙ ap (ends (Err (refusal_of x)) h.terminal.events) (sym (comes_asked rules s e h at)),
      quiet_asked rules s e h at,
    )

    -- what came of the event is not painted
    refused_behind : (g : Frame V) (x : Error) (i : Frame V) → Handles rules e h i → FailsToPaint rules i g x → Refused g x
    refused_behind g x i a p =
        let same : fed_run rules e h.terminal.events s ≡ painted_run rules i.terminal.events (progress_of i) =
        ap (after_event rules e h.terminal.events s (painted_run rules h.terminal.events)) (leads rules s e h at i a)
        ∙ ap (painted_run rules h.terminal.events) (sym (comes rules s e h at i a))
        ∙ ap (λ (es : List EventView). painted_run rules es (progress_of i)) (sym (left_handled rules s e h at i a)) in
        refused_later
        (fed_run rules e h.terminal.events s) (painted_run rules i.terminal.events (progress_of i))
        (CanRefuse rules overrides want e h.terminal.events s) (CanRefuse rules overrides fault e h.terminal.events s)
        (CanMiss rules want i.terminal.events (progress_of i)) (CanMiss rules fault i.terminal.events (progress_of i))
        h i g
        (λ n r. same ∙ r)
        (λ m r. stops_behind i a want h.terminal.events m (subst (λ (es : List EventView). CanMiss rules want es (progress_of i) m) (left_handled rules s e h at i a) r))
        (λ m r. stops_behind i a fault h.terminal.events m (subst (λ (es : List EventView). CanMiss rules fault es (progress_of i) m) (left_handled rules s e h at i a) r))
        (quiet_handled rules h i e a)
        x (paint_refused rules i g x p)

    -- the event is not handled, or what came of it is not painted
    pub refused_advance : (g : Frame V) (x : Error) → FailsToHandleOrPaint rules overrides e h g x → Refused g x
    refused_advance g x r = elim r [
      | inl fails ↦ unhandled g x fails
      | inr there ↦ refused_behind g x there.0 there.1 there.2
    ]

  -- An event that is fed has the size that the terminal has already.
  pub fed : (e : EventView) (f g : Frame V) → size_after e f.terminal.size ≡ f.terminal.size → is_open f.state.mode ≡ true → HandlesAndPaints rules e f g → IsFed rules overrides e f g
  fed e f g told o a =
      let at : progress_of f ≡ after_taking (progress_of f) e = at_own_size rules f e told in
      let goes : is_over f.state.mode ≡ false = open_goes_on f.state.mode o in
      record {
        advances = a;
        run = run_advanced rules (progress_of f) e f at goes g a;
        stops = stops_advanced (progress_of f) e f at g a;
        begun = begun_advanced rules e f g (open_is_begun f.state.mode o) a;
        quiet = quiet_advanced rules e f g a;
        left = left_advanced rules e f g a;
      }

  -- an event is refused, and the line is closed
  pub fed_given_up : (e : EventView) (f h g : Frame V) (x y : Error) → size_after e f.terminal.size ≡ f.terminal.size → FailsToHandleOrPaint rules overrides e f h x → GivesUp x h g y → FailsToFeed rules overrides e f g y
  fed_given_up e f h g x y told r c = gives_up_refused (event_run rules e f) (WantsToFeed rules overrides e f) (FaultsToFeed rules overrides e f) f h g x y
      (refused_advance (progress_of f) e f (at_own_size rules f e told) h x r) c

  -- a line whose beginning is refused is turned down
  pub turned_down : (initial : Option (List ℕ)) (f h : Frame V) (e : Error) → IsNotBegun rules initial f h e → IsTurnedDown rules overrides initial f h e
  turned_down initial f h e r = refused_later (run_of rules (start initial f)) (begun_run rules initial f)
      (call.Starves rules overrides initial f) (call.Faults rules overrides initial f) (WantsToBegin rules initial f) (FaultsToBegin rules initial f) f f h
      (λ n at. refused_painting rules f.terminal.events (progress_of (start initial f)) n h at)
      (λ m can. elim can [
        | inl miss ↦ inl (at_painting miss)
        | inr given ↦ inr given
      ])
      (λ m can. at_painting can)
      (quiet_self f) e r

  -- how a part that comes last is answered

  -- the first painting
  pub begins_if : (A : Type 0) (answer : Result A Error) (f g h : Frame V) → g ≡ f → OnOk answer (Paints rules g h) → OnOk answer (Begins rules overrides f h)
  begins_if A (Ok x) f g h same p = subst (λ (y : Frame V). Begins rules overrides y h) same (begins g h p)
  begins_if A (Err e) f g h same p = tt

  -- it is refused
  pub stays_if : (A : Type 0) (answer : Result A Error) (e : EventView) (f g h : Frame V) → Handles rules e f g → IfErr answer (FailsToPaint rules g h) → IfErr answer (FailsToHandleOrPaint rules overrides e f h)
  stays_if A (Ok x) e f g h a p = tt
  stays_if A (Err y) e f g h a p = inr (g, a, p)
