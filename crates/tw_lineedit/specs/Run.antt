-- The run of an editor over a list of events, and the moments at which it can be stopped.
use Rattle.std.specs.Prelude.{◌≡◌, ◌++◌, ◌∷◌, [], ◌⊎◌, cond, true, false, List, Option, Some, None, Result, Ok, Err}
use Rattle.tw_surface.specs.ChangeView.{Batch}
use Rattle.tw_surface.specs.Paintings.{Mark}
use Rattle.tw_surface.specs.PaintingBatches.{clear_batch}
use Rattle.tw_input.specs.EventView.{EventView}
use Rattle.tw_terminal.specs.TerminalState.{count_up, size_after, IsPart}
use Rattle.tw_terminal.specs.declared.terminal.ScreenSize.{ScreenSize}
use Rattle.tw_host.specs.ActionView.{ActionView}
use Rattle.tw_host.specs.HostRules.{HostRules, Resolution, or_default}
use Rattle.tw_host.specs.declared.host.Overrides.{Overrides}
use Rattle.tw_host.specs.ActionView.{Repaint}
use Rattle.tw_session.specs.EditState.{EditState}
use Rattle.tw_session.specs.Refusal.{Refusal, refusal_of}
use Rattle.tw_lineedit.specs.Frame.{Frame}
use Rattle.tw_session.specs.Outcomes.{Outcome, answer_at, TakesMemoryToCopy, is_over}
use Rattle.tw_session.specs.Memory.{TakesMemory}
use Rattle.tw_session.specs.Steps.{apply_if, clears_if}
use Rattle.tw_session.specs.Painting.{Rendering, rendering_of, painted_on, scene_of}
use Rattle.tw_session.specs.DrawSteps.{IsSized}
use Rattle.tw_session.specs.declared.error.Error.{Error}
use Rattle.tw_session.specs.declared.error.Error.TheVariants.{Memory, Terminal}

-- how far a run has come: the state, the host's value and the screen's size, the mark of the painting before, and the
-- batches so far
pub record Progress (V : Type 0) : Type 0 where
  pub state : EditState
  pub value : V
  pub size : ScreenSize
  pub mark : Option Mark
  pub taken : List Batch

-- how a run ends: its answer, how far it had come, and the events left
pub record Ending (V : Type 0) : Type 0 where
  pub answer : Outcome
  pub state : EditState
  pub value : V
  pub size : ScreenSize
  pub mark : Option Mark
  pub taken : List Batch
  pub left : List EventView

-- why a run is stopped: memory was refused, or the terminal refused a call
pub data Cause : Type 0 where
  want : Cause
  fault : Cause

-- where a run stands when it is stopped, and what it was rendering then
pub record Moment (V : Type 0) : Type 0 where
  pub state : EditState
  pub value : V
  pub size : ScreenSize
  pub mark : Option Mark
  pub taken : List Batch
  pub rendering : Option Batch
  pub left : List EventView

module _ {V : Type 0} where
  -- the ending with this answer
  abbrev pub ends : Outcome → List EventView → Progress V → Ending V
  ends answer left s = record { answer = answer; state = s.state; value = s.value; size = s.size; mark = s.mark; taken = s.taken; left = left }

  -- once it is painted
  abbrev pub after_painting : Progress V → Rendering → Progress V
  after_painting s p = record s { mark = Some p.mark; taken = s.taken ++ p.changes ∷ [] }

  -- once an event is taken
  abbrev pub after_taking : Progress V → EventView → Progress V
  after_taking s e = record s { size = size_after e s.size }

  -- the moment at which a run that has come so far is stopped
  abbrev pub moment : Option Batch → List EventView → Progress V → Moment V
  moment rendering left s = record { state = s.state; value = s.value; size = s.size; mark = s.mark; taken = s.taken; rendering = rendering; left = left }

  -- how far an editor has come
  abbrev pub progress_of : Frame V → Progress V
  progress_of f = record { state = f.state; value = f.value; size = f.terminal.size; mark = f.mark; taken = f.terminal.batches }

  -- the ending at which an editor stands
  abbrev pub ending : Outcome → Frame V → Ending V
  ending answer f = ends answer f.terminal.events (progress_of f)

module _ {V : Type 0} (rules : HostRules V) where
  -- the painting that comes next, as it is rendered, or its refusal
  abbrev pub painting_at : Progress V → Result Rendering Refusal
  painting_at s = rendering_of s.mark (painted_on s.size (scene_of rules s.value s.state false))

  -- what the host makes of an event
  abbrev pub resolution_of : Progress V → EventView → Resolution V
  resolution_of s e = rules.resolve s.value e s.state.cut

  -- the event's action: the host's, else the key table's
  abbrev pub chosen_action : Progress V → EventView → Option ActionView
  chosen_action s e = or_default (resolution_of s e).action e

  -- once an event is taken, and the host has answered it
  abbrev pub after_resolution : Progress V → EventView → Progress V
  after_resolution s e = record s { state = record s.state { cut = (resolution_of s e).cut }; value = (resolution_of s e).value; size = size_after e s.size }

  -- the event's action leads to a state
  abbrev pub after_action : Progress V → EventView → EditState → Progress V
  after_action s e state = record (after_resolution s e) { state = state; taken = s.taken ++ clears_if (chosen_action s e) }

  -- the state to which the event's action leads, or its refusal
  abbrev pub state_after : Progress V → EventView → Result EditState Refusal
  state_after s e = apply_if rules (after_resolution s e).value (chosen_action s e) (after_resolution s e).state

  -- where no event is left, by the painting
  abbrev pub at_no_event : Progress V → Result Rendering Refusal → Ending V
  at_no_event s (Err n) = ends (Err n) [] s
  at_no_event s (Ok p) = ends (answer_at s.state) [] (after_painting s p)

  -- where it is painted, and an event leads to a state or is refused; rest is the run from there on
  abbrev pub after_event : EventView → List EventView → Progress V → (Progress V → Ending V) → Result EditState Refusal → Ending V
  after_event e es s rest (Err n) = ends (Err n) es (after_resolution s e)
  after_event e es s rest (Ok state) = rest (after_action s e state)

  -- where an event is left, by the painting
  abbrev pub at_event : EventView → List EventView → Progress V → (Progress V → Ending V) → Result Rendering Refusal → Ending V
  at_event e es s rest (Err n) = ends (Err n) (e ∷ es) s
  at_event e es s rest (Ok p) = cond (is_over s.state.mode)
      (ends (answer_at s.state) (e ∷ es) (after_painting s p))
      (after_event e es (after_painting s p) rest (state_after s e))

  -- Each state is painted, and then the next event leads to the next one.
  abbrev pub run : List EventView → Progress V → Ending V
  run [] s = at_no_event s (painting_at s)
  run (e ∷ es) s = at_event e es s (run es) (painting_at s)

  -- the run that begins at a frame
  abbrev pub run_of : Frame V → Ending V
  run_of f = run f.terminal.events (progress_of f)

module _ {V : Type 0} (rules : HostRules V) where
  -- the moments at which a painting can be refused, by the cause
  pub data CanMiss : Cause → List EventView → Progress V → Moment V → Type 0 where
    -- the size was not told
    unmeasured : {es : List EventView} {s : Progress V} → CanMiss fault es s (moment None es s)
    -- it found no memory; a size that is refused takes none
    unpainted : {es : List EventView} {s : Progress V} → IsSized s.size → CanMiss want es s (moment None es s)
    -- it was not rendered
    half_painted : {es : List EventView} {s : Progress V} {p : Rendering} → painting_at rules s ≡ Ok p → CanMiss fault es s (moment (Some p.changes) es s)

module _ {V : Type 0} (rules : HostRules V) (overrides : Overrides) where
  -- the moments at which an event that is fed can be refused, by the cause
  pub data CanRefuse : Cause → EventView → List EventView → Progress V → Moment V → Type 0 where
    -- a host that answers events for itself refused this one
    unresolved : {e : EventView} {es : List EventView} {s : Progress V} → overrides.resolve_action ≡ true → CanRefuse want e es s (moment None es (after_taking s e))
    -- the action or its making was refused
    unapplied : {e : EventView} {es : List EventView} {s : Progress V} → TakesMemory rules overrides (after_resolution rules s e).value (chosen_action rules s e) (after_resolution rules s e).state → CanRefuse want e es s (moment None es (after_resolution rules s e))
    -- the clearing of the screen was not rendered
    half_cleared : {e : EventView} {es : List EventView} {s : Progress V} → chosen_action rules s e ≡ Some Repaint → CanRefuse fault e es s (moment (Some clear_batch) es (after_resolution rules s e))
    -- the painting after it was refused
    missed : {c : Cause} {e : EventView} {es : List EventView} {s : Progress V} {state : EditState} {m : Moment V} → state_after rules s e ≡ Ok state → CanMiss rules c es (after_action rules s e state) m → CanRefuse c e es s m

  mutual
    -- the moments at which a run can be stopped, by the cause
    pub data CanStop : Cause → List EventView → Progress V → Moment V → Type 0 where
      -- at its painting
      at_painting : {c : Cause} {es : List EventView} {s : Progress V} {m : Moment V} → CanMiss rules c es s m → CanStop c es s m
      -- after it
      behind_painting : {c : Cause} {es : List EventView} {s : Progress V} {p : Rendering} {m : Moment V} → painting_at rules s ≡ Ok p → CanStopOn c es (after_painting s p) m → CanStop c es s m

    -- the moments at which the run from a painting on can be stopped
    pub data CanStopOn : Cause → List EventView → Progress V → Moment V → Type 0 where
      -- no event was told
      unpolled : {es : List EventView} {s : Progress V} → is_over s.state.mode ≡ false → CanStopOn fault es s (moment None es s)
      -- the run ended with a line, and the line was not copied
      uncopied : {es : List EventView} {s : Progress V} → (is_over s.state.mode ≡ true) ⊎ (es ≡ []) → TakesMemoryToCopy (answer_at s.state) → CanStopOn want es s (moment None es s)
      -- at an event, or after it
      taking : {c : Cause} {e : EventView} {es : List EventView} {s : Progress V} {m : Moment V} → is_over s.state.mode ≡ false → CanStopAt c e es s m → CanStopOn c (e ∷ es) s m

    -- the moments at which the run that takes an event can be stopped
    pub data CanStopAt : Cause → EventView → List EventView → Progress V → Moment V → Type 0 where
      -- at the event
      refused : {c : Cause} {e : EventView} {es : List EventView} {s : Progress V} {m : Moment V} → CanRefuse c e es s m → CanStopAt c e es s m
      -- after it
      later : {c : Cause} {e : EventView} {es : List EventView} {s : Progress V} {state : EditState} {m : Moment V} → state_after rules s e ≡ Ok state → CanStop c es (after_action rules s e state) m → CanStopAt c e es s m

  -- the moments at which that run can be stopped
  abbrev pub CanStopFrom : Cause → Frame V → Moment V → Type 0
  CanStopFrom c f m = CanStop c f.terminal.events (progress_of f) m

  -- what was taken where a run is stopped is a beginning of what the run takes
  abbrev pub StoppedRunsBegin : Type 0
  StoppedRunsBegin = (c : Cause) (f : Frame V) (m : Moment V) → CanStopFrom c f m → (rest : List Batch) × ((run_of rules f).taken ≡ m.taken ++ rest)

-- a beginning of what was being rendered, if anything was
abbrev pub IsPartOf : Option Batch → List Batch → Type 0
IsPartOf None part = part ≡ []
IsPartOf (Some batch) part = IsPart batch part

module _ {V : Type 0} where
  -- an editor stands at a moment, a beginning of what was being rendered taken
  pub record StandsAt (m : Moment V) (f : Frame V) : Type 0 where
    pub state : f.state ≡ m.state
    pub value : f.value ≡ m.value
    pub size : f.terminal.size ≡ m.size
    pub mark : f.mark ≡ m.mark
    pub left : f.terminal.events ≡ m.left
    pub part : (part : List Batch) × IsPartOf m.rendering part × (f.terminal.batches ≡ m.taken ++ part)

  -- on the way nothing was flushed and nothing failed
  pub record Quiet (f g : Frame V) : Type 0 where
    pub flushed : g.terminal.flushed ≡ f.terminal.flushed
    pub failures : g.terminal.failures ≡ f.terminal.failures

  -- on the way nothing was flushed and one call failed
  pub record FailsOnce (f g : Frame V) : Type 0 where
    pub flushed : g.terminal.flushed ≡ f.terminal.flushed
    pub failures : g.terminal.failures ≡ count_up f.terminal.failures

  -- What a refusal of a run leaves, before the closing: the run has this ending, and memory and the terminal can stop
  -- it at these moments.
  module _ (run : Ending V) (Starves Faults : Moment V → Type 0) (f : Frame V) where
    abbrev pub IsRefusedIn : Frame V → Error → Type 0
    IsRefusedIn g (Memory e) = ((m : Moment V) × Starves m × (m.rendering ≡ None) × StandsAt m g) × Quiet f g
    IsRefusedIn g (Terminal e) = ((m : Moment V) × Faults m × StandsAt m g) × FailsOnce f g
    IsRefusedIn g e = (run ≡ ending (Err (refusal_of e)) g) × Quiet f g

module _ {V : Type 0} (rules : HostRules V) where
  -- the run from f ends at g with this answer
  pub record IsAnswered (f g : Frame V) (answer : Outcome) : Type 0 where
    pub run : run_of rules f ≡ ending answer g
    pub quiet : Quiet f g
