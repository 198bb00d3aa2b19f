-- A line that is fed its events, one after another.
use Rattle.std.specs.Prelude.{◌≡◌, ◌≢◌, ℕ, ◌<◌, ◌∷◌, [], ◌⊎◌, cond, Bool, true, false, length, List, Option, None, IsSome, Result, Ok, Err}
use Rattle.tw_input.specs.EventView.{EventView}
use Rattle.tw_host.specs.HostRules.{HostRules}
use Rattle.tw_host.specs.declared.host.Overrides.{Overrides}
use Rattle.tw_session.specs.EditState.{Inactive}
use Rattle.tw_session.specs.Painting.{Rendering}
use Rattle.tw_session.specs.Refusal.{Refusal}
use Rattle.tw_session.specs.declared.error.Error.{Error}
use Rattle.tw_session.specs.Outcomes.{Outcome, answer_at, TakesMemoryToCopy, is_over}
use Rattle.tw_lineedit.specs.Frame.{Frame}
use Rattle.tw_lineedit.specs.Run.{Progress, Ending, Moment, Cause, want, fault, ends, ending, after_painting, moment, progress_of, painting_at, state_after, after_event, run, CanMiss, CanRefuse, CanStop, CanStopOn, CanStopAt, Quiet, IsRefusedIn}
use Rattle.tw_lineedit.specs.EditorSteps.{Paints, HandlesAndPaints}
use Rattle.tw_lineedit.specs.Reading.{start, unbegun, FailsIn, HaltsIn, HaltsRefused}
use Rattle.tw_lineedit.specs.declared.editor.feeding.LineStatus.{LineStatus}
use Rattle.tw_lineedit.specs.declared.editor.feeding.LineStatus.TheVariants.{Open, Ended}

-- whether a line takes more events
abbrev pub status_if : Bool → LineStatus
status_if true = Open
status_if false = Ended

-- the ending after a painting, or its refusal; no event is taken
abbrev pub paint_end : {V : Type 0} → List EventView → Progress V → Result Rendering Refusal → Ending V
paint_end es s (Err n) = ends (Err n) es s
paint_end es s (Ok p) = ends (answer_at s.state) es (after_painting s p)

module _ {V : Type 0} (rules : HostRules V) where
  -- the run that paints, and takes no event
  abbrev pub painted_run : List EventView → Progress V → Ending V
  painted_run es s = paint_end es s (painting_at rules s)

  -- the run from a painting on that takes one event; the others are left
  abbrev pub fed_run : EventView → List EventView → Progress V → Ending V
  fed_run e es s = after_event rules e es s (painted_run es) (state_after rules s e)

  -- the run from a painting on, over the events after it
  abbrev pub run_on : List EventView → Progress V → Ending V
  run_on [] s = ends (answer_at s.state) [] s
  run_on (e ∷ es) s = cond (is_over s.state.mode)
      (ends (answer_at s.state) (e ∷ es) s)
      (after_event rules e es s (run rules es) (state_after rules s e))

  -- A line that begins at f with an initial value.
  module _ (initial : Option (List ℕ)) (f : Frame V) where
    -- the run that paints it
    abbrev pub begun_run : Ending V
    begun_run = painted_run f.terminal.events (progress_of (start initial f))

    -- where memory can be refused
    abbrev pub WantsToBegin : Moment V → Type 0
    WantsToBegin m = CanMiss rules want f.terminal.events (progress_of (start initial f)) m ⊎ (IsSome initial × (m ≡ unbegun f))

    -- where the terminal can refuse a call before the closing
    abbrev pub FaultsToBegin : Moment V → Type 0
    FaultsToBegin m = CanMiss rules fault f.terminal.events (progress_of (start initial f)) m

    -- what a refused beginning leaves, before the closing
    abbrev pub IsNotBegun : Frame V → Error → Type 0
    IsNotBegun g e = IsRefusedIn begun_run WantsToBegin FaultsToBegin f g e

    -- what a refused beginning leaves, once the line is closed
    abbrev pub FailsToBegin : Frame V → Error → Type 0
    FailsToBegin g e = FailsIn begun_run WantsToBegin FaultsToBegin (HaltsRefused begun_run WantsToBegin) f g e

  -- the run that takes an event that is fed; those that are left at the terminal come after it
  abbrev pub event_run : EventView → Frame V → Ending V
  event_run e f = fed_run e f.terminal.events (progress_of f)

  -- the run from a painting of f ends at g with this answer
  pub record IsAnsweredOn (f g : Frame V) (answer : Outcome) : Type 0 where
    pub run : run_on f.terminal.events (progress_of f) ≡ ending answer g
    pub quiet : Quiet f g

module _ {V : Type 0} (rules : HostRules V) (overrides : Overrides) where
  -- the run from f over these events, before its first painting, goes on from g as one that is painted
  pub record Begins (f g : Frame V) : Type 0 where
    pub paints : Paints rules f g
    pub run : (es : List EventView) → run rules es (progress_of f) ≡ run_on rules es (progress_of g)
    pub stops : (c : Cause) (es : List EventView) (m : Moment V) → CanStopOn rules overrides c es (progress_of g) m → CanStop rules overrides c es (progress_of f) m
    pub quiet : Quiet f g
    pub left : g.terminal.events ≡ f.terminal.events

  -- The event was handled and painted: whatever comes later, the run over it and what comes later goes on from g over
  -- what comes later.
  pub record IsFed (e : EventView) (f g : Frame V) : Type 0 where
    pub advances : HandlesAndPaints rules e f g
    pub run : (es : List EventView) → run_on rules (e ∷ es) (progress_of f) ≡ run_on rules es (progress_of g)
    pub stops : (c : Cause) (es : List EventView) (m : Moment V) → CanStopOn rules overrides c es (progress_of g) m → CanStopAt rules overrides c e es (progress_of f) m
    pub begun : g.state.mode ≢ Inactive
    pub quiet : Quiet f g
    pub left : g.terminal.events ≡ f.terminal.events

  -- what a refusal of the run over these events leaves, before the closing
  abbrev pub IsRefusedOn : List EventView → Frame V → Frame V → Error → Type 0
  IsRefusedOn es f g e = IsRefusedIn (run_on rules es (progress_of f)) (CanStopOn rules overrides want es (progress_of f)) (CanStopOn rules overrides fault es (progress_of f)) f g e

  -- An event that is fed to a line at f; those that are left at the terminal come after it.
  module _ (e : EventView) (f : Frame V) where
    -- where memory can be refused
    abbrev pub WantsToFeed : Moment V → Type 0
    WantsToFeed m = CanRefuse rules overrides want e f.terminal.events (progress_of f) m

    -- where the terminal can refuse a call before the closing
    abbrev pub FaultsToFeed : Moment V → Type 0
    FaultsToFeed m = CanRefuse rules overrides fault e f.terminal.events (progress_of f) m

    -- what a refused event leaves, once the line is closed
    abbrev pub FailsToFeed : Frame V → Error → Type 0
    FailsToFeed g x = FailsIn (event_run rules e f) WantsToFeed FaultsToFeed (HaltsRefused (event_run rules e f) WantsToFeed) f g x

  -- the run from a painting of f leads to one of g: it goes on from g as it does from f
  pub record Follows (f g : Frame V) : Type 0 where
    pub run : run_on rules f.terminal.events (progress_of f) ≡ run_on rules g.terminal.events (progress_of g)
    pub stops : (c : Cause) (m : Moment V) → CanStopOn rules overrides c g.terminal.events (progress_of g) m → CanStopOn rules overrides c f.terminal.events (progress_of f) m
    pub quiet : Quiet f g

  pub record Continues (f g : Frame V) : Type 0 where
    pub follows : Follows f g
    pub fewer : length g.terminal.events < length f.terminal.events

  -- the run from a painting of f ends at g without refusal
  pub record IsEnded (f g : Frame V) : Type 0 where
    pub run : run_on rules f.terminal.events (progress_of f) ≡ ending (answer_at g.state) g
    pub stops : TakesMemoryToCopy (answer_at g.state) → CanStopOn rules overrides want f.terminal.events (progress_of f) (moment None g.terminal.events (progress_of g))
    pub quiet : Quiet f g

module _ {V : Type 0} where
  -- where the copy of the line finds no memory
  abbrev pub Uncopied : Frame V → Moment V → Type 0
  Uncopied f m = TakesMemoryToCopy (answer_at f.state) × (m ≡ moment None f.terminal.events (progress_of f))

  -- what a refused answer leaves, once it is closed
  abbrev pub FailsToFinish : Frame V → Frame V → Error → Type 0
  FailsToFinish f g e = FailsIn (ending (answer_at f.state) f) (Uncopied f) (λ m. ⊥) (HaltsIn (ending (answer_at f.state) f) (Uncopied f)) f g e
