-- What the parts of an editor do to its frame.
use Rattle.std.specs.Prelude.{◌≡◌, true, ◌++◌, [], length, Option, Some, None, Ok, Err, ◌⊎◌}
use Rattle.tw_surface.specs.ChangeView.{Batch}
use Rattle.tw_surface.specs.Paintings.{Mark, closing}
use Rattle.tw_surface.specs.PaintingBatches.{closing_if, clear_batch}
use Rattle.tw_input.specs.EventView.{EventView}
use Rattle.tw_terminal.specs.TerminalState.{Fails, Takes, Renders, RenderFails, count_up}
use Rattle.tw_host.specs.ActionView.{ActionView, Repaint}
use Rattle.tw_host.specs.HostRules.{HostRules}
use Rattle.tw_host.specs.declared.host.Overrides.{Overrides}
use Rattle.tw_session.specs.EditState.{Inactive}
use Rattle.tw_session.specs.Refusal.{refusal_of}
use Rattle.tw_session.specs.Memory.{TakesMemory}
use Rattle.tw_session.specs.Steps.{apply_if, clears_if}
use Rattle.tw_session.specs.Painting.{Rendering}
use Rattle.tw_lineedit.specs.Frame.{Frame}
use Rattle.tw_lineedit.specs.Run.{progress_of, painting_at, chosen_action, after_resolution}
use Rattle.tw_session.specs.DrawSteps.{IsSized}
use Rattle.tw_session.specs.declared.error.Error.{Error}
use Rattle.tw_session.specs.declared.error.Error.TheVariants.{Memory, Terminal}

module _ {V : Type 0} where
  -- the state, the host and the painting before are the same
  pub record Keeps (f g : Frame V) : Type 0 where
    pub state : g.state ≡ f.state
    pub value : g.value ≡ f.value
    pub mark : g.mark ≡ f.mark

  -- a terminal call was refused, with nothing taken
  abbrev pub CallFails : Frame V → Frame V → Error → Type 0
  CallFails f g (Terminal e) = Keeps f g × Fails f.terminal g.terminal
  CallFails f g _ = ⊥

  -- a batch was rendered, and nothing else changed
  pub record ShowsBatch (b : Batch) (f g : Frame V) : Type 0 where
    pub keeps : Keeps f g
    pub terminal : Renders b f.terminal g.terminal

  -- a batch was not rendered, or only a beginning of it
  abbrev pub FailsToShow : Batch → Frame V → Frame V → Error → Type 0
  FailsToShow b f g (Terminal e) = Keeps f g × RenderFails b f.terminal g.terminal
  FailsToShow b f g _ = ⊥

  -- the first event was taken
  pub record TakesEvent (e : EventView) (f g : Frame V) : Type 0 where
    pub keeps : Keeps f g
    pub terminal : Takes e f.terminal g.terminal

  -- no event is left
  pub record HasNoEvent (f g : Frame V) : Type 0 where
    pub same : g ≡ f
    pub events : f.terminal.events ≡ []

module _ {V : Type 0} (rules : HostRules V) where
  -- an action was applied: the state is that of the step, and a Repaint has cleared the screen
  pub record Applies (a : Option ActionView) (f g : Frame V) : Type 0 where
    pub state : apply_if rules f.value a f.state ≡ Ok g.state
    pub value : g.value ≡ f.value
    pub mark : g.mark ≡ f.mark
    pub terminal : g.terminal ≡ record f.terminal { batches = f.terminal.batches ++ clears_if a }

  -- the painting of f was rendered, and its mark is kept
  pub record Paints (f g : Frame V) : Type 0 where
    pub picture : (p : Rendering) × (painting_at rules (progress_of f) ≡ Ok p) × (g.mark ≡ Some p.mark) × Renders p.changes f.terminal g.terminal
    pub state : g.state ≡ f.state
    pub value : g.value ≡ f.value

  -- f's painting was rendered in part
  abbrev pub PaintsPart : Frame V → Frame V → Type 0
  PaintsPart f g = (p : Rendering) × (painting_at rules (progress_of f) ≡ Ok p) × RenderFails p.changes f.terminal g.terminal

  -- f was not painted: no memory, a fault, or the painting's own refusal
  abbrev pub FailsToPaint : Frame V → Frame V → Error → Type 0
  FailsToPaint f g (Memory e) = (g ≡ f) × IsSized f.terminal.size
  FailsToPaint f g (Terminal e) = Keeps f g × (Fails f.terminal g.terminal ⊎ PaintsPart f g)
  FailsToPaint f g e = (g ≡ f) × (painting_at rules (progress_of f) ≡ Err (refusal_of e))

  -- the host has answered the event
  abbrev pub answered_frame : EventView → Frame V → Frame V
  answered_frame e f = record f { state = (after_resolution rules (progress_of f) e).state; value = (after_resolution rules (progress_of f) e).value }

  -- the host has answered the event, and the action that follows was applied
  abbrev pub Handles : EventView → Frame V → Frame V → Type 0
  Handles e f g = Applies (chosen_action rules (progress_of f) e) (answered_frame e f) g

  -- the event was handled, and what came of it is painted
  abbrev pub HandlesAndPaints : EventView → Frame V → Frame V → Type 0
  HandlesAndPaints e f g = (h : Frame V) × Handles e f h × Paints h g

module _ {V : Type 0} (rules : HostRules V) (overrides : Overrides) where
  -- what a refused action leaves: all is as before, and only a Repaint has called the terminal
  abbrev pub FailsToApply : Option ActionView → Frame V → Frame V → Error → Type 0
  FailsToApply a f g (Memory e) = (g ≡ f) × TakesMemory rules overrides f.value a f.state
  FailsToApply a f g (Terminal e) = (a ≡ Some Repaint) × Keeps f g × RenderFails clear_batch f.terminal g.terminal
  FailsToApply a f g e = (g ≡ f) × (apply_if rules f.value a f.state ≡ Err (refusal_of e))

  -- the event was not handled: a host that answers events for itself refused, or the action was refused
  abbrev pub FailsToHandle : EventView → Frame V → Frame V → Error → Type 0
  FailsToHandle e f g (Memory x) = ((g ≡ f) × (overrides.resolve_action ≡ true)) ⊎ FailsToApply (chosen_action rules (progress_of f) e) (answered_frame rules e f) g (Memory x)
  FailsToHandle e f g (Terminal x) = FailsToApply (chosen_action rules (progress_of f) e) (answered_frame rules e f) g (Terminal x)
  FailsToHandle e f g x = FailsToApply (chosen_action rules (progress_of f) e) (answered_frame rules e f) g x

  -- the event was not handled, or what came of it is not painted
  abbrev pub FailsToHandleOrPaint : EventView → Frame V → Frame V → Error → Type 0
  FailsToHandleOrPaint e f g x = FailsToHandle e f g x ⊎ ((h : Frame V) × Handles rules e f h × FailsToPaint rules h g x)

module _ {V : Type 0} where
  -- the editor is closed: its mode is Inactive, nothing is painted any more, and the closing batch is rendered and
  -- flushed
  pub record Closes (f g : Frame V) : Type 0 where
    pub state : g.state ≡ record f.state { mode = Inactive }
    pub value : g.value ≡ f.value
    pub mark : g.mark ≡ None
    pub terminal : g.terminal ≡ record f.terminal { batches = f.terminal.batches ++ closing_if f.mark; flushed = length (f.terminal.batches ++ closing_if f.mark) }

  -- its closing batch is rendered in part
  pub record CutsClosing (f g : Frame V) : Type 0 where
    pub state : g.state ≡ record f.state { mode = Inactive }
    pub value : g.value ≡ f.value
    pub mark : g.mark ≡ None
    pub terminal : (p : Mark) × (f.mark ≡ Some p) × RenderFails (closing p) f.terminal g.terminal

  -- its closing batch is rendered, and not flushed
  pub record MissesFlush (f g : Frame V) : Type 0 where
    pub state : g.state ≡ record f.state { mode = Inactive }
    pub value : g.value ≡ f.value
    pub mark : g.mark ≡ None
    pub terminal : g.terminal ≡ record f.terminal { batches = f.terminal.batches ++ closing_if f.mark; failures = count_up f.terminal.failures }

  -- the closing was refused
  abbrev pub FailsToClose : Frame V → Frame V → Error → Type 0
  FailsToClose f g (Terminal e) = CutsClosing f g ⊎ MissesFlush f g
  FailsToClose f g _ = ⊥

  -- after a refusal the editor is closed, and the answer is that refusal, or else that of the closing
  abbrev pub GivesUp : Error → Frame V → Frame V → Error → Type 0
  GivesUp refusal f g e = ((e ≡ refusal) × Closes f g) ⊎ FailsToClose f g e

  -- a part was refused so, and the editor is closed after it
  abbrev pub IsClosedAfter : (Frame V → Frame V → Error → Type 0) → Frame V → Frame V → Error → Type 0
  IsClosedAfter Fails f g e = (h : Frame V) × (refusal : Error) × Fails f h refusal × GivesUp refusal h g e
