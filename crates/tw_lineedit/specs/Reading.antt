-- What a call of read_line leaves.
use Rattle.std.specs.Prelude.{◌≡◌, ℕ, ◌<◌, ◌++◌, length, List, Option, Some, None, Result, Err, IsSome, ◌⊎◌, option_map}
use Rattle.std.specs.Borrow.{Bor}
use Rattle.tw_surface.specs.ChangeView.{Batch}
use Rattle.tw_surface.specs.Paintings.{Mark, closing}
use Rattle.tw_surface.specs.PaintingBatches.{closing_if}
use Rattle.tw_terminal.specs.TerminalState.{count_up, IsPart}
use Rattle.tw_host.specs.HostRules.{HostRules}
use Rattle.tw_host.specs.declared.host.Overrides.{Overrides}
use Rattle.tw_session.specs.EditState.{Inactive}
use Rattle.tw_session.specs.SessionView.{initial_cut, begun_state}
use Rattle.tw_session.specs.Refusal.{refusal_of}
use Rattle.tw_session.specs.Outcomes.{Outcome, IsRefusal}
use Rattle.tw_lineedit.specs.Frame.{Frame}
use Rattle.tw_lineedit.specs.Run.{Ending, Moment, want, fault, progress_of, moment, run_of, CanStopFrom, IsPartOf, IsRefusedIn}
use Rattle.tw_session.specs.declared.error.Error.{Error}
use Rattle.tw_session.specs.declared.error.Error.TheVariants.{Memory, Terminal}

-- the text of an initial value, if there is one
abbrev pub initial_text : Option (Bor (List ℕ)) → Option (List ℕ)
initial_text initial = option_map (λ s. s.now) initial

module _ {V : Type 0} where
  -- where a call with an initial value begins
  abbrev pub start : Option (List ℕ) → Frame V → Frame V
  start initial f = record f { state = begun_state (initial_cut initial) f.state; mark = None }

  -- where a call stands whose initial value found no memory
  abbrev pub unbegun : Frame V → Moment V
  unbegun f = moment None f.terminal.events (progress_of (start None f))

  -- where a run ends
  abbrev pub final_moment : Ending V → Moment V
  final_moment r = record { state = r.state; value = r.value; size = r.size; mark = r.mark; taken = r.taken; rendering = None; left = r.left }

  -- A run that nothing stopped: all its batches and the closing one are taken and flushed.
  pub record Reads (run : Ending V) (f g : Frame V) (answer : Outcome) : Type 0 where
    pub answer_is : answer ≡ run.answer
    pub batches : g.terminal.batches ≡ run.taken ++ closing_if run.mark
    pub left : g.terminal.events ≡ run.left
    pub size : g.terminal.size ≡ run.size
    pub state : g.state ≡ record run.state { mode = Inactive }
    pub value : g.value ≡ run.value
    pub mark : g.mark ≡ None
    pub flushed : g.terminal.flushed ≡ length g.terminal.batches
    pub failures : g.terminal.failures ≡ f.terminal.failures

  -- After a moment: what was being rendered is taken in part, and then these batches.
  pub record Leaves (m : Moment V) (end : List Batch) (g : Frame V) : Type 0 where
    pub batches : (part : List Batch) × IsPartOf m.rendering part × (g.terminal.batches ≡ (m.taken ++ part) ++ end)
    pub left : g.terminal.events ≡ m.left
    pub size : g.terminal.size ≡ m.size
    pub state : g.state ≡ record m.state { mode = Inactive }
    pub value : g.value ≡ m.value
    pub mark : g.mark ≡ None

  -- the closing batch is whole, and all is flushed
  pub record ClosesWhole (m : Moment V) (g : Frame V) : Type 0 where
    pub leaves : Leaves m (closing_if m.mark) g
    pub flushed : g.terminal.flushed ≡ length g.terminal.batches

  -- the closing batch was refused: a beginning of it is taken, and nothing is flushed
  pub record ClosesInPart (m : Moment V) (f g : Frame V) : Type 0 where
    pub leaves : (p : Mark) × (end : List Batch) × (m.mark ≡ Some p) × IsPart (closing p) end × Leaves m end g
    pub flushed : g.terminal.flushed ≡ f.terminal.flushed

  -- the closing batch is whole, but the flush was refused
  pub record ClosesUnflushed (m : Moment V) (f g : Frame V) : Type 0 where
    pub leaves : Leaves m (closing_if m.mark) g
    pub flushed : g.terminal.flushed ≡ f.terminal.flushed

  -- the closing was refused
  abbrev pub ClosesBadly : Moment V → Frame V → Frame V → Type 0
  ClosesBadly m f g = ClosesInPart m f g ⊎ ClosesUnflushed m f g

-- where no call of the terminal was refused before the closing, in a run with this ending that memory can stop at these
-- moments
abbrev pub HaltsIn : {V : Type 0} → Ending V → (Moment V → Type 0) → Moment V → Type 0
HaltsIn run Starves m = (m ≡ final_moment run) ⊎ (Starves m × (m.rendering ≡ None))

-- the same, where nothing but a refusal ends the run
abbrev pub HaltsRefused : {V : Type 0} → Ending V → (Moment V → Type 0) → Moment V → Type 0
HaltsRefused run Starves m = (IsRefusal run.answer × (m ≡ final_moment run)) ⊎ (Starves m × (m.rendering ≡ None))

-- A run from f with this ending, which memory and the terminal can stop at these moments; at the last ones no call of
-- the terminal was refused before the closing.
module _ {V : Type 0} (run : Ending V) (Starves Faults Halts : Moment V → Type 0) (f : Frame V) where
  -- what a refusal of the run leaves, once it is closed
  abbrev pub FailsIn : Frame V → Error → Type 0
  FailsIn g (Memory e) = (m : Moment V) × Starves m × (m.rendering ≡ None) × ClosesWhole m g
      × (g.terminal.failures ≡ f.terminal.failures)
  FailsIn g (Terminal e) = (m : Moment V) × (
      (Faults m × ClosesWhole m g × (g.terminal.failures ≡ count_up f.terminal.failures))
      ⊎ ((Faults m × ClosesBadly m f g × (g.terminal.failures ≡ count_up (count_up f.terminal.failures)))
      ⊎ (Halts m × ClosesBadly m f g × (g.terminal.failures ≡ count_up f.terminal.failures))))
  FailsIn g e = Reads run f g (Err (refusal_of e))

-- A call on f with an initial value.
module _ {V : Type 0} (rules : HostRules V) (overrides : Overrides) (initial : Option (List ℕ)) (f : Frame V) where
  -- where memory can be refused
  abbrev pub Starves : Moment V → Type 0
  Starves m = CanStopFrom rules overrides want (start initial f) m ⊎ (IsSome initial × (m ≡ unbegun f))

  -- where the terminal can refuse a call before the closing
  abbrev pub Faults : Moment V → Type 0
  Faults m = CanStopFrom rules overrides fault (start initial f) m

  -- where no call of the terminal was refused before the closing
  abbrev pub Halts : Moment V → Type 0
  Halts m = HaltsIn (run_of rules (start initial f)) Starves m

  -- what a refused call leaves
  abbrev pub FailsToRead : Frame V → Error → Type 0
  FailsToRead g e = FailsIn (run_of rules (start initial f)) Starves Faults Halts f g e

  -- what a refusal leaves, before the closing
  abbrev pub IsTurnedDown : Frame V → Error → Type 0
  IsTurnedDown g e = IsRefusedIn (run_of rules (start initial f)) Starves Faults f g e

-- A terminal fault is answered where the count of failures rose or could not rise, and else the count is as it was.
abbrev pub FailuresTell : {A : Type 0} → Result A Error → ℕ → ℕ → Type 0
FailuresTell (Err (Terminal e)) old new = (old < new) ⊎ (old ≡ 18446744073709551615)
FailuresTell _ old new = new ≡ old
