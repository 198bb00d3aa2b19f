-- A line that is read with a hook, which prepares the host between two events.
use Rattle.std.specs.Prelude.{◌≡◌, ◌≢◌, ◌⊎◌, ◌++◌, ℕ, true, false, Bool, List, [], ◌∷◌, Option, Some, None, Ok, String}
use Rattle.std.specs.declared.alloc.Global.{Global}
use Rattle.tw_surface.specs.ChangeView.{Batch}
use Rattle.tw_input.specs.EventView.{EventView}
use Rattle.tw_lineedit.specs.Above.{PrintsAbove}
use Rattle.tw_lineedit.specs.Cut.{Cut}
use Rattle.tw_lineedit.specs.EditorSteps.{FailsToHandle, GivesUp, Handles, Paints}
use Rattle.tw_lineedit.specs.EditState.{Inactive}
use Rattle.tw_lineedit.specs.Frame.{Frame}
use Rattle.tw_lineedit.specs.HostRules.{HostRules}
use Rattle.tw_lineedit.specs.Lines.{FinishesLine}
use Rattle.tw_lineedit.specs.Outcomes.{is_open, outcome_of}
use Rattle.tw_lineedit.specs.declared.Error.TheVariants.{EndOfFile}
use Rattle.tw_lineedit.specs.declared.Overrides.{Overrides}
use Rattle.tw_device.specs.Live.{IsEmptyEnd, Left, resized_frame}
use Rattle.tw_device.specs.Steps.{Seen, events_in, state_in}
use Rattle.tw_device.specs.declared.hooked.End.{End}
use Rattle.tw_device.specs.declared.hooked.End.TheVariants.{Input, Line, Source}
use Rattle.tw_device.specs.declared.keys.SourceState.{SourceState}
use Rattle.tw_device.specs.declared.keys.SourceState.TheVariants.{AtEnd}
use Rattle.tw_device.specs.declared.reading.Answer.{Answer}
use Rattle.tw_device.specs.declared.reading.Answer.TheVariants.{Line as accepted, Cancelled, End as ended}

-- The rules of a hook: what it may change of a host, whether it refuses or not; how it leaves one for an event to a line
-- with its cursor, and for the painting of such a line; and which texts it prints.
pub record HookRules (H : Type 0) : Type 1 where
  pub changes : H → H → Type 0
  pub is_asked : Cut → EventView → H → Type 0
  pub is_prepared : Cut → H → Type 0
  pub prints : List ℕ → Type 0

-- the answer of a line, by what ended it
abbrev pub answer_for : End → Option (String Global) → Answer
answer_for stop None = Cancelled
answer_for Source (Some line) = ended line
answer_for stop (Some line) = accepted line

module _ {V : Type 0} where
  -- the host's value is another one
  abbrev pub at_value : V → Frame V → Frame V
  at_value value f = record f { value = value }

  -- what a line answers that ended so, and is closed
  abbrev pub ClosesAs : End → Frame V → Frame V → Answer → Type 0
  ClosesAs Input f g answer = IsEmptyEnd answer × (g ≡ f)
  ClosesAs stop f g answer = (line : Option (String Global)) × FinishesLine f g (outcome_of (Ok line)) × (answer ≡ answer_for stop line)

-- a hook makes of a host of the one value a host of the other, of which this holds
abbrev pub Makes : {H V : Type 0} → (H → V) → HookRules H → (H → Type 0) → V → V → Type 0
Makes {H} value hook Is old new = (before after : H) × (value before ≡ old) × (value after ≡ new) × hook.changes before after × Is after

module _ {H V : Type 0} (rules : HostRules V) (value : H → V) (hook : HookRules H) where
  -- the line is painted, or a text above it in one batch with it, which the hook prints
  abbrev pub ShowsTurn : Frame V → Frame V → Type 0
  ShowsTurn f g = Paints rules f g ⊎ ((text : List ℕ) × (text ≢ []) × hook.prints text × PrintsAbove rules text f g)

  -- what is shown of a line once an event is handled: if it goes on, its host is prepared for it first
  abbrev pub ShowsHandled : Bool → Frame V → Frame V → Type 0
  ShowsHandled true f g = (prepared : V) × Makes value hook (hook.is_prepared f.state.cut) f.value prepared × ShowsTurn (at_value prepared f) g
  ShowsHandled false f g = Paints rules f g

  -- The host was asked for the event, which was handled, and what came of it is shown.
  pub record Turns (e : EventView) (f g : Frame V) : Type 0 where
    pub asked : V
    pub asks : Makes value hook (hook.is_asked f.state.cut e) f.value asked
    pub handled : Frame V
    pub handles : Handles rules e (at_value asked f) handled
    pub shows : ShowsHandled (is_open handled.state.mode) handled g

  -- a device told an open line these events, each of which was a turn
  abbrev pub TurnsAll : List EventView → Frame V → Frame V → Type 0
  TurnsAll [] f g = g ≡ f
  TurnsAll (e ∷ events) f g = (h : Frame V) × (is_open f.state.mode ≡ true) × Turns e (resized_frame e f) h × TurnsAll events h g

  -- the host was prepared for a line that begins, and the line is painted
  abbrev pub Starts : Frame V → Frame V → Type 0
  Starts f g = (prepared : V) × Makes value hook (hook.is_prepared f.state.cut) f.value prepared × Paints rules (at_value prepared f) g

  -- the batches that are taken once a painted line has taken these events
  abbrev pub TakesOn : Frame V → List EventView → List Batch → Type 0
  TakesOn f events batches = (g : Frame V) × TurnsAll events f g × (batches ≡ g.terminal.batches)

  -- and once a line that begins has taken them
  abbrev pub TakesOver : Frame V → List EventView → List Batch → Type 0
  TakesOver f events batches = (first : Frame V) × Starts f first × TakesOn first events batches

module _ {H V : Type 0} (rules : HostRules V) (overrides : Overrides) (value : H → V) (hook : HookRules H) where
  -- The host was asked for the event, which asked for the end of the input, and the line is closed.
  pub record EndsInput (e : EventView) (f g : Frame V) : Type 0 where
    pub asked : V
    pub asks : Makes value hook (hook.is_asked f.state.cut e) f.value asked
    pub refused : Frame V
    pub refuses : FailsToHandle rules overrides e (at_value asked f) refused EndOfFile
    pub closes : GivesUp EndOfFile refused g EndOfFile

  -- what an event is to an open line: a turn, after which it is open still, or what ends it
  abbrev pub FeedsAs : EventView → Option End → Frame V → Frame V → Type 0
  FeedsAs e None f g = Turns rules value hook e f g × (is_open g.state.mode ≡ true)
  FeedsAs e (Some Line) f g = Turns rules value hook e f g × (is_open g.state.mode ≡ false) × (g.state.mode ≢ Inactive)
  FeedsAs e (Some Input) f g = EndsInput e f g
  FeedsAs e (Some Source) f g = ⊥

  -- what ended an open line that was told these events
  abbrev pub EndsAfter : End → List EventView → SourceState → Frame V → Frame V → Type 0
  EndsAfter Line events state f g = TurnsAll rules value hook events f g × (is_open g.state.mode ≡ false) × (g.state.mode ≢ Inactive)
  EndsAfter Source events state f g = TurnsAll rules value hook events f g × (is_open g.state.mode ≡ true) × (state ≡ AtEnd)
  EndsAfter Input events state f g = (earlier : List EventView) × (e : EventView) × (events ≡ earlier ++ e ∷ [])
      × (h : Frame V) × TurnsAll rules value hook earlier f h × EndsInput e (resized_frame e h) g

  -- these events were told since, and so an open line ended
  abbrev pub EndsBy : End → Seen → Seen → Frame V → Frame V → Type 0
  EndsBy stop old new f g = (events : List EventView) × (events_in new.log ≡ events_in old.log ++ events) × EndsAfter stop events (state_in new.log) f g

  -- A painted line took exactly the events that were told, each in a turn, and was answered and closed by what ended it.
  pub record TakesLine (old new : Seen) (f g : Frame V) (answer : Answer) : Type 0 where
    pub stop : End
    pub last : Frame V
    pub ends : EndsBy stop old new f last
    pub answers : ClosesAs stop last g answer

  -- a line was begun, and taken
  abbrev pub ReadsHooked : Seen → Seen → Frame V → Frame V → Answer → Type 0
  ReadsHooked old new f g answer = (first : Frame V) × Starts rules value hook f first × TakesLine old new first g answer

  -- so a line was read, and the editor is gone
  abbrev pub IsReadHooked : Seen → Seen → Frame V → V → Answer → Type 0
  IsReadHooked old new f v answer = Left v new.terminal (λ g. ReadsHooked old new f g answer)
