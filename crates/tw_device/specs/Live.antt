-- A line that is read from a live source.
use Rattle.std.specs.Prelude.{◌≡◌, ◌≢◌, ℕ, [], ◌+◌, ◌++◌, ◌⊎◌, length, Bool, true, false, List, Option, Some, None, Result, Ok, Err, String, string_bytes}
use Rattle.std.specs.declared.alloc.Global.{Global}
use Rattle.tw_surface.specs.ChangeView.{Batch}
use Rattle.tw_input.specs.EventView.{EventView}
use Rattle.tw_terminal.specs.TerminalState.{TerminalState, size_after}
use Rattle.tw_terminal.specs.declared.terminal.TerminalFault.TheVariants.{Device}
use Rattle.tw_lineedit.specs.Frame.{Frame}
use Rattle.tw_lineedit.specs.HostRules.{HostRules}
use Rattle.tw_lineedit.specs.declared.Overrides.{Overrides}
use Rattle.tw_lineedit.specs.Outcomes.{Outcome, is_over}
use Rattle.tw_lineedit.specs.Feeding.{run_on}
use Rattle.tw_lineedit.specs.Reading.{start, Reads, FailsIn, HaltsIn}
use Rattle.tw_lineedit.specs.Refusal.{IsMemory}
use Rattle.tw_lineedit.specs.Run.{Ending, Moment, Cause, want, fault, run, progress_of, CanStop, Quiet, CanStopOn}
use Rattle.tw_lineedit.specs.SessionView.{SessionView, new_state}
use Rattle.tw_lineedit.specs.declared.Error.{Error}
use Rattle.tw_lineedit.specs.declared.Error.TheVariants.{EndOfFile, Terminal}
use Rattle.tw_device.specs.Steps.{Step, state_in, events_in}
use Rattle.tw_device.specs.declared.keys.SourceState.{SourceState}
use Rattle.tw_device.specs.declared.keys.SourceState.TheVariants.{AtEnd, Refused}
use Rattle.tw_device.specs.declared.reading.Answer.{Answer}
use Rattle.tw_device.specs.declared.reading.Answer.TheVariants.{Line, Cancelled, End}
use Rattle.tw_device.specs.declared.reading.Stop.{Stop}
use Rattle.tw_device.specs.declared.reading.Stop.TheVariants.{Ended, SourceEnd as source_end, SourceFault as source_fault, Endless}

-- the outcome that an answer is
abbrev pub outcome_in : Answer → Outcome
outcome_in (Line line) = Ok (Some (string_bytes line))
outcome_in Cancelled = Ok None
outcome_in (End line) = Ok (Some (string_bytes line))

-- whether an event ended the line
abbrev pub was_ended : Answer → Bool
was_ended (End line) = false
was_ended _ = true

-- the input ended before anything was typed
abbrev pub IsEmptyEnd : Answer → Type 0
IsEmptyEnd (End line) = string_bytes line ≡ []
IsEmptyEnd _ = ⊥

-- these are all the events that one call can be told
abbrev pub IsEndless : List EventView → List EventView → Type 0
IsEndless old new = length new ≡ length old + 18446744073709551615

-- why no more events are fed: by whether the line is open, what the source answered last, and what it told
abbrev pub StopsFeeding : Stop → Bool → SourceState → List EventView → List EventView → Type 0
StopsFeeding Ended is_open state old new = is_open ≡ false
StopsFeeding source_end is_open state old new = (is_open ≡ true) × (state ≡ AtEnd)
StopsFeeding (source_fault why) is_open state old new = (is_open ≡ true) × (state ≡ Refused why)
StopsFeeding Endless is_open state old new = (is_open ≡ true) × IsEndless old new

-- why no more events are fed after one was asked for, if so
abbrev pub StopsOn : Option Stop → Bool → List Step → List Step → Type 0
StopsOn None is_open old new = (is_open ≡ true) × (length (events_in new) ≡ length (events_in old) + 1)
StopsOn (Some Endless) is_open old new = ⊥
StopsOn (Some stop) is_open old new = StopsFeeding stop is_open (state_in new) [] []

-- the answer of a fed line, by why feeding stopped
abbrev pub answer_from : Option (String Global) → Stop → Result Answer Error
answer_from line (source_fault why) = Err (Terminal why)
answer_from line Endless = Err (Terminal Device)
answer_from None Ended = Ok Cancelled
answer_from None source_end = Ok Cancelled
answer_from (Some line) Ended = Ok (Line line)
answer_from (Some line) source_end = Ok (End line)

-- a refusal that is the source's, or that of its length
abbrev pub IsCutShort : List EventView → List EventView → SourceState → Error → Type 0
IsCutShort old new state (Terminal why) = (state ≡ Refused why) ⊎ ((why ≡ Device) × IsEndless old new)
IsCutShort old new state _ = ⊥

module _ {V : Type 0} where
  -- an editor's parts
  abbrev pub frame_of : SessionView → V → TerminalState → Frame V
  frame_of s v t = record { state = s.state; value = v; mark = s.mark; terminal = t }

  -- where a new editor of this prompt begins a line
  abbrev pub fresh_frame : List ℕ → V → TerminalState → Frame V
  fresh_frame prompt v t = start None (record { state = record new_state { prompt = prompt }; value = v; mark = None; terminal = t })

  -- The editor is gone: P holds of some state and some mark.
  abbrev pub Left : V → TerminalState → (Frame V → Type 0) → Type 0
  Left v t P = (s : SessionView) × P (frame_of s v t)

  -- the terminal has the size that an event tells
  abbrev pub resized_frame : EventView → Frame V → Frame V
  resized_frame e f = record f { terminal = record f.terminal { size = size_after e f.terminal.size } }

module _ {V : Type 0} (rules : HostRules V) where
  -- the abstract editor's run from f over these events
  abbrev pub run_over : List EventView → Frame V → Ending V
  run_over events f = run rules events (progress_of f)

  -- the batches that are taken by the run from f over these events
  abbrev pub taken_over : Frame V → List EventView → List Batch
  taken_over f events = (run_over events f).taken

  -- and by the run from a painting of f on
  abbrev pub taken_on : Frame V → List EventView → List Batch
  taken_on f events = (run_on rules events (progress_of f)).taken

  -- The events that were told, and no other, are those of the run: its answer, its batches with the closing one, all
  -- flushed, its size and the host's value are what is there; and whether an event ended it.
  abbrev pub ReadsTold : List EventView → List EventView → Frame V → Frame V → Outcome → Bool → Type 0
  ReadsTold old new f g answer ended = (events : List EventView) × (new ≡ old ++ events)
      × (ended ≡ is_over (run_over events f).state.mode)
      × Reads (run_over events f) f g answer

  -- A line was read over exactly the events that were told. No event ended it only where the source had no more.
  abbrev pub IsRead : List EventView → List EventView → SourceState → Frame V → V → TerminalState → Answer → Type 0
  IsRead old new state f v t answer = Left v t (λ g. ReadsTold old new f g (outcome_in answer) (was_ended answer))
      × (was_ended answer ≡ false → state ≡ AtEnd)

module _ {V : Type 0} (rules : HostRules V) (overrides : Overrides) where
  -- A line that begins at f is painted at g, where it waits for events.
  pub record Opens (f g : Frame V) : Type 0 where
    pub run : (later : List EventView) → run rules later (progress_of f) ≡ run_on rules later (progress_of g)
    pub stops : (c : Cause) (later : List EventView) (m : Moment V) → CanStopOn rules overrides c later (progress_of g) m → CanStop rules overrides c later (progress_of f) m
    pub quiet : Quiet f g
    pub left : g.terminal.events ≡ f.terminal.events

  -- An open line at f has taken these events, and waits at g.
  pub record WaitsAfter (events : List EventView) (f g : Frame V) : Type 0 where
    pub run : (later : List EventView) → run_on rules (events ++ later) (progress_of f) ≡ run_on rules later (progress_of g)
    pub stops : (c : Cause) (later : List EventView) (m : Moment V) → CanStopOn rules overrides c later (progress_of g) m → CanStopOn rules overrides c (events ++ later) (progress_of f) m
    pub quiet : Quiet f g
    pub left : g.terminal.events ≡ f.terminal.events

  -- these events were told, and an open line has come to g
  abbrev pub ComesBy : List EventView → List EventView → Frame V → Frame V → Type 0
  ComesBy old new f g = (events : List EventView) × (new ≡ old ++ events) × WaitsAfter events f g

  -- what a refusal of the run over these events leaves, once it is closed
  abbrev pub FailsOver : List EventView → Frame V → Frame V → Error → Type 0
  FailsOver events f g e = FailsIn (run_over rules events f) (CanStop rules overrides want events (progress_of f)) (CanStop rules overrides fault events (progress_of f))
      (HaltsIn (run_over rules events f) (CanStop rules overrides want events (progress_of f))) f g e

  -- what a refusal leaves of an open line at f that has taken these events
  abbrev pub FailsFrom : List EventView → Frame V → Frame V → Error → Type 0
  FailsFrom events f g e = FailsIn (run_on rules events (progress_of f)) (CanStopOn rules overrides want events (progress_of f)) (CanStopOn rules overrides fault events (progress_of f))
      (HaltsIn (run_on rules events (progress_of f)) (CanStopOn rules overrides want events (progress_of f))) f g e

  -- these events were told, and an open line at f was refused
  abbrev pub FailsBy : List EventView → List EventView → Frame V → Frame V → Error → Type 0
  FailsBy old new f g e = (events : List EventView) × (new ≡ old ++ events) × FailsFrom events f g e

  -- what a refusal of the run over the events that were told leaves
  abbrev pub FailsTold : List EventView → List EventView → Frame V → Frame V → Error → Type 0
  FailsTold old new f g e = (events : List EventView) × (new ≡ old ++ events) × FailsOver events f g e

  -- What a refusal leaves: that of the run over the events that were told; or the source refused, and the line that no
  -- event had ended is closed; or the prompt was not copied, and nothing was done.
  abbrev pub FailsToReadTold : List EventView → List EventView → SourceState → Frame V → V → TerminalState → Error → Type 0
  FailsToReadTold old new state f v t e = Left v t (λ g. FailsTold old new f g e)
      ⊎ ((IsCutShort old new state e × Left v t (λ g. (answer : Outcome) × ReadsTold rules old new f g answer false))
      ⊎ (IsMemory e × (new ≡ old) × (v ≡ f.value) × (t ≡ f.terminal)))

  -- What an answer says: a line was read; or the action EndOfFile ended the input, with an empty line.
  abbrev pub IsToldAnswer : List EventView → List EventView → SourceState → Frame V → V → TerminalState → Answer → Type 0
  IsToldAnswer old new state f v t answer = IsRead rules old new state f v t answer
      ⊎ (IsEmptyEnd answer × FailsToReadTold old new state f v t EndOfFile)

  -- what a refusal leaves that is not the end of the input
  abbrev pub IsRefusedTold : List EventView → List EventView → SourceState → Frame V → V → TerminalState → Error → Type 0
  IsRefusedTold old new state f v t e = (e ≢ EndOfFile) × FailsToReadTold old new state f v t e
