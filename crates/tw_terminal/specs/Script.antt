-- What contracts see of a `ScriptTerminal`: a terminal whose calls are numbered, and the call that is to fail.
use Rattle.std.specs.Prelude.{ℕ, ◌+◌, ◌==◌, if◌then◌else◌, List, [], ◌∷◌, ◌++◌, length, take, map, Option, Some, None, IsSome, is_some, option_and_then}
use Rattle.std.specs.Global.{Vec}
use Rattle.tw_surface.specs.declared.change.Change.{Change}
use Rattle.tw_surface.specs.ChangeView.{Batch, batch_view}
use Rattle.tw_input.specs.EventView.{EventView}
use Rattle.tw_terminal.specs.TerminalState.{TerminalState, fresh_terminal, size_after, count_up, usize_max}
use Rattle.tw_terminal.specs.declared.terminal.ScreenSize.{ScreenSize}
use Rattle.tw_terminal.specs.declared.script.Fault.{Fault}

-- a script terminal: the terminal that it is, the number of its next call, none after the last, and its fault
pub record Script : Type 0 where
  pub terminal : TerminalState
  pub next_call : Option ℕ
  pub fault : Option Fault

-- a new script terminal: nothing is rendered, no call was made and none is to fail
abbrev pub fresh_script : ScreenSize → List EventView → Script
fresh_script size events = record {
  terminal = fresh_terminal size events;
  next_call = Some 0;
  fault = None;
}

-- how many changes a fault takes at the call of this number, where it is a fault of that call
abbrev pub taken_at : ℕ → Option Fault → Option ℕ
taken_at call None = None
taken_at call (Some fault) = if call == fault.call then Some fault.taken else None

-- how many changes the next call takes before it fails, where it is the one to fail
abbrev pub part_due : Script → Option ℕ
part_due script = option_and_then (λ call. taken_at call script.fault) script.next_call

-- the next call is the one to fail
abbrev pub IsDue : Script → Type 0
IsDue script = IsSome (part_due script)

-- the number after a call's: none after the last
abbrev pub number_after : ℕ → Option ℕ
number_after call = if call == usize_max then None else Some (call + 1)

-- a call is counted
abbrev pub with_call_counted : Script → Script
with_call_counted script = record script { next_call = option_and_then number_after script.next_call }

-- this is done to the terminal, and to nothing else
abbrev pub on_terminal : (TerminalState → TerminalState) → Script → Script
on_terminal effect script = record script { terminal = effect script.terminal }

-- a failure is counted
abbrev pub with_failure_counted : TerminalState → TerminalState
with_failure_counted terminal = record terminal { failures = count_up terminal.failures }

-- a call is counted, and its failure too
abbrev pub after_failure : Script → Script
after_failure script = on_terminal with_failure_counted (with_call_counted script)

-- a call is made: it fails where it is due, and else this is done to the terminal
abbrev pub after_call : (TerminalState → TerminalState) → Script → Script
after_call effect script = if is_some (part_due script) then after_failure script else on_terminal effect (with_call_counted script)

-- the first of these events is taken, if there is one
abbrev pub without_first : List EventView → TerminalState → TerminalState
without_first [] terminal = terminal
without_first (event ∷ rest) terminal = record terminal { events = rest; size = size_after event terminal.size }

-- the first event left is taken, if there is one
abbrev pub after_poll : TerminalState → TerminalState
after_poll terminal = without_first terminal.events terminal

-- all batches are flushed
abbrev pub all_flushed : TerminalState → TerminalState
all_flushed terminal = record terminal { flushed = length terminal.batches }

-- these batches are taken
abbrev pub with_batches : List Batch → TerminalState → TerminalState
with_batches batches terminal = record terminal { batches = terminal.batches ++ batches }

-- changes as one batch, or no batch where there are none
abbrev pub as_batch : Batch → List Batch
as_batch [] = []
as_batch (change ∷ changes) = (change ∷ changes) ∷ []

-- these changes as one batch, or the first of them where a call is to fail that takes so many
abbrev pub taken_with : Batch → Option ℕ → List Batch
taken_with batch None = batch ∷ []
taken_with batch (Some taken) = as_batch (take taken batch)

-- the batches that a `render` takes: its changes as one batch, or where it is due the beginning that it takes before it
-- fails
abbrev pub taken_of : Batch → Script → List Batch
taken_of batch script = taken_with batch (part_due script)

-- a `render` takes its batches, and fails where it is due
abbrev pub after_render : Batch → Script → Script
after_render batch script = after_call (λ terminal. terminal) (on_terminal (with_batches (taken_of batch script)) script)

-- the batches that vectors of changes are
abbrev pub batches_view : List (Vec Change) → List Batch
batches_view batches = map (λ batch. batch_view batch.items) batches
