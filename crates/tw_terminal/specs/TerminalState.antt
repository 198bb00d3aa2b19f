-- What contracts see of a terminal, and what its calls do to it.
use Rattle.std.specs.Prelude.{◌≡◌, ℕ, ◌+◌, ◌==◌, if◌then◌else◌, List, [], ◌∷◌, ◌++◌, length, take, ◌⊎◌}
use Rattle.tw_surface.specs.ChangeView.{Batch}
use Rattle.tw_input.specs.EventView.{EventView, Key, Resized, Paste, Wake}
use Rattle.tw_terminal.specs.declared.terminal.ScreenSize.{ScreenSize}

-- a terminal: its size, the events left, the batches taken, how many of them are flushed, and the count of failures
pub record TerminalState : Type 0 where
  pub size : ScreenSize
  pub events : List EventView
  pub batches : List Batch
  pub flushed : ℕ
  pub failures : ℕ

-- a new terminal: nothing is rendered, and no call has failed
abbrev pub fresh_terminal : ScreenSize → List EventView → TerminalState
fresh_terminal size events = record { size = size; events = events; batches = []; flushed = 0; failures = 0 }

-- the greatest number of a `usize`
abbrev pub usize_max : ℕ
usize_max = 18446744073709551615

-- one more failure, or as many where no more can be counted
abbrev pub count_up : ℕ → ℕ
count_up failures = if failures == usize_max then failures else failures + 1

-- a refused call changes the count alone
abbrev pub Fails : TerminalState → TerminalState → Type 0
Fails old new = new ≡ record old { failures = count_up old.failures }

-- the size once an event is taken
abbrev pub size_after : EventView → ScreenSize → ScreenSize
size_after (Key key) size = size
size_after (Resized cols rows) size = record { rows = rows; cols = cols }
size_after (Paste text) size = size
size_after Wake size = size

-- the first event left is taken
pub record Takes (event : EventView) (old new : TerminalState) : Type 0 where
  pub events : old.events ≡ event ∷ new.events
  pub rest : new ≡ record old { events = new.events; size = size_after event old.size }

-- no event is left
pub record IsAtEnd (old new : TerminalState) : Type 0 where
  pub events : old.events ≡ []
  pub rest : new ≡ old

-- the batch is taken
abbrev pub Renders : Batch → TerminalState → TerminalState → Type 0
Renders batch old new = new ≡ record old { batches = old.batches ++ batch ∷ [] }

-- nothing, or a beginning of the batch as one batch
abbrev pub IsPart : Batch → List Batch → Type 0
IsPart batch part = (part ≡ []) ⊎ ((n : ℕ) × (part ≡ take n batch ∷ []))

-- the batch is refused, and at most a beginning of it is taken
pub record RenderFails (batch : Batch) (old new : TerminalState) : Type 0 where
  pub part : (part : List Batch) × IsPart batch part × (new.batches ≡ old.batches ++ part)
  pub rest : new ≡ record old { batches = new.batches; failures = count_up old.failures }

-- all batches are flushed
abbrev pub Flushes : TerminalState → TerminalState → Type 0
Flushes old new = new ≡ record old { flushed = length old.batches }
