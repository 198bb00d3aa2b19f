-- What contracts see of a terminal over a writer.
use Rattle.std.specs.Prelude.{[], length}
use Rattle.tw_terminal.specs.TerminalState.{TerminalState}
use Rattle.tw_terminal.specs.declared.terminal.ScreenSize.{ScreenSize}
use Rattle.tw_device.specs.declared.batch_record.BatchRecord.{BatchRecord}
use Rattle.tw_device.specs.declared.terminal.AnsiTerminal.{AnsiTerminal}

-- a terminal of this size that was sent this: no event is left, and the batches are those of its log
abbrev pub state_at : ScreenSize → BatchRecord → TerminalState
state_at size it = record {
  size = size;
  events = [];
  batches = it.batches;
  flushed = length it.flushed.value;
  failures = it.failures;
}

-- a terminal over a writer
abbrev pub terminal_state : {W : Type 0} → AnsiTerminal W → TerminalState
terminal_state it = state_at it.size it.sent
