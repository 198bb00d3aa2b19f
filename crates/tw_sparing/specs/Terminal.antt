-- What contracts see of a terminal that waits while more is at hand.
use Rattle.std.specs.Prelude.{Bool, true, false, List, [], ◌∷◌, None}
use Rattle.tw_terminal.specs.TerminalState.{TerminalState}
use Rattle.tw_device.specs.Terminal.{state_at}
use Rattle.tw_sparing.specs.Ahead.{settled_at}
use Rattle.tw_sparing.specs.KnownRuns.{KnownBatch}
use Rattle.tw_sparing.specs.declared.patient.PatientTerminal.{PatientTerminal}

-- whether there is a group
abbrev pub is_some_kept : List KnownBatch → Bool
is_some_kept [] = false
is_some_kept (group ∷ groups) = true

-- its batches are kept back or sent
abbrev pub patient_state : {W : Type 0} → PatientTerminal W → TerminalState
patient_state it = state_at it.ahead.size it.sent

-- whether a batch is kept back
abbrev pub keeps_back : {W : Type 0} → PatientTerminal W → Bool
keeps_back it = is_some_kept it.ahead.kept

-- one whose writer has refused: what is kept back is lost, it is not known what is shown and in which column the cursor
-- stands, and the next batch is sent
abbrev pub lost_at : {W : Type 0} → W → PatientTerminal W → PatientTerminal W
lost_at writer it = record it {
  writer = writer;
  ahead = settled_at it.ahead.size None;
  at_start = false;
  is_more = false;
}
