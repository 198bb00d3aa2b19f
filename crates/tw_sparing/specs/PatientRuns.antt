-- What a reading has written at a terminal that waits while more is at hand.
use Rattle.std.specs.Prelude.{◌≡◌, ◌≢◌, ◌++◌, ℕ, List, [], Option}
use Rattle.std.specs.Io.KnownBytes.{Appends}
use Rattle.tw_surface.specs.ChangeView.{Batch}
use Rattle.tw_terminal.specs.TerminalState.{usize_max}
use Rattle.tw_device.specs.Deeds.{IsDone, deeds_of, sizes_in}
use Rattle.tw_device.specs.Steps.{Step, batches_in, events_in}
use Rattle.tw_sparing.specs.declared.patient.PatientTerminal.{PatientTerminal}
use Rattle.tw_sparing.specs.KnownRuns.{AreKnownSince, KnownBatch, last_known, sent_for_all}
use Rattle.tw_sparing.specs.Ahead.{all_changes, changes_among}
use Rattle.tw_sparing.specs.PatientDeeds.{DoesPatiently}
use Rattle.tw_sparing.specs.Terminal.{patient_state}

module _ {W : Type 0} (contents : W → Option (List ℕ)) where
  -- These batches were taken since. What was written is what was there, and then what is sent for these groups, each
  -- known after the one before it. And what was kept back before and the batches after it are the changes of the groups
  -- and what is kept back now.
  pub record IsSentPatiently (groups : List KnownBatch) (batches : List Batch) (old new : PatientTerminal W) : Type 0 where
    pub taken : (patient_state new).batches ≡ (patient_state old).batches ++ batches
    pub changes : changes_among old.ahead.kept ++ all_changes batches ≡ changes_among groups ++ changes_among new.ahead.kept
    pub known : AreKnownSince old.ahead.size old.ahead.shown old.sent.encoder groups
    pub bytes : Appends (contents old.writer) (contents new.writer) (sent_for_all old.ahead.size.rows old.ahead.shown groups old.sent.encoder).bytes
    pub next : new.sent.encoder ≡ (sent_for_all old.ahead.size.rows old.ahead.shown groups old.sent.encoder).next
    pub shown : new.ahead.shown ≡ last_known old.ahead.shown groups

  -- So it is of the deeds of steps at which no failure was counted, and one could have been, and no event told a size.
  abbrev pub PatientlyDoneIsSent : Type 0
  PatientlyDoneIsSent = (steps : List Step) (old new : PatientTerminal W) → IsDone (DoesPatiently contents) (deeds_of steps) old new
      → new.sent.failures ≡ old.sent.failures → old.sent.failures ≢ usize_max → sizes_in (events_in steps) ≡ []
      → (groups : List KnownBatch) × IsSentPatiently groups (batches_in steps) old new

  -- Where nothing is kept back before it and after it, the groups have the changes of the batches that were taken in
  -- it, and no other.
  abbrev pub SettledIsSent : Type 0
  SettledIsSent = (groups : List KnownBatch) (batches : List Batch) (old new : PatientTerminal W) → IsSentPatiently groups batches old new
      → old.ahead.kept ≡ [] → new.ahead.kept ≡ [] → changes_among groups ≡ all_changes batches
