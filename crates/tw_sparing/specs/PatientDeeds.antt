-- What is done to a terminal that waits while more is at hand, deed by deed.
use Rattle.std.specs.Prelude.{◌≡◌, ℕ, Bool, true, false, ◌⊎◌, List, [], ◌∷◌, Option, None}
use Rattle.std.specs.Io.KnownBytes.{Appends}
use Rattle.tw_surface.specs.ChangeView.{Batch}
use Rattle.tw_terminal.specs.TerminalState.{Fails, Flushes, Renders}
use Rattle.tw_terminal.specs.Uses.{Took, Refused, Other}
use Rattle.tw_terminal.specs.declared.terminal.ScreenSize.{ScreenSize}
use Rattle.tw_ansi.specs.Encoding.{sent_then}
use Rattle.tw_device.specs.Deeds.{Deed, Called, Sized, Said, sent_deed}
use Rattle.tw_sparing.specs.declared.patient.PatientTerminal.{PatientTerminal}
use Rattle.tw_sparing.specs.declared.shown.Shown.{Shown}
use Rattle.tw_sparing.specs.Shown.{IsKnownAfter}
use Rattle.tw_sparing.specs.KnownRuns.{AreKnownSince, KnownBatch, last_known, sent_for_all}
use Rattle.tw_sparing.specs.Ahead.{IsJoined, groups_with, joined_group, latest_known, sent_ahead, settled_at}
use Rattle.tw_sparing.specs.Terminal.{patient_state}

module _ {W : Type 0} (contents : W → Option (List ℕ)) where
  -- More is at hand, and a batch is kept back: nothing is written. What is drawn then is known after the latest picture
  -- by this batch, and after what is shown by all that is kept back.
  pub record KeepsBack (batch : Batch) (old new : PatientTerminal W) : Type 0 where
    pub more : old.is_more ≡ true
    pub writer : new.writer ≡ old.writer
    pub encoder : new.sent.encoder ≡ old.sent.encoder
    pub known : IsKnownAfter old.ahead.size.cols old.ahead.size.rows batch (latest_known old.ahead) (latest_known new.ahead)
    pub joined : IsJoined batch old.ahead (latest_known new.ahead)
    pub ahead : new.ahead ≡ record old.ahead { kept = joined_group batch old.ahead (latest_known new.ahead) (latest_known new.ahead) ∷ [] }

  -- Groups are sent, each known after the one before, and nothing is kept back any more.
  pub record SendsGroups (groups : List KnownBatch) (old new : PatientTerminal W) : Type 0 where
    pub known : AreKnownSince old.ahead.size old.ahead.shown old.sent.encoder groups
    pub bytes : Appends (contents old.writer) (contents new.writer) (sent_for_all old.ahead.size.rows old.ahead.shown groups old.sent.encoder).bytes
    pub encoder : new.sent.encoder ≡ (sent_for_all old.ahead.size.rows old.ahead.shown groups old.sent.encoder).next
    pub ahead : new.ahead ≡ settled_at old.ahead.size (last_known old.ahead.shown groups)

  -- A batch is sent: in one group with what was kept back, or after it. No more is at hand, or no difference takes all
  -- of it.
  pub record SendsBatch (batch : Batch) (old new : PatientTerminal W) : Type 0 where
    pub drawn : Option Shown
    pub due : old.is_more ≡ true → IsJoined batch old.ahead drawn → ⊥
    pub is_joined : Bool
    pub sends : SendsGroups (groups_with is_joined batch old.ahead drawn new.ahead.shown) old new

  -- a batch is kept back, or it is sent
  abbrev pub IsTakenPatiently : Batch → PatientTerminal W → PatientTerminal W → Type 0
  IsTakenPatiently batch old new = KeepsBack batch old new ⊎ SendsBatch batch old new

  -- so a batch is taken, and nothing else changes
  pub record TakesPatiently (batch : Batch) (old new : PatientTerminal W) : Type 0 where
    pub taken : IsTakenPatiently batch old new
    pub more : new.is_more ≡ old.is_more
    pub state : Renders batch (patient_state old) (patient_state new)

  -- A call is refused, which is counted. What is written is not told, it is not known what is shown and in which column
  -- the cursor stands, what was kept back is lost, and the next batch is sent.
  pub record FailsPatiently (old new : PatientTerminal W) : Type 0 where
    pub encoder : new.sent.encoder ≡ old.sent.encoder
    pub ahead : new.ahead ≡ settled_at old.ahead.size None
    pub start : new.at_start ≡ false
    pub more : new.is_more ≡ false
    pub state : Fails (patient_state old) (patient_state new)

  -- all stays but whether more is at hand
  abbrev pub RestsPatiently : PatientTerminal W → PatientTerminal W → Type 0
  RestsPatiently old new = new ≡ record old { is_more = new.is_more }

  -- What is kept back is sent, whatever is at hand. A flush flushes all then, or that is refused.
  pub record FlushesPatiently (old new : PatientTerminal W) : Type 0 where
    pub sends : SendsGroups old.ahead.kept old new
    pub more : new.is_more ≡ old.is_more
    pub state : (patient_state new ≡ patient_state old) ⊎ (Flushes (patient_state old) (patient_state new) ⊎ Fails (patient_state old) (patient_state new))

  -- A size is told. What was kept back is sent first, or it is lost; and then it is not known what is shown.
  pub record SizesPatiently (size : ScreenSize) (old new : PatientTerminal W) : Type 0 where
    pub sends : (Appends (contents old.writer) (contents new.writer) (sent_ahead old.ahead old.sent.encoder).bytes
        × (new.sent.encoder ≡ record (sent_ahead old.ahead old.sent.encoder).next { cols = size.cols }))
        ⊎ ((old.ahead.kept ≡ [] → ⊥) × (new.sent.encoder ≡ record old.sent.encoder { cols = size.cols }))
    pub ahead : new.ahead ≡ settled_at size None
    pub state : patient_state new ≡ record (patient_state old) { size = size }

  -- A text is sent: what was kept back, and then what is sent for the text. It is not known then what is shown.
  pub record SaysPatiently (text : List ℕ) (old new : PatientTerminal W) : Type 0 where
    pub bytes : Appends (contents old.writer) (contents new.writer) (sent_then (sent_ahead old.ahead old.sent.encoder) (sent_deed (Said text))).bytes
    pub encoder : new.sent.encoder ≡ (sent_then (sent_ahead old.ahead old.sent.encoder) (sent_deed (Said text))).next
    pub ahead : new.ahead ≡ settled_at old.ahead.size None
    pub state : patient_state new ≡ patient_state old

  -- such a deed leads from the one to the other
  abbrev pub DoesPatiently : PatientTerminal W → PatientTerminal W → Deed → Type 0
  DoesPatiently old new (Called Refused) = FailsPatiently old new
  DoesPatiently old new (Called (Took batch)) = TakesPatiently batch old new
  DoesPatiently old new (Called Other) = RestsPatiently old new ⊎ (FlushesPatiently old new ⊎ FailsPatiently old new)
  DoesPatiently old new (Sized size) = SizesPatiently size old new
  DoesPatiently old new (Said text) = SaysPatiently text old new
