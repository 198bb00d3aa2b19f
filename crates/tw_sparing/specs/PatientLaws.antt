-- What a terminal that waits while more is at hand keeps back after a call.
use Rattle.std.proofs.Common.{◌≡◌, ◌≢◌, ℕ, List, [], ◌∷◌, Option, Bool, true, false, refl, sym, ap, ◌∙◌, inl, inr}
use Rattle.std.proofs.lemmas.Bool.{false≢true}
use Rattle.tw_surface.specs.ChangeView.{Batch}
use Rattle.tw_terminal.specs.TerminalState.{TerminalState}
use Rattle.tw_terminal.specs.Uses.{Call, Took, Refused, Other, with_taken}
use Rattle.tw_device.specs.Deeds.{Called}
use Rattle.tw_sparing.specs.Ahead.{AheadView}
use Rattle.tw_sparing.specs.PatientDeeds.{DoesPatiently}
use Rattle.tw_sparing.specs.Terminal.{is_some_kept, keeps_back, patient_state}
use Rattle.tw_sparing.specs.declared.patient.PatientTerminal.{PatientTerminal}

-- whether there is a batch
abbrev is_some_batch : List Batch → Bool
is_some_batch [] = false
is_some_batch (batch ∷ batches) = true

module _ {W : Type 0} (contents : W → Option (List ℕ)) where
  -- where the terminal is settled, nothing is kept back
  settled_keeps : (it : PatientTerminal W) (ahead : AheadView) → it.ahead ≡ ahead → ahead.kept ≡ [] → keeps_back it ≡ false
  settled_keeps it ahead is none = ap (λ (a : AheadView). is_some_kept a.kept) is ∙ ap is_some_kept none

  pub took_settles : (old new : PatientTerminal W) (batch : Batch) → DoesPatiently contents old new (Called (Took batch)) → old.is_more ≡ false → keeps_back new ≡ false
  took_settles old new batch does more = elim does.taken [
    | inl keeps ↦ absurd (false≢true (sym more ∙ keeps.more))
    | inr sends ↦ settled_keeps new _ sends.sends.ahead refl
  ]

  pub call_settles : (old new : PatientTerminal W) (call : Call) → DoesPatiently contents old new (Called call) → with_taken call [] ≡ [] → keeps_back old ≡ false → keeps_back new ≡ false
  call_settles old new (Took batch) does none kept = absurd (false≢true (ap is_some_batch (sym none)))
  call_settles old new Refused does none kept = settled_keeps new _ does.ahead refl
  call_settles old new Other does none kept = elim does [
    | inl rests ↦ ap keeps_back rests ∙ kept
    | inr called ↦ elim called [
      | inl sends ↦ settled_keeps new _ sends.sends.ahead refl
      | inr fails ↦ settled_keeps new _ fails.ahead refl
    ]
  ]

  pub flush_settles : (old new : PatientTerminal W) → DoesPatiently contents old new (Called Other) → (patient_state new).flushed ≢ (patient_state old).flushed → keeps_back new ≡ false
  flush_settles old new does more = elim does [
    | inl rests ↦ absurd (more (ap (λ it. (patient_state it).flushed) rests))
    | inr called ↦ elim called [
      | inl sends ↦ settled_keeps new _ sends.sends.ahead refl
      | inr fails ↦ settled_keeps new _ fails.ahead refl
    ]
  ]

  pub refused_takes_none : (old new : PatientTerminal W) → DoesPatiently contents old new (Called Refused) → (patient_state new).batches ≡ (patient_state old).batches
  refused_takes_none old new does = ap (λ (t : TerminalState). t.batches) does.state
