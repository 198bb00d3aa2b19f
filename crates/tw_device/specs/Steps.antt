-- The steps of a device, in their order, and what a list of them says.
use Rattle.std.specs.Prelude.{◌≡◌, ◌≤◌, ◌&&◌, not, Bool, true, false, List, [], ◌∷◌, ◌++◌, length, Option, Some, None, Result, Ok, Err}
use Rattle.std.specs.List.{list_all}
use Rattle.tw_surface.specs.ChangeView.{Batch}
use Rattle.tw_input.specs.EventView.{EventView, event_view}
use Rattle.tw_input.specs.declared.event.InputEvent.{InputEvent}
use Rattle.tw_terminal.specs.TerminalState.{TerminalState, size_after}
use Rattle.tw_terminal.specs.declared.terminal.TerminalFault.{TerminalFault}
use Rattle.tw_device.specs.declared.keys.SourceState.{SourceState}
use Rattle.tw_device.specs.declared.keys.SourceState.TheVariants.{Going, AtEnd, Refused as HasRefused}

-- A step: a batch was taken, or one was refused or lost; all that was taken was sent, or sent and flushed; the reader
-- was asked, which may wait; an event was told, or that there are no more, or the reader refused.
pub data Step : Type 0 where
  Took : Batch → Step
  Refused : Step
  Sent : Step
  Flushed : Step
  Waited : Step
  Told : EventView → Step
  Ended : Step
  Failed : TerminalFault → Step

-- the step of an answer
abbrev pub answer_step : Result (Option InputEvent) TerminalFault → Step
answer_step (Ok (Some event)) = Told (event_view event)
answer_step (Ok None) = Ended
answer_step (Err fault) = Failed fault

-- the batches that were taken
abbrev pub batches_in : List Step → List Batch
batches_in [] = []
batches_in (Took batch ∷ steps) = batch ∷ batches_in steps
batches_in (_ ∷ steps) = batches_in steps

-- the events that were told
abbrev pub events_in : List Step → List EventView
events_in [] = []
events_in (Told event ∷ steps) = event ∷ events_in steps
events_in (_ ∷ steps) = events_in steps

-- what was answered last, if anything was, or this
abbrev pub source_after : SourceState → Step → SourceState
source_after state (Told event) = Going
source_after state Ended = AtEnd
source_after state (Failed fault) = HasRefused fault
source_after state _ = state

abbrev pub state_from : SourceState → List Step → SourceState
state_from state [] = state
state_from state (step ∷ steps) = state_from (source_after state step) steps

-- what was answered last
abbrev pub state_in : List Step → SourceState
state_in log = state_from Going log

-- whether something is taken and not sent after a step, by whether it was before it
abbrev pub is_unsent_after : Bool → Step → Bool
is_unsent_after unsent (Took batch) = true
is_unsent_after unsent Sent = false
is_unsent_after unsent Flushed = false
is_unsent_after unsent _ = unsent

abbrev pub is_unsent_from : Bool → List Step → Bool
is_unsent_from unsent [] = unsent
is_unsent_from unsent (step ∷ steps) = is_unsent_from (is_unsent_after unsent step) steps

-- whether something is taken and not sent after a log
abbrev pub is_unsent : List Step → Bool
is_unsent log = is_unsent_from false log

-- whether a step does not wait, or nothing is unsent there
abbrev pub waits_well : Bool → Step → Bool
waits_well unsent Waited = not unsent
waits_well unsent _ = true

abbrev pub is_prompt_from : Bool → List Step → Bool
is_prompt_from unsent [] = true
is_prompt_from unsent (step ∷ steps) = waits_well unsent step && is_prompt_from (is_unsent_after unsent step) steps

-- whether nothing that was taken is unsent at each waiting
abbrev pub is_prompt : List Step → Bool
is_prompt log = is_prompt_from false log

-- what a call of an editor adds: batches, refusals, sendings and flushes
abbrev pub is_call : Step → Bool
is_call Waited = false
is_call (Told event) = false
is_call Ended = false
is_call (Failed fault) = false
is_call _ = true

-- what comes before an answer: sendings, or a refusal of one, and waitings
abbrev pub is_lead : Step → Bool
is_lead Sent = true
is_lead Refused = true
is_lead Waited = true
is_lead _ = false

-- What is seen of a device: what its terminal shows, and its log.
pub record Seen : Type 0 where
  pub terminal : TerminalState
  pub log : List Step

-- Nothing that was taken is unsent at each waiting, and none where all batches are flushed.
pub record IsPrompt (seen : Seen) : Type 0 where
  pub waits : is_prompt seen.log ≡ true
  pub counted : seen.terminal.flushed ≤ length seen.terminal.batches
  pub flushed : seen.terminal.flushed ≡ length seen.terminal.batches → is_unsent seen.log ≡ false

-- Calls of an editor were made, and these steps noted.
pub record NotesCalls (old new : Seen) : Type 0 where
  pub steps : List Step
  pub calls : list_all is_call steps ≡ true
  pub log : new.log ≡ old.log ++ steps
  pub batches : new.terminal.batches ≡ old.terminal.batches ++ batches_in steps
  pub prompt : IsPrompt old → IsPrompt new

-- the terminal once an answer is given: it has the size of a Resized
abbrev pub terminal_after : Step → TerminalState → TerminalState
terminal_after (Told event) terminal = record terminal { size = size_after event terminal.size }
terminal_after _ terminal = terminal

-- A device is asked for an event. It may send what is taken, and wait, but does not wait while something is unsent.
-- Then the answer is noted.
pub record Asks (answer : Result (Option InputEvent) TerminalFault) (old new : Seen) : Type 0 where
  pub lead : List Step
  pub leads : list_all is_lead lead ≡ true
  pub log : new.log ≡ old.log ++ (lead ++ answer_step answer ∷ [])
  pub terminal : new.terminal ≡ terminal_after (answer_step answer) old.terminal
  pub prompt : IsPrompt old → IsPrompt new

-- these batches are due after these events
abbrev pub IsDueBy : (List EventView → List Batch) → List EventView → List Batch → Type 0
IsDueBy due events batches = batches ≡ due events

-- Before each event the batches that were taken are due after the events before it.
abbrev pub IsInTime : (List EventView → List Batch → Type 0) → List Batch → List Step → Type 0
IsInTime Due taken steps = (before after : List Step) (event : EventView) → steps ≡ before ++ Told event ∷ after
    → Due (events_in before) (taken ++ batches_in before)

-- Steps were noted since, in time.
pub record GoesInTime (Due : List EventView → List Batch → Type 0) (old new : Seen) : Type 0 where
  pub steps : List Step
  pub log : new.log ≡ old.log ++ steps
  pub batches : new.terminal.batches ≡ old.terminal.batches ++ batches_in steps
  pub in_time : IsInTime Due old.terminal.batches steps

-- what is seen of a device of some kind
abbrev pub seen_at : {D : Type 0} → (D → TerminalState) → (D → List Step) → D → Seen
seen_at state log it = record { terminal = state it; log = log it }

module _ {D : Type 0} (state : D → TerminalState) (log : D → List Step) (Law : D → D → Type 0) where
  -- calls of an editor lead from the one to the other, by the device's law
  pub record IsCalledOn (old new : D) : Type 0 where
    pub notes : NotesCalls (seen_at state log old) (seen_at state log new)
    pub law : Law old new

  -- Steps lead from the one to the other in time, by the device's law, and nothing that was taken is unsent at a waiting.
  pub record Goes (Due : List EventView → List Batch → Type 0) (old new : D) : Type 0 where
    pub in_time : GoesInTime Due (seen_at state log old) (seen_at state log new)
    pub prompt : IsPrompt (seen_at state log old) → IsPrompt (seen_at state log new)
    pub law : Law old new
