-- What is done at a device that is made of a source of events and a terminal.
use Rattle.std.specs.Prelude.{◌≡◌, Bool, true, false, List, [], ◌∷◌, ◌++◌}
use Rattle.std.specs.List.{list_all}
use Rattle.tw_input.specs.EventView.{EventView}
use Rattle.tw_terminal.specs.TerminalState.{TerminalState}
use Rattle.tw_terminal.specs.Uses.{Call, Uses}
use Rattle.tw_device.specs.Calls.{all_events}
use Rattle.tw_device.specs.Deeds.{Deed, IsDone, deeds_of}
use Rattle.tw_device.specs.Steps.{Seen, Step, Refused, IsPrompt, batches_in, is_call, is_lead, is_unsent, events_in}
use Rattle.tw_device.specs.declared.joined.Joined.{Joined}

-- whether no batch was refused or lost
abbrev pub none_lost : List Step → Bool
none_lost [] = true
none_lost (Refused ∷ steps) = false
none_lost (_ ∷ steps) = none_lost steps

-- what is seen of the device
abbrev pub seen_of : {S T : Type 0} → (T → TerminalState) → Joined S T → Seen
seen_of state it = record { terminal = state it.terminal; log = it.log }

-- calls of the source told these events
pub record IsAsked {S : Type 0} (told : S → List EventView) (Tells : S → S → List EventView → Type 0) (events : List EventView) (old new : S) : Type 0 where
  pub added : told new ≡ told old ++ events
  pub calls : (parts : List (List EventView)) × (all_events parts ≡ events) × Uses Tells parts old new

module _ {S T : Type 0} (told : S → List EventView) (Tells : S → S → List EventView → Type 0)
    (state : T → TerminalState) (keeps : T → Bool) (Does : T → T → Deed → Type 0) where
  -- the terminal keeps nothing back where the log says that all is sent
  abbrev pub KeepsAsLogged : Joined S T → Type 0
  KeepsAsLogged it = is_unsent it.log ≡ false → keeps it.terminal ≡ false

  -- Such steps lead from the one to the other: they are noted, the source was asked for their events, and if no batch
  -- was refused or lost, the terminal did their deeds.
  pub record Leads (steps : List Step) (old new : Joined S T) : Type 0 where
    pub log : new.log ≡ old.log ++ steps
    pub source : IsAsked told Tells (events_in steps) old.source new.source
    pub terminal : none_lost steps ≡ true → IsDone Does (deeds_of steps) old.terminal new.terminal
    pub prompt : IsPrompt (seen_of state old) → IsPrompt (seen_of state new)
    pub settled : IsPrompt (seen_of state old) → KeepsAsLogged old → KeepsAsLogged new

  -- some steps do: the law of such a device
  abbrev pub LeadsOn : Joined S T → Joined S T → Type 0
  LeadsOn old new = (steps : List Step) × Leads steps old new

  -- Sendings and waitings lead from the one to the other, before the source is asked.
  pub record Attends (old new : Joined S T) : Type 0 where
    pub lead : List Step
    pub sends : list_all is_lead lead ≡ true
    pub leads : Leads lead old new
    pub terminal : state new.terminal ≡ state old.terminal

  -- A call of `Terminal` leads from the one to the other.
  pub record LeadsByCall (call : Call) (old new : Joined S T) : Type 0 where
    pub steps : List Step
    pub calls : list_all is_call steps ≡ true
    pub batches : (state new.terminal).batches ≡ (state old.terminal).batches ++ batches_in steps
    pub leads : Leads steps old new
