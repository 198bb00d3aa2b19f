-- What a part with keys does, as functions of what it holds.
use Rattle.std.specs.Prelude.{ℕ, Bool, List, Option, Some, None, option_map}
use Rattle.tw_input.specs.EventView.{EventView}
use Rattle.tw_line.specs.Cut.{Cut}
use Rattle.tw_host.specs.ActionView.{ActionView, InsertChar}

-- an event, whether the editor searches, the lines of the history, and the line before anything is done
pub record Asked : Type 0 where
  pub event : EventView
  pub searching : Bool
  pub lines : List (List ℕ)
  pub cut : Cut

-- a line to put in the place of the line, if there is one, the action that follows, and what the part keeps of it
pub record Edited (K : Type 0) : Type 0 where
  pub cut : Option Cut
  pub action : ActionView
  pub kept : K

-- a line in the place of the line; nothing is typed, which ends a completion
abbrev pub shown : {K : Type 0} → Cut → K → Edited K
shown cut kept = record { cut = Some cut; action = InsertChar 0 32; kept = kept }

-- an action on the line as it is
abbrev pub in_place : {K : Type 0} → Option ActionView → K → Option (Edited K)
in_place action kept = option_map (λ action. record { cut = None; action = action; kept = kept }) action

-- what came of an event, whoever answered it: the line before and after, and the action that follows, if one does
pub record KeyStep : Type 0 where
  pub event : EventView
  pub searching : Bool
  pub before : Cut
  pub after : Cut
  pub action : Option ActionView

-- a step of these
abbrev pub step_of : EventView → Bool → Cut → Cut → Option ActionView → KeyStep
step_of event searching before after action = record { event = event; searching = searching; before = before; after = after; action = action }

-- a part's edits, what it holds after a step, which may be its own edit, and after a line that is left
pub record KeyRules (S K : Type 0) : Type 0 where
  pub edits : S → Asked → Option (Edited K)
  pub follows : S → Option K → KeyStep → S
  pub leaves : S → S

-- the edits of keys that hold nothing
abbrev pub plain_key_rules : (Asked → Option (Edited (Unit {0}))) → KeyRules (Unit {0}) (Unit {0})
plain_key_rules edits = record { edits = λ s asked. edits asked; follows = λ s kept step. tt; leaves = λ s. tt }
