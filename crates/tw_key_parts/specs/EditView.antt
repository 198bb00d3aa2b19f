-- An edit, an action, a question and a step without where they lie in memory.
use Rattle.std.specs.Prelude.{ℕ, List, Option, option_map}
use Rattle.std.specs.Borrow.{Bor}
use Rattle.tw_input.specs.EventView.{event_view}
use Rattle.tw_host.specs.ActionView.{ActionView, action_view}
use Rattle.tw_host.specs.declared.actions.Action.{Action}
use Rattle.tw_key_parts.specs.KeyRules.{Asked, Edited, KeyStep, step_of}
use Rattle.tw_key_parts.specs.declared.edit.Edit.{Edit}
use Rattle.tw_key_parts.specs.declared.part.Asked as asking
use Rattle.tw_key_parts.specs.declared.part.Step.{Step}

-- the view of an edit, by the view of what is kept of it
abbrev pub edit_view : {N K : Type 0} → (N → K) → Edit N → Edited K
edit_view view edit = record { cut = edit.line; action = action_view edit.action; kept = view edit.note }

-- the view of an action that is lent, if there is one
abbrev pub lent_action : Option (Bor Action) → Option ActionView
lent_action action = option_map (λ action. action_view action.now) action

-- the view of what a part is asked, by the lines of a history
abbrev pub asked_view : {L : Type 0} → (L → List (List ℕ)) → asking.Asked L → Asked
asked_view lines asked = record { event = event_view asked.event.now; searching = asked.searching; lines = lines asked.history.now; cut = asked.line.now }

-- the view of a step
abbrev pub step_view : Step → KeyStep
step_view step = step_of (event_view step.event.now) step.searching step.before.now step.after.now (lent_action step.action)
