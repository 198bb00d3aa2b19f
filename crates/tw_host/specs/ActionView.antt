-- An action without where it lies in memory.
use Rattle.std.specs.Prelude.{ℕ, Bool, true, false, List, string_bytes}
use Rattle.tw_line.specs.declared.movements.Movement.{Movement}
use Rattle.tw_host.specs.declared.actions.Action.{Action}
use Rattle.tw_host.specs.declared.actions.Action.TheVariants as action

-- an action, its text by its bytes
pub data ActionView : Type 0 where
  AcceptLine : ActionView
  Cancel : ActionView
  EndOfFile : ActionView
  InsertChar : ℕ → ℕ → ActionView
  InsertText : ℕ → List ℕ → ActionView
  Repaint : ActionView
  Move : Movement → ActionView
  Kill : Movement → ActionView
  KillAndMove : Movement → Movement → ActionView
  HistoryPrevious : ActionView
  HistoryNext : ActionView
  Complete : ActionView
  NoAction : ActionView
  HistoryIncSearchBackwards : ActionView
  HistoryIncSearchForwards : ActionView

-- the view of an action
abbrev pub action_view : Action → ActionView
action_view action.AcceptLine = AcceptLine
action_view action.Cancel = Cancel
action_view action.EndOfFile = EndOfFile
action_view (action.InsertChar r x) = InsertChar r x
action_view (action.InsertText r s) = InsertText r (string_bytes s)
action_view action.Repaint = Repaint
action_view (action.Move m) = Move m
action_view (action.Kill m) = Kill m
action_view (action.KillAndMove k m) = KillAndMove k m
action_view action.HistoryPrevious = HistoryPrevious
action_view action.HistoryNext = HistoryNext
action_view action.Complete = Complete
action_view action.NoAction = NoAction
action_view action.HistoryIncSearchBackwards = HistoryIncSearchBackwards
action_view action.HistoryIncSearchForwards = HistoryIncSearchForwards

-- whether an action ends the line
abbrev pub ends_line : ActionView → Bool
ends_line AcceptLine = true
ends_line Cancel = true
ends_line EndOfFile = true
ends_line _ = false
