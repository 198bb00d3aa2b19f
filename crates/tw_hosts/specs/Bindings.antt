-- A host's own keys, as a table.
use Rattle.std.specs.Prelude.{List, Option, None, option_map}
use Rattle.std.specs.List.{find}
use Rattle.std.specs.Option.{option_map_or}
use Rattle.tw_input.specs.declared.key.KeyEvent.{KeyEvent}
use Rattle.tw_input.specs.EventView.{EventView, Key}
use Rattle.tw_line.specs.declared.movements.Movement.TheVariants.{EndOfLine}
use Rattle.tw_host.specs.ActionView.{ActionView}
use Rattle.tw_host.specs.ActionView as view
use Rattle.tw_line.specs.Cut.{Cut, empty_cut}
use Rattle.tw_host.specs.HostRules.{Resolution}
use Rattle.tw_host.specs.KeyTable.{is_same_key}
use Rattle.tw_hosts.specs.declared.bindings.KeyBinding.{KeyBinding}
use Rattle.tw_hosts.specs.declared.bindings.Binding.{Binding}
use Rattle.tw_hosts.specs.declared.bindings.Binding.TheVariants.{Clear, Cancel, Accept, EndOfFile, InsertChar, Repaint, Move, Kill, KillAndMove, HistoryPrevious, HistoryNext, SearchBackwards, SearchForwards, Complete, Ignore}

-- what the first row with this key says
abbrev pub bound : List KeyBinding → KeyEvent → Option Binding
bound rows key = option_map (λ row. row.binding) (find (λ row. is_same_key row.key key) rows)

-- the action of a binding: a cleared line is killed to its end, which ends a completion
abbrev pub binding_action : Binding → ActionView
binding_action Clear = view.Kill EndOfLine
binding_action Cancel = view.Cancel
binding_action Accept = view.AcceptLine
binding_action EndOfFile = view.EndOfFile
binding_action (InsertChar count c) = view.InsertChar count c
binding_action Repaint = view.Repaint
binding_action (Move movement) = view.Move movement
binding_action (Kill movement) = view.Kill movement
binding_action (KillAndMove kill movement) = view.KillAndMove kill movement
binding_action HistoryPrevious = view.HistoryPrevious
binding_action HistoryNext = view.HistoryNext
binding_action SearchBackwards = view.HistoryIncSearchBackwards
binding_action SearchForwards = view.HistoryIncSearchForwards
binding_action Complete = view.Complete
binding_action Ignore = view.NoAction

-- the line before that action: empty where it is to be cleared
abbrev pub binding_cut : Binding → Cut → Cut
binding_cut Clear cut = empty_cut
binding_cut _ cut = cut

-- what the table says of an event: a key may have a row, and nothing else has one
abbrev pub bound_event : List KeyBinding → EventView → Option Binding
bound_event rows (Key key) = bound rows key
bound_event rows _ = None

-- what the table makes of an event: the action of its binding, if it has one, on the line that the binding leaves
abbrev pub resolved_event : {V : Type 0} → V → List KeyBinding → EventView → Cut → Resolution V
resolved_event v rows event cut = record {
  value = v;
  cut = option_map_or (λ binding. binding_cut binding cut) (bound_event rows event) cut;
  action = option_map binding_action (bound_event rows event);
}
