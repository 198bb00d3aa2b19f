-- An event without where it lies in memory.
use Rattle.std.specs.Prelude.{ℕ, List, string_bytes}
use Rattle.tw_input.specs.declared.key.KeyEvent.{KeyEvent}
use Rattle.tw_input.specs.declared.event.InputEvent.{InputEvent}
use Rattle.tw_input.specs.declared.event.InputEvent.TheVariants as event

-- an event, its text by its bytes
pub data EventView : Type 0 where
  Key : KeyEvent → EventView
  Resized : ℕ → ℕ → EventView
  Paste : List ℕ → EventView
  Wake : EventView

-- the view of an event
abbrev pub event_view : InputEvent → EventView
event_view (event.Key key) = Key key
event_view (event.Resized cols rows) = Resized cols rows
event_view (event.Paste text) = Paste (string_bytes text)
event_view event.Wake = Wake
