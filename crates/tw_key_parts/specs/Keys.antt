-- The keys of the parts.
use Rattle.std.specs.Prelude.{Bool, false, ◌||◌, List, [], ◌∷◌, codes, Option, Some, None, if◌then◌else◌}
use Rattle.tw_input.specs.declared.key.KeyCode.TheVariants.{Backspace, Delete}
use Rattle.tw_input.specs.declared.key.KeyEvent.{KeyEvent}
use Rattle.tw_input.specs.EventView.{EventView, Key}
use Rattle.tw_input.specs.Modifiers.{none, alt, ctrl}
use Rattle.tw_host.specs.KeyTable.{is_same_key, key_press, letter}

-- whether an event is this key
abbrev pub is_key : KeyEvent → EventView → Bool
is_key key (Key other) = is_same_key other key
is_key key _ = false

-- what the first row with the key of an event has
abbrev pub row_with_key : {X : Type 0} → List (KeyEvent × X) → EventView → Option X
row_with_key [] event = None
row_with_key (row ∷ rest) event = if is_key row.0 event then Some row.1 else row_with_key rest event

-- brings the newest kill back
abbrev pub yank_key : KeyEvent
yank_key = key_press ctrl (letter (codes "Y"))

-- puts in the last word of a line
abbrev pub last_word_key : KeyEvent
last_word_key = key_press alt (letter (codes "."))

-- whether an event is a key that deletes a character: Delete, Backspace, Ctrl-H, Ctrl-D
abbrev pub deletes_character : EventView → Bool
deletes_character event =
    is_key (key_press none Delete) event || (is_key (key_press none Backspace) event
    || (is_key (key_press ctrl (letter (codes "H"))) event || is_key (key_press ctrl (letter (codes "D"))) event))
