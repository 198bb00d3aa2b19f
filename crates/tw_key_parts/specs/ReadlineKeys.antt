-- Keys of readline that the key table has not.
use Rattle.std.specs.Prelude.{◌≡◌, ◌≢◌, ◌==◌, ◌&&◌, not, All, AllPairs, List, [], ◌∷◌, length, codes, Option, Some, None, if◌then◌else◌}
use Rattle.std.specs.Option.{option_or}
use Rattle.tw_input.specs.declared.key.KeyCode.TheVariants.{Backspace, Delete, LeftArrow, RightArrow}
use Rattle.tw_input.specs.declared.key.KeyEvent.{KeyEvent}
use Rattle.tw_input.specs.EventView.{EventView}
use Rattle.tw_input.specs.Modifiers.{alt, ctrl}
use Rattle.tw_line.specs.Cut.{Cut}
use Rattle.tw_line.specs.declared.movements.Movement.TheVariants as movement
use Rattle.tw_host.specs.ActionView.{ActionView, Kill, KillAndMove, Move}
use Rattle.tw_key_parts.specs.KeyRules.{Asked, Edited, in_place}
use Rattle.tw_key_parts.specs.Keys.{is_key, row_with_key}
use Rattle.tw_key_parts.specs.RowKeys.{killed_to_edge}
use Rattle.tw_key_parts.specs.declared.steps.Way.TheVariants.{Back}
use Rattle.tw_host.specs.KeyTable.{key_press, key_table, letter, looked_up}

-- the keys with an action of their own
abbrev pub readline_table : List (KeyEvent × ActionView)
readline_table =
    (key_press ctrl (letter (codes "U")), Kill movement.StartOfLine)
    ∷ (key_press ctrl LeftArrow, Move (movement.BackwardWord 1))
    ∷ (key_press ctrl RightArrow, Move (movement.ForwardWord 1))
    ∷ (key_press alt (letter (codes "d")), KillAndMove (movement.ForwardWord 1) movement.None)
    ∷ (key_press ctrl Delete, KillAndMove (movement.ForwardWord 1) movement.None)
    ∷ (key_press alt Backspace, Kill (movement.BackwardWord 1))
    ∷ []

-- in each row but the first Ctrl-U kills to the start of the row
abbrev pub killed_in_row : EventView → Cut → Option ActionView
killed_in_row event cut = if is_key (key_press ctrl (letter (codes "U"))) event then killed_to_edge Back cut else None

-- Ctrl-D deletes, and on an empty line is left to the key table
abbrev pub deleted_at_cursor : EventView → Cut → Option ActionView
deleted_at_cursor event cut =
    let deletes = is_key (key_press ctrl (letter (codes "D"))) event && not (length cut.line == 0) in
    if deletes then Some (KillAndMove (movement.ForwardChar 1) movement.None) else None

-- the action of an event in a line
abbrev pub readline_key : EventView → Cut → Option ActionView
readline_key event cut = option_or (killed_in_row event cut) (option_or (row_with_key readline_table event) (deleted_at_cursor event cut))

-- the edit of an event: the line stays as it is
abbrev pub readline_edit : Asked → Option (Edited (Unit {0}))
readline_edit asked = in_place (readline_key asked.event asked.cut) tt

-- no key stands in two rows, none of them is a row of the key table, and each row is found by its key
abbrev pub RowsAreNew : Type 0
RowsAreNew = All (λ row. looked_up key_table row.0 ≡ None) readline_table

abbrev pub RowsAreDistinct : Type 0
RowsAreDistinct = AllPairs (λ row later. row.0 ≢ later.0) readline_table
