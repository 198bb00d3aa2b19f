-- The keys of an open menu: where they lead, and what they do to the line.
use Rattle.std.specs.Prelude.{ℕ, ◌≡◌, ◌&&◌, ◌+◌, ◌-◌, ◌%◌, ◌==◌, Bool, true, not, nat_lt, List, [], ◌∷◌, codes, length, Option, Some, None, if◌then◌else◌}
use Rattle.std.specs.List.{list_all}
use Rattle.std.specs.Option.{option_and_then}
use Rattle.tw_input.specs.declared.key.KeyCode.TheVariants.{ApplicationDownArrow, ApplicationLeftArrow, ApplicationRightArrow, ApplicationUpArrow, DownArrow, Enter, Escape, LeftArrow, PageDown, PageUp, RightArrow, Tab, UpArrow}
use Rattle.tw_input.specs.declared.key.KeyEvent.{KeyEvent}
use Rattle.tw_input.specs.EventView.{EventView}
use Rattle.tw_input.specs.Modifiers.{none, ctrl, shift}
use Rattle.tw_line.specs.declared.movements.Movement.TheVariants as movement
use Rattle.tw_host.specs.ActionView.{Move}
use Rattle.tw_host.specs.KeyTable.{is_same_key, key_press, letter}
use Rattle.tw_key_parts.specs.KeyRules.{Edited}
use Rattle.tw_key_parts.specs.Keys.{row_with_key}
use Rattle.tw_prompt_host.specs.MenuLayout.{Shown, menu_page_len, menu_row}
use Rattle.tw_prompt_host.specs.declared.layout.MenuStyle.{MenuStyle}
use Rattle.tw_prompt_host.specs.declared.menu_keys.MenuKey.{MenuKey}
use Rattle.tw_prompt_host.specs.declared.menu_keys.MenuKey.TheVariants as does

-- the keys of an open menu
abbrev pub menu_table : List (KeyEvent × MenuKey)
menu_table =
    (key_press none Tab, does.Next)
    ∷ (key_press none RightArrow, does.Next)
    ∷ (key_press none ApplicationRightArrow, does.Next)
    ∷ (key_press shift Tab, does.Previous)
    ∷ (key_press none LeftArrow, does.Previous)
    ∷ (key_press none ApplicationLeftArrow, does.Previous)
    ∷ (key_press none DownArrow, does.Below)
    ∷ (key_press none ApplicationDownArrow, does.Below)
    ∷ (key_press none UpArrow, does.Above)
    ∷ (key_press none ApplicationUpArrow, does.Above)
    ∷ (key_press none PageDown, does.PageDown)
    ∷ (key_press none PageUp, does.PageUp)
    ∷ (key_press none Enter, does.Takes)
    ∷ (key_press ctrl (letter (codes "J")), does.Takes)
    ∷ (key_press ctrl (letter (codes "M")), does.Takes)
    ∷ (key_press none Escape, does.GivesUp)
    ∷ (key_press ctrl (letter (codes "G")), does.GivesUp)
    ∷ []

-- what an event does in an open menu
abbrev pub menu_key : EventView → Option MenuKey
menu_key event = row_with_key menu_table event

-- whether no key stands in two rows
abbrev pub are_distinct : List (KeyEvent × MenuKey) → Bool
are_distinct [] = true
are_distinct (row ∷ rest) = list_all (λ later. not (is_same_key row.0 later.0)) rest && are_distinct rest

-- no key stands in two rows of this table
abbrev pub MenuKeysAreDistinct : Type 0
MenuKeysAreDistinct = are_distinct menu_table ≡ true

-- ---- where they lead, by the number of candidates in a row

-- the candidate below the chosen one, or else the top of the next column, and after the last one that of the first
abbrev pub below : ℕ → Shown → ℕ
below row m =
    let next = m.chosen % row + 1 in
    if nat_lt (m.chosen + row) (length m.candidates) then m.chosen + row else if nat_lt next row then next else 0

-- the candidate above the chosen one, or else the end of the column before, and before the first one that of the last
abbrev pub above : ℕ → Shown → ℕ
above row m =
    let last = length m.candidates - 1 in
    let column = if m.chosen == 0 then row - 1 else m.chosen - 1 in
    if nat_lt m.chosen row then last - (last - column) % row else m.chosen - row

-- the index to which a key leads, if it walks
abbrev pub walked_to : MenuStyle → MenuKey → Shown → Option ℕ
walked_to style does.Next m = Some ((m.chosen + 1) % length m.candidates)
walked_to style does.Previous m = Some (if m.chosen == 0 then length m.candidates - 1 else m.chosen - 1)
walked_to style does.Below m = Some (below (menu_row style m.candidates) m)
walked_to style does.Above m = Some (above (menu_row style m.candidates) m)
walked_to style does.PageDown m = Some (m.chosen + menu_page_len style m.candidates)
walked_to style does.PageUp m = Some (m.chosen - menu_page_len style m.candidates)
walked_to style _ m = None

-- the index to which an event leads
abbrev pub menu_walked_by : MenuStyle → EventView → Shown → Option ℕ
menu_walked_by style event m = option_and_then (λ key. walked_to style key m) (menu_key event)

-- the edit of a key: one that takes the candidate leaves the line, and one that gives the completion up has the line
-- from before it
abbrev pub edit_in_menu : {K : Type 0} → MenuKey → Shown → Option (Edited (Option K))
edit_in_menu does.Takes m = Some (record { cut = None; action = Move movement.None; kept = None })
edit_in_menu does.GivesUp m = Some (record { cut = Some m.line; action = Move movement.None; kept = None })
edit_in_menu _ m = None
