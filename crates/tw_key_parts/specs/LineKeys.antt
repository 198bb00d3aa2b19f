-- Keys that edit the line, in place or to accept it.
use Rattle.std.specs.Prelude.{ℕ, ◌≢◌, AllPairs, nat_lt, List, [], ◌∷◌, length, take, drop, codes, Option, Some, None, option_map, if◌then◌else◌}
use Rattle.std.specs.Str.{trim_end, trim_start}
use Rattle.tw_input.specs.declared.key.KeyEvent.{KeyEvent}
use Rattle.tw_input.specs.EventView.{EventView}
use Rattle.tw_input.specs.Modifiers.{alt}
use Rattle.tw_line.specs.Cut.{Cut, cut_at}
use Rattle.tw_line.specs.Edits.{with_text}
use Rattle.tw_host.specs.ActionView.{AcceptLine}
use Rattle.tw_host.specs.KeyTable.{key_press, letter}
use Rattle.tw_key_parts.specs.KeyRules.{Asked, Edited, shown}
use Rattle.tw_key_parts.specs.Keys.{row_with_key}
use Rattle.tw_key_parts.specs.RowKeys.{row_end, row_start}
use Rattle.tw_key_parts.specs.declared.line_keys.LineEdit.{LineEdit}
use Rattle.tw_key_parts.specs.declared.line_keys.LineEdit.TheVariants.{DeleteBlanks, Comment}

-- the keys with their edits
abbrev pub line_keys : List (KeyEvent × LineEdit)
line_keys = (key_press alt (letter (92 ∷ [])), DeleteBlanks) ∷ (key_press alt (letter (codes "#")), Comment) ∷ []

-- the edit of an event
abbrev pub line_edit_of : EventView → Option LineEdit
line_edit_of event = row_with_key line_keys event

-- no key stands in two rows
abbrev pub LineKeysAreDistinct : Type 0
LineKeysAreDistinct = AllPairs (λ row later. row.0 ≢ later.0) line_keys

-- the text before the whitespace that ends at an offset, or before its row if that begins there
abbrev pub before_blanks : List ℕ → ℕ → List ℕ
before_blanks line at =
    let words = trim_end (take at line) in
    let rows = take (row_start line at) line in if nat_lt (length words) (length rows) then rows else words

-- the text after the whitespace that begins at an offset, or from the end of its row if that ends there
abbrev pub after_blanks : List ℕ → ℕ → List ℕ
after_blanks line at =
    let words = trim_start (drop at line) in
    let rows = drop (row_end line at) line in if nat_lt (length words) (length rows) then rows else words

-- the whitespace around the cursor is taken out
abbrev pub without_blanks : Cut → Cut
without_blanks c = with_text (before_blanks c.line c.cursor) (cut_at (after_blanks c.line c.cursor) 0)

-- a `#` stands before the line, and the cursor after it
abbrev pub commented : Cut → Cut
commented c = with_text (codes "#") (cut_at c.line 0)

-- an edit of a line: a comment is accepted
abbrev pub edited_line : LineEdit → Cut → Edited (Unit {0})
edited_line DeleteBlanks cut = shown (without_blanks cut) tt
edited_line Comment cut = record { cut = Some (commented cut); action = AcceptLine; kept = tt }

-- the edit of an event, but during a search
abbrev pub line_key_edit : Asked → Option (Edited (Unit {0}))
line_key_edit asked = if asked.searching then None else option_map (λ edit. edited_line edit asked.cut) (line_edit_of asked.event)
