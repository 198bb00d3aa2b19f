-- The edits of a session.
use Rattle.std.specs.Prelude.{◌≢◌, []}
use Rattle.tw_line.specs.Cut.{Cut}
use Rattle.tw_line.specs.Extremes.{iterate}
use Rattle.tw_line.specs.Edits.{with_char, with_text, after_kill}
use Rattle.tw_session.specs.declared.session.edit.Edit.{Edit}
use Rattle.tw_session.specs.declared.session.edit.Edit.TheVariants.{InsertChar, InsertText, Kill}

-- what an edit makes of a cut text
abbrev pub edit_of : Edit → Cut → Cut
edit_of (InsertChar r x) = iterate (with_char x) r
edit_of (InsertText r text) = iterate (with_text text.now) r
edit_of (Kill k m) = after_kill k m

-- the edit may take memory: it inserts something
abbrev pub TakesMemoryToEdit : Edit → Type 0
TakesMemoryToEdit (InsertChar r x) = r ≢ 0
TakesMemoryToEdit (InsertText r text) = (r ≢ 0) × (text.now ≢ [])
TakesMemoryToEdit (Kill k m) = ⊥
