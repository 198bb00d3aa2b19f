-- A change without where it lies in memory.
use Rattle.std.specs.Prelude.{ℕ, List, string_bytes, map}
use Rattle.tw_surface.specs.declared.change.Position.{Position}
use Rattle.tw_surface.specs.declared.color.ColorAttribute.{ColorAttribute}
use Rattle.tw_surface.specs.declared.cell.CellAttributes.{CellAttributes}
use Rattle.tw_surface.specs.declared.cell.AttributeChange.{AttributeChange}
use Rattle.tw_surface.specs.declared.change.Change.{Change}
use Rattle.tw_surface.specs.declared.change.Change.TheVariants as change

-- a change, its text by its bytes
pub data ChangeView : Type 0 where
  Attribute : AttributeChange → ChangeView
  AllAttributes : CellAttributes → ChangeView
  Text : List ℕ → ChangeView
  ClearScreen : ColorAttribute → ChangeView
  ClearToEndOfScreen : ColorAttribute → ChangeView
  CursorPosition : Position → Position → ChangeView

-- the view of a change
abbrev pub change_view : Change → ChangeView
change_view (change.Attribute a) = Attribute a
change_view (change.AllAttributes a) = AllAttributes a
change_view (change.Text t) = Text (string_bytes t)
change_view (change.ClearScreen c) = ClearScreen c
change_view (change.ClearToEndOfScreen c) = ClearToEndOfScreen c
change_view (change.CursorPosition x y) = CursorPosition x y

-- the changes of one render
abbrev pub Batch : Type 0
Batch = List ChangeView

-- the view of a list of changes
abbrev pub batch_view : List Change → Batch
batch_view changes = map change_view changes
