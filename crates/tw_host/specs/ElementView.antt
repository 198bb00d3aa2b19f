-- An element of what is shown, without where it lies in memory.
use Rattle.std.specs.Prelude.{ℕ, List, string_bytes, map}
use Rattle.tw_surface.specs.declared.cell.AttributeChange.{AttributeChange}
use Rattle.tw_surface.specs.declared.cell.CellAttributes.{CellAttributes}
use Rattle.tw_surface.specs.ChangeView.{ChangeView, Batch}
use Rattle.tw_surface.specs.ChangeView as change
use Rattle.tw_host.specs.declared.host.OutputElement.{OutputElement}
use Rattle.tw_host.specs.declared.host.OutputElement.TheVariants as element

-- an element, its text by its bytes
pub data ElementView : Type 0 where
  Attribute : AttributeChange → ElementView
  AllAttributes : CellAttributes → ElementView
  Text : List ℕ → ElementView

-- the view of an element
abbrev pub element_view : OutputElement → ElementView
element_view (element.Attribute a) = Attribute a
element_view (element.AllAttributes a) = AllAttributes a
element_view (element.Text s) = Text (string_bytes s)

-- the change that an element becomes
abbrev pub element_change : ElementView → ChangeView
element_change (Attribute a) = change.Attribute a
element_change (AllAttributes a) = change.AllAttributes a
element_change (Text s) = change.Text s

-- the changes of a list of elements
abbrev pub changes_of : List ElementView → Batch
changes_of elements = map element_change elements
