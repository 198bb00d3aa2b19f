use Rattle.std.proofs.Common.{rules, ◌≡◌, ap}
use Rattle.std.proofs.lemmas.Bool.{false≢true}
use Rattle.tw_surface.specs.declared.cell.AttributeChange.{AttributeChange}
use Rattle.tw_surface.specs.declared.cell.CellAttributes.{CellAttributes}
use Rattle.tw_surface.specs.declared.change.Change.TheVariants.{Attribute, AllAttributes, Text, ClearScreen, ClearToEndOfScreen, CursorPosition}
use Rattle.tw_surface.specs.declared.color.ColorAttribute.{ColorAttribute}
use Rattle.tw_surface.specs.ChangeView as view
use Rattle.tw_surface.proofs.EqualityLemmas.{attributes_equal, changes_equal, colors_equal}
use Rattle.tw_surface.proofs.laws.equality.Goals as goal

same_change : (x y : AttributeChange) → view.Attribute x ≡ view.Attribute y → x ≡ y
same_change x y e = cc

same_attributes : (x y : CellAttributes) → view.AllAttributes x ≡ view.AllAttributes y → x ≡ y
same_attributes x y e = cc

same_clearing : (x y : ColorAttribute) → view.ClearScreen x ≡ view.ClearScreen y → x ≡ y
same_clearing x y e = cc

same_end : (x y : ColorAttribute) → view.ClearToEndOfScreen x ≡ view.ClearToEndOfScreen y → x ≡ y
same_end x y e = cc

pub returns-clause-changes : goal.returns-clause-changes
returns-clause-changes c (Attribute x) (Attribute y) = ((λ h. ap view.Attribute ((changes_equal x y).0 h)), (λ e. (changes_equal x y).1 (same_change x y e)))
returns-clause-changes c (AllAttributes x) (AllAttributes y) = ((λ h. ap view.AllAttributes ((attributes_equal x y).0 h)), (λ e. (attributes_equal x y).1 (same_attributes x y e)))
returns-clause-changes c (Text x) (Text y) = search rules
returns-clause-changes c (ClearScreen x) (ClearScreen y) = ((λ h. ap view.ClearScreen ((colors_equal x y).0 h)), (λ e. (colors_equal x y).1 (same_clearing x y e)))
returns-clause-changes c (ClearToEndOfScreen x) (ClearToEndOfScreen y) = ((λ h. ap view.ClearToEndOfScreen ((colors_equal x y).0 h)), (λ e. (colors_equal x y).1 (same_end x y e)))
returns-clause-changes c (CursorPosition x v) (CursorPosition y w) = search rules
returns-clause-changes c _ _ = ((λ h. absurd (false≢true h)), (λ e. cc))

pub returns-clause-colors : goal.returns-clause-colors
returns-clause-colors c = colors_equal

pub returns-clause-attributes : goal.returns-clause-attributes
returns-clause-attributes c = attributes_equal

pub returns-clause-attribute_changes : goal.returns-clause-attribute_changes
returns-clause-attribute_changes c = changes_equal
