use Rattle.std.proofs.Common.{◌≡◌, ap, ◌∙◌}
use Rattle.std.proofs.lemmas.Bool.{and_parts, and_from, eq-eqb, eqb-true}
use Rattle.tw_surface.proofs.EqualityLemmas.{attributes_equal}
use Rattle.tw_sparing.specs.declared.cell.ScreenCell.{ScreenCell}
use Rattle.tw_sparing.proofs.laws.equality.Goals as goal

same_cell : (a b : ScreenCell) → a.character ≡ b.character → a.attributes ≡ b.attributes → a ≡ b
same_cell a b x y = ap (λ n. record { character = n; attributes = a.attributes }) x ∙ ap (λ l. record { character = b.character; attributes = l }) y

pub returns : goal.returns
returns c a b = (
  λ h. let both = and_parts _ _ h in same_cell a b (eqb-true a.character b.character both.0) ((attributes_equal a.attributes b.attributes).0 both.1),
  λ e. and_from _ _ (eq-eqb a.character b.character (ap (λ x. x.character) e)) ((attributes_equal a.attributes b.attributes).1 (ap (λ x. x.attributes) e)),
)
