-- `==` of colours, of attributes, and of all attributes of a cell.
use Rattle.std.proofs.Common.{◌≡◌, ◌↔◌, IsTrue, Bool, true, false, ap, ◌∙◌, refl, subst, rules}
use Rattle.std.proofs.lemmas.Bool.{and_parts, and_from, eqb-true, false≢true}
use mathlib.Core.Bool.{beq}
use denote.Enum.Bare.{same_true, true_same}
use Rattle.tw_surface.specs.declared.cell.AttributeChange.{AttributeChange}
use Rattle.tw_surface.specs.declared.cell.AttributeChange.TheVariants.{Intensity, Underline, Italic, Blink, Reverse, StrikeThrough, Invisible, Foreground, Background}
use Rattle.tw_surface.specs.declared.cell.CellAttributes.{CellAttributes}
use Rattle.tw_surface.specs.declared.color.ColorAttribute.{ColorAttribute}
use Rattle.tw_surface.specs.declared.color.ColorAttribute.TheVariants.{Default, PaletteIndex, TrueColorWithDefaultFallback}
use Rattle.tw_surface.specs.contracts.cell.Intensity.{the_type as intensity}
use Rattle.tw_surface.specs.contracts.cell.Underline.{the_type as underline}
use Rattle.tw_surface.specs.contracts.cell.Blink.{the_type as blink}
use Rattle.tw_surface.specs.contracts.cell.AttributeChangePartialEq.TheImpl.{ghosts as changes}
use Rattle.tw_surface.specs.contracts.cell.CellAttributesPartialEq.TheImpl.{ghosts as attributes}
use Rattle.tw_surface.specs.contracts.color.ColorAttributePartialEq.TheImpl.{ghosts as colors}

pub beq-is : (a b : Bool) → beq a b ≡ true → a ≡ b
beq-is true true h = refl
beq-is true false h = absurd (false≢true h)
beq-is false true h = absurd (false≢true h)
beq-is false false h = refl

pub is-beq : (a b : Bool) → a ≡ b → beq a b ≡ true
is-beq a b e = subst (λ (x : Bool). beq a x ≡ true) e (beq-same a)
  where
    beq-same : (a : Bool) → beq a a ≡ true
    beq-same true = refl
    beq-same false = refl

equal-colors : (a b : ColorAttribute) → IsTrue (colors.eq a b) → a ≡ b
equal-colors Default Default h = refl
equal-colors (PaletteIndex x) (PaletteIndex y) h = ap PaletteIndex (eqb-true x y h)
equal-colors (TrueColorWithDefaultFallback r g b) (TrueColorWithDefaultFallback s h c) e = search rules
equal-colors _ _ h = absurd (false≢true h)

same-color : (a : ColorAttribute) → IsTrue (colors.eq a a)
same-color Default = refl
same-color (PaletteIndex x) = search rules
same-color (TrueColorWithDefaultFallback r g b) = search rules

pub colors_equal : (a b : ColorAttribute) → IsTrue (colors.eq a b) ↔ (a ≡ b)
colors_equal a b = (equal-colors a b, λ e. subst (λ (x : ColorAttribute). IsTrue (colors.eq a x)) e (same-color a))

equal-changes : (a b : AttributeChange) → IsTrue (changes.eq a b) → a ≡ b
equal-changes (Intensity x) (Intensity y) h = ap Intensity (same_true intensity tt _ _ h)
equal-changes (Underline x) (Underline y) h = ap Underline (same_true underline tt _ _ h)
equal-changes (Italic x) (Italic y) h = ap Italic (beq-is _ _ h)
equal-changes (Blink x) (Blink y) h = ap Blink (same_true blink tt _ _ h)
equal-changes (Reverse x) (Reverse y) h = ap Reverse (beq-is _ _ h)
equal-changes (StrikeThrough x) (StrikeThrough y) h = ap StrikeThrough (beq-is _ _ h)
equal-changes (Invisible x) (Invisible y) h = ap Invisible (beq-is _ _ h)
equal-changes (Foreground x) (Foreground y) h = ap Foreground (equal-colors _ _ h)
equal-changes (Background x) (Background y) h = ap Background (equal-colors _ _ h)
equal-changes _ _ h = absurd (false≢true h)

same-change : (a : AttributeChange) → IsTrue (changes.eq a a)
same-change (Intensity x) = true_same intensity _ _ refl
same-change (Underline x) = true_same underline _ _ refl
same-change (Italic x) = is-beq _ _ refl
same-change (Blink x) = true_same blink _ _ refl
same-change (Reverse x) = is-beq _ _ refl
same-change (StrikeThrough x) = is-beq _ _ refl
same-change (Invisible x) = is-beq _ _ refl
same-change (Foreground x) = same-color x
same-change (Background x) = same-color x

pub changes_equal : (a b : AttributeChange) → IsTrue (changes.eq a b) ↔ (a ≡ b)
changes_equal a b = (equal-changes a b, λ e. subst (λ (x : AttributeChange). IsTrue (changes.eq a x)) e (same-change a))

-- attributes are equal where each of them is
joined : (a b : CellAttributes) → a.intensity ≡ b.intensity → a.underline ≡ b.underline → a.blink ≡ b.blink → a.italic ≡ b.italic → a.reverse ≡ b.reverse
    → a.strikethrough ≡ b.strikethrough → a.invisible ≡ b.invisible → a.foreground ≡ b.foreground → a.background ≡ b.background → a ≡ b
joined a b e0 e1 e2 e3 e4 e5 e6 e7 e8 =
    ap (λ x. record a { intensity = x }) e0
    ∙ ap (λ x. record a { intensity = b.intensity; underline = x }) e1
    ∙ ap (λ x. record a { intensity = b.intensity; underline = b.underline; blink = x }) e2
    ∙ ap (λ x. record a { intensity = b.intensity; underline = b.underline; blink = b.blink; italic = x }) e3
    ∙ ap (λ x. record a { intensity = b.intensity; underline = b.underline; blink = b.blink; italic = b.italic; reverse = x }) e4
    ∙ ap (λ x. record a { intensity = b.intensity; underline = b.underline; blink = b.blink; italic = b.italic; reverse = b.reverse; strikethrough = x }) e5
    ∙ ap (λ x. record a { intensity = b.intensity; underline = b.underline; blink = b.blink; italic = b.italic; reverse = b.reverse; strikethrough = b.strikethrough; invisible = x }) e6
    ∙ ap (λ x. record a { intensity = b.intensity; underline = b.underline; blink = b.blink; italic = b.italic; reverse = b.reverse; strikethrough = b.strikethrough; invisible = b.invisible; foreground = x }) e7
    ∙ ap (λ x. record a { intensity = b.intensity; underline = b.underline; blink = b.blink; italic = b.italic; reverse = b.reverse; strikethrough = b.strikethrough; invisible = b.invisible; foreground = b.foreground; background = x }) e8

pub attributes_equal : (a b : CellAttributes) → IsTrue (attributes.eq a b) ↔ (a ≡ b)
attributes_equal a b = (
  (λ h.
      let s0 = and_parts _ _ h in
      let s1 = and_parts _ _ s0.1 in
      let s2 = and_parts _ _ s1.1 in
      let s3 = and_parts _ _ s2.1 in
      let s4 = and_parts _ _ s3.1 in
      let s5 = and_parts _ _ s4.1 in
      let s6 = and_parts _ _ s5.1 in
      let s7 = and_parts _ _ s6.1 in
      joined a b (same_true intensity tt _ _ s0.0) (same_true underline tt _ _ s1.0) (same_true blink tt _ _ s2.0)
      (beq-is _ _ s3.0) (beq-is _ _ s4.0) (beq-is _ _ s5.0) (beq-is _ _ s6.0)
      ((colors_equal _ _).0 s7.0) ((colors_equal _ _).0 s7.1)),
  (λ e.
      and_from _ _ (true_same intensity _ _ (ap (λ x. x.intensity) e))
      (and_from _ _ (true_same underline _ _ (ap (λ x. x.underline) e))
      (and_from _ _ (true_same blink _ _ (ap (λ x. x.blink) e))
      (and_from _ _ (is-beq _ _ (ap (λ x. x.italic) e))
      (and_from _ _ (is-beq _ _ (ap (λ x. x.reverse) e))
      (and_from _ _ (is-beq _ _ (ap (λ x. x.strikethrough) e))
      (and_from _ _ (is-beq _ _ (ap (λ x. x.invisible) e))
      (and_from _ _ ((colors_equal _ _).1 (ap (λ x. x.foreground) e)) ((colors_equal _ _).1 (ap (λ x. x.background) e)))))))))),
)
