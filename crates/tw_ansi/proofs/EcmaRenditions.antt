-- What a terminal selects at what is sent for attributes.
use Rattle.std.proofs.Common.{◌≡◌, ◌<◌, ℕ, Bool, true, false, cond, eqb, leb, ltb, List, [], ◌∷◌, ◌++◌, length, codes, arith, ap, ◌∙◌, sym, refl}
use Rattle.std.specs.Fmt.{decimal}
use Rattle.std.specs.List.{list_all, flat_map}
use Rattle.std.proofs.lemmas.Bool.{ne_eqb, and_from, and_parts, ltb-true}
use Rattle.std.proofs.lemmas.List.Folds.{list_all-append}
use Rattle.tw_surface.specs.declared.cell.AttributeChange.{AttributeChange}
use Rattle.tw_surface.specs.declared.cell.AttributeChange.TheVariants.{Intensity, Underline, Italic, Blink, Reverse, StrikeThrough, Invisible, Foreground, Background}
use Rattle.tw_surface.specs.declared.cell.CellAttributes.{CellAttributes}
use Rattle.tw_surface.specs.declared.cell.Intensity.TheVariants as intensity
use Rattle.tw_surface.specs.declared.cell.Underline.TheVariants as underline
use Rattle.tw_surface.specs.declared.cell.Blink.TheVariants as blink
use Rattle.tw_surface.specs.declared.color.ColorAttribute.{ColorAttribute}
use Rattle.tw_surface.specs.declared.color.ColorAttribute.TheVariants.{Default, PaletteIndex, TrueColorWithDefaultFallback}
use Rattle.tw_surface.specs.Attributes.{with_attribute}
use Rattle.tw_surface.specs.Defaults.{default_attributes}
use Rattle.laws_screens.specs.Pens.{Pen}
use Rattle.tw_ansi.specs.KeyBytes.{is_digit, is_parameter, value_after}
use Rattle.tw_ansi.specs.Sequences.{sequence, color_parameters, attribute_parameters, set_attribute, set_unless_off, attributes_of, is_off}
use Rattle.tw_ansi.specs.Selections.{fields, onto_first, selected, selected_by, selects}
use Rattle.tw_ansi.specs.EcmaScreen.{EcmaScreen, receive_all}
use Rattle.tw_ansi.specs.EcmaScreen as terminal
use Rattle.tw_ansi.specs.EcmaLaws.{at_rest, IsColor, IsAttribute, AttributeIsSelected, AttributesAreSelected}
use Rattle.tw_ansi.proofs.Numbers.{decimal_value, decimal_digits, decimal_parameters}
use Rattle.tw_ansi.proofs.EcmaSequences.{received, acted}

-- ---- the parameters of colours

-- digits are one field
fields_of_digits : (ds : List ℕ) → list_all is_digit ds ≡ true → fields ds ≡ ds ∷ []
fields_of_digits [] a = refl
fields_of_digits (d ∷ ds) a =
    let parts = and_parts (is_digit d) (list_all is_digit ds) a in
    let high : d < 58 = ltb-true d 58 (and_parts (leb 48 d) (ltb d 58) parts.0).1 in
    ap (λ x. cond x ([] ∷ fields ds) (onto_first d (fields ds))) (ne_eqb d 59 (λ e. omega (arith, e, high)))
    ∙ ap (onto_first d) (fields_of_digits ds parts.1)

some_field : (xs : List ℕ) → 0 < length (fields xs)
some_field [] = omega arith
some_field (x ∷ xs) = either (eqb x 59) (fields xs) (some_field xs)
  where
    either : (t : Bool) (fs : List (List ℕ)) → 0 < length fs → 0 < length (cond t ([] ∷ fs) (onto_first x fs))
    either true fs some = omega arith
    either false [] some = omega arith
    either false (f ∷ fs) some = omega arith

onto_of_both : (x : ℕ) (fs gs : List (List ℕ)) → 0 < length fs → onto_first x (fs ++ gs) ≡ onto_first x fs ++ gs
onto_of_both x [] gs some = absurd (omega (arith, some))
onto_of_both x (f ∷ fs) gs some = refl

-- one more field
fields_joined : (xs ds : List ℕ) → list_all is_digit ds ≡ true → fields ((xs ++ 59 ∷ []) ++ ds) ≡ fields xs ++ ds ∷ []
fields_joined [] ds a = ap (λ fs. [] ∷ fs) (fields_of_digits ds a)
fields_joined (x ∷ xs) ds a =
    ap (λ fs. cond (eqb x 59) ([] ∷ fs) (onto_first x fs)) (fields_joined xs ds a) ∙ split (eqb x 59)
  where
    split : (t : Bool) → cond t ([] ∷ (fields xs ++ ds ∷ [])) (onto_first x (fields xs ++ ds ∷ [])) ≡ cond t ([] ∷ fields xs) (onto_first x (fields xs)) ++ ds ∷ []
    split true = refl
    split false = onto_of_both x (fields xs) (ds ∷ []) (some_field xs)

-- the number of a byte is one field
one_more : (xs : List ℕ) (n : ℕ) → n < 256 → fields ((xs ++ 59 ∷ []) ++ decimal n) ≡ fields xs ++ decimal n ∷ []
one_more xs n small = fields_joined xs (decimal n) (decimal_digits n (omega (arith, small)))

three_more : (xs : List ℕ) (r g b : ℕ) → r < 256 → g < 256 → b < 256
    → fields ((xs ++ 59 ∷ []) ++ decimal r ++ 59 ∷ [] ++ decimal g ++ 59 ∷ [] ++ decimal b) ≡ fields xs ++ decimal r ∷ [] ++ decimal g ∷ [] ++ decimal b ∷ []
three_more xs r g b p q s =
    one_more ((xs ++ 59 ∷ []) ++ decimal r ++ 59 ∷ [] ++ decimal g) b s
    ∙ ap (λ fs. fs ++ decimal b ∷ []) (one_more ((xs ++ 59 ∷ []) ++ decimal r) g q ∙ ap (λ fs. fs ++ decimal g ∷ []) (one_more xs r p))

byte_value : (n : ℕ) → n < 256 → value_after 0 (decimal n) ≡ n
byte_value n small = decimal_value n (omega (arith, small))

-- a colour of a kind is selected by its parameters, where the digit before them and what stands after it lead to that
-- kind
color_selected : (kind : ColorAttribute → AttributeChange) (digit : ℕ) (a : CellAttributes)
    → selected (digit ∷ codes "9") a ≡ with_attribute (kind Default) a
    → ((index : List ℕ) → (selected_by (fields (digit ∷ codes "8;5") ++ index ∷ []) (selects a)).attributes ≡ with_attribute (kind (PaletteIndex (value_after 0 index))) a)
    → ((r g b : List ℕ) → (selected_by (fields (digit ∷ codes "8;2") ++ r ∷ [] ++ g ∷ [] ++ b ∷ []) (selects a)).attributes
    ≡ with_attribute (kind (TrueColorWithDefaultFallback (value_after 0 r) (value_after 0 g) (value_after 0 b))) a)
    → (color : ColorAttribute) → IsColor color → selected (color_parameters (digit ∷ []) color) a ≡ with_attribute (kind color) a
color_selected kind digit a default indexed mixed Default fits = default
color_selected kind digit a default indexed mixed (PaletteIndex index) fits =
    ap (λ fs. (selected_by fs (selects a)).attributes) (one_more (digit ∷ codes "8;5") index fits)
    ∙ indexed (decimal index)
    ∙ ap (λ n. with_attribute (kind (PaletteIndex n)) a) (byte_value index fits)
color_selected kind digit a default indexed mixed (TrueColorWithDefaultFallback r g b) fits =
    ap (λ fs. (selected_by fs (selects a)).attributes) (three_more (digit ∷ codes "8;2") r g b fits.0 fits.1 fits.2)
    ∙ mixed (decimal r) (decimal g) (decimal b)
    ∙ ap (λ n. with_attribute (kind (TrueColorWithDefaultFallback n (value_after 0 (decimal g)) (value_after 0 (decimal b)))) a) (byte_value r fits.0)
    ∙ ap (λ n. with_attribute (kind (TrueColorWithDefaultFallback r n (value_after 0 (decimal b)))) a) (byte_value g fits.1)
    ∙ ap (λ n. with_attribute (kind (TrueColorWithDefaultFallback r g n)) a) (byte_value b fits.2)

-- the number of a byte, after other parameters
byte_parameters : (xs ys : List ℕ) (n : ℕ) → n < 256 → list_all is_parameter xs ≡ true → list_all is_parameter ys ≡ true → list_all is_parameter (xs ++ ys ++ decimal n) ≡ true
byte_parameters xs ys n small a b =
    list_all-append is_parameter (xs ++ ys) (decimal n)
    ∙ and_from _ _ (list_all-append is_parameter xs ys ∙ and_from _ _ a b) (decimal_parameters n (omega (arith, small)))

color_is_parameters : (kind : List ℕ) (color : ColorAttribute) → list_all is_parameter kind ≡ true → IsColor color → list_all is_parameter (color_parameters kind color) ≡ true
color_is_parameters kind Default a fits = list_all-append is_parameter kind (codes "9") ∙ and_from _ _ a refl
color_is_parameters kind (PaletteIndex index) a fits = byte_parameters kind (codes "8;5;") index fits a refl
color_is_parameters kind (TrueColorWithDefaultFallback r g b) a fits =
    let red = byte_parameters kind (codes "8;2;") r fits.0 a refl in
    let green = byte_parameters (kind ++ codes "8;2;" ++ decimal r) (codes ";") g fits.1 red refl in
    byte_parameters (kind ++ codes "8;2;" ++ decimal r ++ codes ";" ++ decimal g) (codes ";") b fits.2 green refl

-- ---- attributes that are off

-- setting an attribute that is off changes nothing where it has its first value
intensity_off : (to : _) (a : CellAttributes) → a.intensity ≡ intensity.Normal → is_off (Intensity to) ≡ true → a ≡ with_attribute (Intensity to) a
intensity_off intensity.Normal a first off = ap (λ x. record a { intensity = x }) first
intensity_off intensity.Bold a first off = absurd (cc off)
intensity_off intensity.Half a first off = absurd (cc off)

underline_off : (to : _) (a : CellAttributes) → a.underline ≡ underline.None → is_off (Underline to) ≡ true → a ≡ with_attribute (Underline to) a
underline_off underline.None a first off = ap (λ x. record a { underline = x }) first
underline_off underline.Single a first off = absurd (cc off)
underline_off underline.Double a first off = absurd (cc off)
underline_off underline.Curly a first off = absurd (cc off)
underline_off underline.Dotted a first off = absurd (cc off)
underline_off underline.Dashed a first off = absurd (cc off)

blink_off : (to : _) (a : CellAttributes) → a.blink ≡ blink.None → is_off (Blink to) ≡ true → a ≡ with_attribute (Blink to) a
blink_off blink.None a first off = ap (λ x. record a { blink = x }) first
blink_off blink.Slow a first off = absurd (cc off)
blink_off blink.Rapid a first off = absurd (cc off)

-- a switch
switch_off : (kind : Bool → AttributeChange) (to : Bool) (a : CellAttributes) → a ≡ with_attribute (kind false) a → is_off (kind true) ≡ false
    → is_off (kind to) ≡ true → a ≡ with_attribute (kind to) a
switch_off kind false a first on off = first
switch_off kind true a first on off = absurd (cc (sym on ∙ off))

-- a colour
color_off : (kind : ColorAttribute → AttributeChange) (to : ColorAttribute) (a : CellAttributes) → a ≡ with_attribute (kind Default) a
    → ((index : ℕ) → is_off (kind (PaletteIndex index)) ≡ false) → ((r g b : ℕ) → is_off (kind (TrueColorWithDefaultFallback r g b)) ≡ false)
    → is_off (kind to) ≡ true → a ≡ with_attribute (kind to) a
color_off kind Default a first indexed mixed off = first
color_off kind (PaletteIndex index) a first indexed mixed off = absurd (cc (sym (indexed index) ∙ off))
color_off kind (TrueColorWithDefaultFallback r g b) a first indexed mixed off = absurd (cc (sym (mixed r g b) ∙ off))

module _ {A C : Type 0} (pen : Pen A C) where
  -- a terminal at rest with these attributes
  abbrev with : CellAttributes → EcmaScreen C → EcmaScreen C
  with a t = record t { rendition = a; reading = terminal.Text }

  -- a sequence of parameters that selects
  chosen : (h w : ℕ) (change : AttributeChange) (t : EcmaScreen C) → list_all is_parameter (attribute_parameters change) ≡ true
      → selected (attribute_parameters change) t.rendition ≡ with_attribute change t.rendition
      → receive_all pen h w (set_attribute change) (at_rest t) ≡ with (with_attribute change t.rendition) t
  chosen h w change t all is = acted pen h w 109 (attribute_parameters change) t all refl ∙ ap (λ a. with a t) is

  pub attribute_is_selected : AttributeIsSelected pen
  attribute_is_selected h w (Intensity intensity.Normal) t fits = chosen h w (Intensity intensity.Normal) t refl refl
  attribute_is_selected h w (Intensity intensity.Bold) t fits = chosen h w (Intensity intensity.Bold) t refl refl
  attribute_is_selected h w (Intensity intensity.Half) t fits = chosen h w (Intensity intensity.Half) t refl refl
  attribute_is_selected h w (Underline underline.None) t fits = chosen h w (Underline underline.None) t refl refl
  attribute_is_selected h w (Underline underline.Single) t fits = chosen h w (Underline underline.Single) t refl refl
  attribute_is_selected h w (Underline underline.Double) t fits = chosen h w (Underline underline.Double) t refl refl
  attribute_is_selected h w (Underline underline.Curly) t fits = chosen h w (Underline underline.Curly) t refl refl
  attribute_is_selected h w (Underline underline.Dotted) t fits = chosen h w (Underline underline.Dotted) t refl refl
  attribute_is_selected h w (Underline underline.Dashed) t fits = chosen h w (Underline underline.Dashed) t refl refl
  attribute_is_selected h w (Blink blink.None) t fits = chosen h w (Blink blink.None) t refl refl
  attribute_is_selected h w (Blink blink.Slow) t fits = chosen h w (Blink blink.Slow) t refl refl
  attribute_is_selected h w (Blink blink.Rapid) t fits = chosen h w (Blink blink.Rapid) t refl refl
  attribute_is_selected h w (Italic false) t fits = chosen h w (Italic false) t refl refl
  attribute_is_selected h w (Italic true) t fits = chosen h w (Italic true) t refl refl
  attribute_is_selected h w (Reverse false) t fits = chosen h w (Reverse false) t refl refl
  attribute_is_selected h w (Reverse true) t fits = chosen h w (Reverse true) t refl refl
  attribute_is_selected h w (StrikeThrough false) t fits = chosen h w (StrikeThrough false) t refl refl
  attribute_is_selected h w (StrikeThrough true) t fits = chosen h w (StrikeThrough true) t refl refl
  attribute_is_selected h w (Invisible false) t fits = chosen h w (Invisible false) t refl refl
  attribute_is_selected h w (Invisible true) t fits = chosen h w (Invisible true) t refl refl
  attribute_is_selected h w (Foreground color) t fits =
      chosen h w (Foreground color) t (color_is_parameters (codes "3") color refl fits)
      (color_selected Foreground 51 t.rendition refl (λ index. refl) (λ r g b. refl) color fits)
  attribute_is_selected h w (Background color) t fits =
      chosen h w (Background color) t (color_is_parameters (codes "4") color refl fits)
      (color_selected Background 52 t.rendition refl (λ index. refl) (λ r g b. refl) color fits)

  -- an attribute that is not sent where it is off
  unless_off : (h w : ℕ) (change : AttributeChange) (t : EcmaScreen C) → IsAttribute change
      → (is_off change ≡ true → t.rendition ≡ with_attribute change t.rendition)
      → receive_all pen h w (set_unless_off change) (at_rest t) ≡ with (with_attribute change t.rendition) t
  unless_off h w change t fits first = by_cases (is_off change) refl
    where
      by_cases : (off : Bool) → is_off change ≡ off → receive_all pen h w (cond off [] (set_attribute change)) (at_rest t) ≡ with (with_attribute change t.rendition) t
      by_cases true is = ap (λ a. with a t) (first is)
      by_cases false is = attribute_is_selected h w change t fits

  -- and others after it
  then_more : (h w : ℕ) (change : AttributeChange) (more : List AttributeChange) (a b : CellAttributes) (t : EcmaScreen C) → IsAttribute change
      → (is_off change ≡ true → a ≡ with_attribute change a)
      → receive_all pen h w (flat_map set_unless_off more) (with (with_attribute change a) t) ≡ with b t
      → receive_all pen h w (flat_map set_unless_off (change ∷ more)) (with a t) ≡ with b t
  then_more h w change more a b t fits first rest =
      received pen h w (set_unless_off change) (flat_map set_unless_off more) (with a t)
      ∙ ap (receive_all pen h w (flat_map set_unless_off more)) (unless_off h w change (with a t) fits first)
      ∙ rest

  pub attributes_are_selected : AttributesAreSelected pen
  attributes_are_selected h w to t p q =
      let d : CellAttributes = default_attributes in
      let a : CellAttributes = record d { intensity = to.intensity } in
      let b : CellAttributes = record a { underline = to.underline } in
      let c : CellAttributes = record b { blink = to.blink } in
      let e : CellAttributes = record c { italic = to.italic } in
      let f : CellAttributes = record e { reverse = to.reverse } in
      let g : CellAttributes = record f { strikethrough = to.strikethrough } in
      let i : CellAttributes = record g { invisible = to.invisible } in
      let j : CellAttributes = record i { foreground = to.foreground } in
      let last : List AttributeChange = Background to.background ∷ [] in
      let colors : List AttributeChange = Foreground to.foreground ∷ last in
      let hidden : List AttributeChange = Invisible to.invisible ∷ colors in
      let struck : List AttributeChange = StrikeThrough to.strikethrough ∷ hidden in
      let reversed : List AttributeChange = Reverse to.reverse ∷ struck in
      let slanted : List AttributeChange = Italic to.italic ∷ reversed in
      let blinking : List AttributeChange = Blink to.blink ∷ slanted in
      let lined : List AttributeChange = Underline to.underline ∷ blinking in
      received pen h w (sequence (codes "0") (codes "m")) (flat_map set_unless_off (attributes_of to)) (at_rest t)
      ∙ then_more h w (Intensity to.intensity) lined d to t tt (intensity_off to.intensity d refl)
      (then_more h w (Underline to.underline) blinking a to t tt (underline_off to.underline a refl)
      (then_more h w (Blink to.blink) slanted b to t tt (blink_off to.blink b refl)
      (then_more h w (Italic to.italic) reversed c to t tt (switch_off Italic to.italic c refl refl)
      (then_more h w (Reverse to.reverse) struck e to t tt (switch_off Reverse to.reverse e refl refl)
      (then_more h w (StrikeThrough to.strikethrough) hidden f to t tt (switch_off StrikeThrough to.strikethrough f refl refl)
      (then_more h w (Invisible to.invisible) colors g to t tt (switch_off Invisible to.invisible g refl refl)
      (then_more h w (Foreground to.foreground) last i to t p (color_off Foreground to.foreground i refl (λ index. refl) (λ r g b. refl))
      (then_more h w (Background to.background) [] j to t q (color_off Background to.background j refl (λ index. refl) (λ r g b. refl)) refl))))))))
