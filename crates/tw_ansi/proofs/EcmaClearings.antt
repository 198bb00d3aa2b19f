-- What a terminal does at each clearing that is sent.
use Rattle.std.proofs.Common.{◌≡◌, ◌-◌, ℕ, Bool, true, false, ◌&&◌, cond, eqb, min, List, ◌++◌, arith, ap, ◌∙◌, sym, refl}
use Rattle.std.proofs.lemmas.Bool.{eqb-true, and_parts}
use Rattle.laws_screens.specs.Strokes.{cleared_in}
use Rattle.tw_surface.specs.declared.cell.AttributeChange.TheVariants.{Background}
use Rattle.tw_surface.specs.declared.color.ColorAttribute.{ColorAttribute}
use Rattle.tw_surface.specs.declared.color.ColorAttribute.TheVariants.{Default, PaletteIndex, TrueColorWithDefaultFallback}
use Rattle.laws_screens.specs.Pens.{Pen}
use Rattle.tw_ansi.specs.Sequences.{set_attribute, clear_below, clear_rows, clear_all, clear_with, is_same_color}
use Rattle.tw_ansi.specs.EcmaScreen.{EcmaScreen, receive_all}
use Rattle.tw_ansi.specs.EcmaScreen as terminal
use Rattle.tw_ansi.specs.EcmaLaws.{at_rest, IsColor, ClearsBelow, ClearsRows, rows_cleared, ClearsAll}
use Rattle.tw_ansi.proofs.EcmaSequences.{received}
use Rattle.tw_ansi.proofs.EcmaRenditions.{attribute_is_selected}

same_color : (x y : ColorAttribute) → is_same_color x y ≡ true → x ≡ y
same_color Default Default same = refl
same_color Default (PaletteIndex i) same = absurd (cc same)
same_color Default (TrueColorWithDefaultFallback r g b) same = absurd (cc same)
same_color (PaletteIndex i) Default same = absurd (cc same)
same_color (PaletteIndex i) (PaletteIndex j) same = ap PaletteIndex (eqb-true i j same)
same_color (PaletteIndex i) (TrueColorWithDefaultFallback r g b) same = absurd (cc same)
same_color (TrueColorWithDefaultFallback r g b) Default same = absurd (cc same)
same_color (TrueColorWithDefaultFallback r g b) (PaletteIndex i) same = absurd (cc same)
same_color (TrueColorWithDefaultFallback r g b) (TrueColorWithDefaultFallback s i c) same =
    let first = and_parts (eqb r s && eqb g i) (eqb b c) same in
    let second = and_parts (eqb r s) (eqb g i) first.0 in
    ap (λ x. TrueColorWithDefaultFallback x g b) (eqb-true r s second.0)
    ∙ ap (λ x. TrueColorWithDefaultFallback s x b) (eqb-true g i second.1)
    ∙ ap (λ x. TrueColorWithDefaultFallback s i x) (eqb-true b c first.1)

module _ {A C : Type 0} (pen : Pen A C) where
  -- the terminal with a colour after the text
  abbrev over : ColorAttribute → EcmaScreen C → EcmaScreen C
  over color t = record t { rendition = record t.rendition { background = color } }

  -- what clears keeps to what it does under the colour that is set round it, and the one that was set is set again
  cleared_with : (h w : ℕ) (clear : List ℕ) (color : ColorAttribute) (f : EcmaScreen C → EcmaScreen C) (t : EcmaScreen C)
      → IsColor color → IsColor t.rendition.background
      → ((u : EcmaScreen C) → receive_all pen h w clear (at_rest u) ≡ at_rest (f u)) → ((u : EcmaScreen C) → (f u).rendition ≡ u.rendition)
      → receive_all pen h w (clear_with clear color t.rendition.background) (at_rest t)
      ≡ record (f (over color t)) { rendition = t.rendition; reading = terminal.Text }
  cleared_with h w clear color f t p q does keeps = by_cases (is_same_color color t.rendition.background) refl
    where
      set : ColorAttribute
      set = t.rendition.background

      by_cases : (same : Bool) → is_same_color color set ≡ same
          → receive_all pen h w (cond same clear (set_attribute (Background color) ++ clear ++ set_attribute (Background set))) (at_rest t)
          ≡ record (f (over color t)) { rendition = t.rendition; reading = terminal.Text }
      by_cases true is =
          does t ∙ ap (λ a. record (f t) { rendition = a; reading = terminal.Text }) (keeps t)
          ∙ ap (λ c. record (f (over c t)) { rendition = t.rendition; reading = terminal.Text }) (sym (same_color color set is))
      by_cases false is =
          received pen h w (set_attribute (Background color) ++ clear) (set_attribute (Background set)) (at_rest t)
          ∙ ap (receive_all pen h w (set_attribute (Background set)))
          (received pen h w (set_attribute (Background color)) clear (at_rest t)
          ∙ ap (receive_all pen h w clear) (attribute_is_selected pen h w (Background color) t p) ∙ does (over color t))
          ∙ attribute_is_selected pen h w (Background set) (f (over color t)) q
          ∙ ap (λ a. record (f (over color t)) { rendition = record a { background = set }; reading = terminal.Text }) (keeps (over color t))

  pub clears_below : ClearsBelow pen
  clears_below h w color t p q =
      cleared_with h w clear_below color (λ u. record u { cell = cleared_in u.cell u.row u.col (pen.paper u.rendition.background) }) t p q (λ u. refl) (λ u. refl)

  pub clears_rows : ClearsRows pen
  clears_rows h w color t p q =
      cleared_with h w clear_rows color (λ u. record u { cell = rows_cleared w (pen.paper u.rendition.background) u; col = 0; waits = false }) t p q
      (λ u. refl) (λ u. refl)

  pub clears_all : ClearsAll pen
  clears_all h w color t p q =
      let home : EcmaScreen C = record t { row = min (h - 1) 0; col = 0; waits = false } in
      cleared_with h w clear_all color (λ u. record u { cell = λ r c. pen.paper u.rendition.background }) home p q (λ u. refl) (λ u. refl)
      ∙ ap (λ r. record t { cell = λ i j. pen.paper color; row = r; col = 0; waits = false; reading = terminal.Text }) (omega arith)
