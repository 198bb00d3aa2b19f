-- Plain scenes are measured ones.
use Rattle.std.proofs.Common.{◌≡◌, append-nil, ℕ, ◌≤◌, true, List, [], ◌∷◌, map, refl, sym, ap, ◌∙◌}
use Rattle.std.specs.List.{list_all}
use Rattle.std.proofs.lemmas.Bool.{and_parts, and_from}
use Rattle.tw_surface.specs.Characters.{is_plain, is_printable, cr, lf}
use Rattle.tw_surface.specs.Lines.{lines_of}
use Rattle.tw_surface.specs.Paintings.{lower_changes}
use Rattle.tw_surface.specs.Scenes.{Scene, IsPlain, Lower, IsPlainLower, typed_text}
use Rattle.tw_surface.specs.Scenes.Lower.{NoLower, Preview, Search}
use Rattle.laws_screens.specs.Glyphs.{lines_by, fits_in, IsMeasuredLower, IsMeasured}
use Rattle.laws_screens.proofs.PlainGlyphs.{glyph_of, plain_glyphs, plain_from_printable, printable_within, lines_are, typed_are, typing_is}
use Rattle.laws_screens.proofs.PlainTexts.{breaks-lines, breaks-plain}

lines_within : (w : ℕ) (lines : List (List ℕ)) → 2 ≤ w → list_all (list_all is_printable) lines ≡ true → list_all (list_all (fits_in w)) (map (map glyph_of) lines) ≡ true
lines_within w [] two h = refl
lines_within w (line ∷ more) two h =
    let both = and_parts (list_all is_printable line) (list_all (list_all is_printable) more) h in
    and_from _ _ (printable_within w line two both.0) (lines_within w more two both.1)

pub lower_plain : (lower : Lower) → IsPlainLower lower → list_all is_plain (typed_text (lower_changes lower)) ≡ true
lower_plain NoLower a = refl
lower_plain (Preview elements) a = ap (list_all is_plain) (sym (breaks-lines (typed_text elements))) ∙ breaks-plain (lines_of (typed_text elements)) a.1
lower_plain (Search text) a = ap (list_all is_plain) (append-nil text) ∙ plain_from_printable text a

measured_lower : (w : ℕ) (lower : Lower) → 2 ≤ w → IsPlainLower lower → IsMeasuredLower w lower
measured_lower w NoLower two a = tt
measured_lower w (Preview elements) two a = (
  a.0,
  ap (λ l. list_all (list_all (fits_in w)) (lines_by (λ glyph. glyph) l)) (typed_are elements a.0 (lower_plain (Preview elements) a))
      ∙ ap (list_all (list_all (fits_in w))) (lines_are (typed_text elements)) ∙ lines_within w (lines_of (typed_text elements)) two a.1,
)
measured_lower w (Search text) two a =
    let plain = plain_from_printable text a in
    let is = plain_glyphs text plain in (
      plain_glyphs (cr ∷ lf ∷ text) plain ∙ ap (λ l. glyph_of cr ∷ glyph_of lf ∷ l) (sym is),
      ap (list_all (fits_in w)) is ∙ printable_within w text two a,
    )

pub plain_is_measured : (w : ℕ) (scene : Scene) → 2 ≤ w → IsPlain scene → IsMeasured w scene
plain_is_measured w scene two plain = record {
  prompt = (typing_is scene.prompt plain.prompt).2 w two;
  line = (typing_is scene.line plain.line).2 w two;
  lower = measured_lower w scene.lower two plain.lower;
}
