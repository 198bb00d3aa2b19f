-- The glyphs of plain texts are their characters.
use Rattle.std.proofs.Common.{◌≡◌, ℕ, ◌≤◌, true, ◌&&◌, eqb, List, [], ◌∷◌, map, refl, sym, ap, ◌∙◌, arith, if◌then◌else◌}
use Rattle.std.specs.List.{list_all, flat_map}
use Rattle.std.proofs.lemmas.Bool.{and_parts, and_from, le-leb, false≢true}
use Rattle.std.proofs.lemmas.Bool.Decides.{nat_tests}
use Rattle.std.proofs.lemmas.List.{map-append}
use Rattle.std.proofs.lemmas.List.Concat.{flat_map_single}
use Rattle.std.proofs.lemmas.Simd.{map-map}
use Rattle.std.proofs.Math.Path.{fun_ext}
use Rattle.laws_screens.proofs.DrawnChanges.{lines-map}
use Rattle.std.proofs.lemmas.List.Folds.{list_all-append}
use Rattle.tw_surface.specs.ChangeView.{Batch, Attribute, AllAttributes, Text}
use Rattle.tw_surface.specs.Characters.{is_plain, is_printable, cr, lf}
use Rattle.tw_surface.specs.Lines.{before_lines, lines_of}
use Rattle.tw_surface.specs.Places.{plain_piece}
use Rattle.tw_surface.specs.Scenes.{typed_text, is_text, is_typing}
use Rattle.laws_screens.specs.Glyphs.{Glyph, glyphs_of_piece, glyphs, typed_glyphs, is_pair, before_by, lines_by, fits_in, types_fitting}
use Rattle.laws_screens.specs.Glyphs.Glyph.{Cr, Lf, Cluster}
use Rattle.laws_screens.specs.Pens.{Pen, glyph_stroke, char_stroke}

-- the glyph of a character of a plain text
abbrev pub glyph_of : ℕ → Glyph
glyph_of ch = if eqb ch cr then Cr else if eqb ch lf then Lf else Cluster (ch ∷ []) 1

one_glyph : (ch : ℕ) → glyphs_of_piece (ch ∷ []) (plain_piece ch) ≡ glyph_of ch ∷ []
one_glyph ch = grind (arith, nat_tests)

pub all_glyphs : (text : List ℕ) → flat_map (λ ch. glyphs_of_piece (ch ∷ []) (plain_piece ch)) text ≡ map glyph_of text
all_glyphs text = ap (λ f. flat_map f text) (fun_ext one_glyph) ∙ flat_map_single glyph_of text

pub plain_glyphs : (text : List ℕ) → list_all is_plain text ≡ true → glyphs text ≡ map glyph_of text
unfolding glyphs
plain_glyphs text h = grind (arith, nat_tests, h, all_glyphs text)

pub plain_from_printable : (text : List ℕ) → list_all is_printable text ≡ true → list_all is_plain text ≡ true
plain_from_printable [] h = refl
plain_from_printable (ch ∷ text) h =
    let both = and_parts (is_printable ch) (list_all is_printable text) h in
    let this : is_plain ch ≡ true = grind (arith, nat_tests) in
    and_from _ _ this (plain_from_printable text both.1)

pub printable_glyph : (ch : ℕ) → is_printable ch ≡ true → glyph_of ch ≡ Cluster (ch ∷ []) 1
printable_glyph ch h = grind (arith, nat_tests)

pub printable_within : (w : ℕ) (text : List ℕ) → 2 ≤ w → list_all is_printable text ≡ true → list_all (fits_in w) (map glyph_of text) ≡ true
printable_within w [] two h = refl
printable_within w (ch ∷ text) two h =
    let both = and_parts (is_printable ch) (list_all is_printable text) h in
    and_from _ _ (ap (fits_in w) (printable_glyph ch both.0) ∙ le-leb 1 w (omega (arith, two))) (printable_within w text two both.1)

-- ---- lines

pair_is : (x y : ℕ) → is_pair (glyph_of x) (glyph_of y) ≡ (eqb x cr && eqb y lf)
pair_is x y = grind (arith, nat_tests)

before_is : (x : ℕ) (ls : List (List ℕ)) → before_by glyph_of x ls ≡ before_lines x ls
before_is x [] = refl
before_is x ([] ∷ more) = refl
before_is x ((y ∷ line) ∷ more) = ap (λ k. if k then [] ∷ line ∷ more else (x ∷ y ∷ line) ∷ more) (pair_is x y)

lines_by-is : (text : List ℕ) → lines_by glyph_of text ≡ lines_of text
lines_by-is [] = refl
lines_by-is (x ∷ text) = before_is x (lines_by glyph_of text) ∙ ap (before_lines x) (lines_by-is text)

pub lines_are : (text : List ℕ) → lines_by (λ glyph. glyph) (map glyph_of text) ≡ map (map glyph_of) (lines_of text)
lines_are text = sym (lines-map glyph_of (λ glyph. glyph) text) ∙ ap (map (map glyph_of)) (lines_by-is text)

-- ---- changes

pub typed_are : (changes : Batch) → list_all is_text changes ≡ true → list_all is_plain (typed_text changes) ≡ true → typed_glyphs changes ≡ map glyph_of (typed_text changes)
typed_are [] a h = refl
typed_are (Text text ∷ changes) a h =
    let both = and_parts (list_all is_plain text) (list_all is_plain (typed_text changes)) (sym (list_all-append is_plain text (typed_text changes)) ∙ h) in
    cc (plain_glyphs text both.0, typed_are changes a both.1, map-append glyph_of text (typed_text changes))
typed_are (Attribute x ∷ changes) a h = typed_are changes a h
typed_are (AllAttributes x ∷ changes) a h = typed_are changes a h
typed_are (_ ∷ changes) a h = absurd (false≢true a)

-- what is typed is text, and printable, and fits in a row
pub typing_is : (changes : Batch) → list_all is_typing changes ≡ true
    → (list_all is_text changes ≡ true) × (list_all is_printable (typed_text changes) ≡ true) × ((w : ℕ) → 2 ≤ w → list_all (types_fitting w) changes ≡ true)
typing_is [] h = (refl, refl, λ w two. refl)
typing_is (Text text ∷ changes) h =
    let both = and_parts (list_all is_printable text) (list_all is_typing changes) h in
    let rest = typing_is changes both.1 in (
      rest.0,
      list_all-append is_printable text (typed_text changes) ∙ and_from _ _ both.0 rest.1,
      λ w two. and_from _ _ (ap (list_all (fits_in w)) (plain_glyphs text (plain_from_printable text both.0)) ∙ printable_within w text two both.0) (rest.2 w two),
    )
typing_is (Attribute x ∷ changes) h = typing_is changes h
typing_is (AllAttributes x ∷ changes) h = typing_is changes h
typing_is (_ ∷ changes) h = absurd (false≢true h)

-- ---- strokes

-- the stroke of a character's glyph
pub glyph_is_char : {A C : Type 0} (pen : Pen A C) (a : A) (ch : ℕ) → glyph_stroke pen a (glyph_of ch) ≡ char_stroke pen a ch
glyph_is_char pen a ch = grind (arith, nat_tests)

-- a plain text draws its characters
pub plain_strokes : {A C : Type 0} (pen : Pen A C) (a : A) (text : List ℕ) → list_all is_plain text ≡ true → map (glyph_stroke pen a) (glyphs text) ≡ map (char_stroke pen a) text
plain_strokes pen a text h = ap (map (glyph_stroke pen a)) (plain_glyphs text h) ∙ map-map (glyph_stroke pen a) glyph_of text ∙ ap (λ f. map f text) (fun_ext (glyph_is_char pen a))
