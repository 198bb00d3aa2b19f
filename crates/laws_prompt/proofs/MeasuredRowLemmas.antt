-- Lines of measured rows have rows, and printable rows are measured.
use Rattle.std.proofs.Common.{◌≡◌, ℕ, ◌||◌, Bool, true, false, List, [], ◌∷◌, ◌++◌, map, length, refl, sym, ap, subst, ◌∙◌, arith, eqb, ltb, leb, append-nil, append_assoc, if◌then◌else◌, ◌≤◌, ◌+◌, ◌%◌, ◌<◌}
use Rattle.std.specs.List.{list_all, AllByRecursion}
use Rattle.std.specs.Str.{IsUtf8}
use Rattle.std.proofs.lemmas.Bool.{and_parts, and_from, le-leb, false≢true}
use Rattle.std.proofs.lemmas.List.{map-append}
use Rattle.std.proofs.lemmas.Str.{IsUtf8-append}
use Rattle.tw_surface.specs.ChangeView.{Batch, Attribute, AllAttributes, Text}
use Rattle.tw_surface.specs.Characters.{cr, lf, is_printable}
use Rattle.tw_surface.specs.Defaults.{default_attributes}
use Rattle.tw_surface.specs.Lines.{lines_of, text_of_lines}
use Rattle.tw_surface.specs.Paintings.{edge_space, lower_changes}
use Rattle.tw_surface.specs.Pictures.{blank}
use Rattle.tw_surface.specs.Scenes.{Scene, Lower, is_text, IsPlain, IsPlainLower, is_typing, typed_text}
use Rattle.tw_surface.specs.Scenes.Lower.{NoLower, Preview, Search}
use Rattle.laws_screens.specs.Strokes.{Stroke}
use Rattle.laws_screens.specs.Strokes.Stroke.{Return, Feed}
use Rattle.laws_screens.specs.Glyphs.{Glyph, glyphs, typed_glyphs, before_by, lines_by, is_pair, fits_in, types_fitting, IsMeasured, IsMeasuredLower}
use Rattle.laws_screens.specs.Glyphs.Glyph.{Cr, Lf, Cluster}
use Rattle.laws_screens.specs.Pens.{Pen, kept_after_all, glyph_stroke, strokes_of}
use Rattle.laws_screens.specs.RowScenes.{place_behind, folded, HasRows}
use Rattle.laws_screens.proofs.DrawnScenes.{crlf_is, text-append}
use Rattle.laws_screens.proofs.GlyphSeams.{glyphs_around, line_end_utf8, plain_utf8}
use Rattle.laws_screens.proofs.PlainTexts.{text_of_lines-lines}
use Rattle.laws_prompt.specs.MeasuredRows.{has_pair, first_in, first_row_changes, others_in, other_rows, IsMeasuredRow, TypesMeasuredRows, HasMeasuredRows, MeasuredRowsAreRows, is_row_typing, HasPlainRows, PlainRowsAreMeasured}
use Rattle.laws_prompt.proofs.RowTexts.{some_lines, both_hold, are_rows, printable_rows, joined_rows, broken_rows, rows_after}
use Rattle.tw_surface.specs.Places.{Place, origin}
use Rattle.laws_screens.proofs.PlainGlyphs.{plain_from_printable, plain_glyphs, printable_within}
use Rattle.laws_screens.proofs.PlainScenes.{plain_is_measured}
use Rattle.laws_prompt.proofs.ColumnLemmas.{IsTip, tip-start, tip-full, tip-changes}

-- ---- lines of glyphs

abbrev are_lines : ℕ → List Glyph → Bool
are_lines w text = list_all (list_all (fits_in w)) (lines_by (λ glyph. glyph) text)

some_glyph_line : (text : List Glyph) → (line : List Glyph) × (more : List (List Glyph)) × (lines_by (λ glyph. glyph) text ≡ line ∷ more)
some_glyph_line [] = ([], [], refl)
some_glyph_line (g ∷ text) = let it = some_glyph_line text in rw it.2 (before it.0 it.1)
  where
    before : (line : List Glyph) (more : List (List Glyph)) → (first : List Glyph) × (rest : List (List Glyph)) × (before_by (λ glyph. glyph) g (line ∷ more) ≡ first ∷ rest)
    before [] more = (g ∷ [], more, refl)
    before (y ∷ line) more = by (is_pair g y)
      where
        by : (k : Bool) → (first : List Glyph) × (rest : List (List Glyph)) × ((if k then [] ∷ line ∷ more else (g ∷ y ∷ line) ∷ more) ≡ first ∷ rest)
        by true = ([], line ∷ more, refl)
        by false = (g ∷ y ∷ line, more, refl)

-- a line end ends a line
behind_end : (w : ℕ) (text : List Glyph) → are_lines w text ≡ true → are_lines w (Cr ∷ Lf ∷ text) ≡ true
behind_end w text h = let it = some_glyph_line text in ap (list_all (list_all (fits_in w))) (ap (λ l. before_by (λ glyph. glyph) Cr (before_by (λ glyph. glyph) Lf l)) it.2 ∙ by it.0 it.1) ∙ sym (ap (list_all (list_all (fits_in w))) it.2) ∙ h
  where
    by : (line : List Glyph) (more : List (List Glyph)) → before_by (λ glyph. glyph) Cr (before_by (λ glyph. glyph) Lf (line ∷ more)) ≡ [] ∷ line ∷ more
    by [] more = refl
    by (y ∷ line) more = refl

-- what is within goes into the first line
behind_within : (w : ℕ) (line text : List Glyph) → list_all (fits_in w) line ≡ true → are_lines w text ≡ true → are_lines w (line ++ text) ≡ true
behind_within w [] text h k = k
behind_within w (Cr ∷ line) text h k = absurd (false≢true h)
behind_within w (Lf ∷ line) text h k = absurd (false≢true h)
behind_within w (Cluster c n ∷ line) text h k =
    let both = and_parts (leb n w) (list_all (fits_in w) line) h in
    let it = some_glyph_line (line ++ text) in
    let more : list_all (list_all (fits_in w)) (it.0 ∷ it.1) ≡ true = sym (ap (list_all (list_all (fits_in w))) it.2) ∙ behind_within w line text both.1 k in
    ap (λ l. list_all (list_all (fits_in w)) (before_by (λ glyph. glyph) (Cluster c n) l)) it.2 ∙ by it.0 it.1 both.0 more
  where
    by : (first : List Glyph) (rest : List (List Glyph)) → leb n w ≡ true → list_all (list_all (fits_in w)) (first ∷ rest) ≡ true
        → list_all (list_all (fits_in w)) (before_by (λ glyph. glyph) (Cluster c n) (first ∷ rest)) ≡ true
    by [] rest fits all = and_from _ _ (and_from _ _ fits refl) all
    by (y ∷ first) rest fits all =
        let parts = and_parts (list_all (fits_in w) (y ∷ first)) (list_all (list_all (fits_in w)) rest) all in
        and_from _ _ (and_from _ _ fits parts.0) parts.1

-- ---- a text by its rows

pub record TextParts (text : List ℕ) : Type 0 where
  pub line : List ℕ
  pub more : List (List ℕ)
  pub are : lines_of text ≡ line ∷ more
  pub text_is : text_of_lines (line ∷ more) ≡ text

pub parts_of : (text : List ℕ) → TextParts text
parts_of text = let it = some_lines text in record { line = it.0; more = it.1; are = it.2; text_is = ap text_of_lines (sym it.2) ∙ text_of_lines-lines text }

module _ (w : ℕ) where
  abbrev AreRows : List (List ℕ) → Type 0
  AreRows rows = AllByRecursion (IsMeasuredRow w) rows

  utf8_rows : (line : List ℕ) (more : List (List ℕ)) → AreRows (line ∷ more) → IsUtf8 (text_of_lines (line ∷ more))
  utf8_rows line [] all = all.0.utf8
  utf8_rows line (next ∷ more) all =
      IsUtf8-append line (cr ∷ lf ∷ text_of_lines (next ∷ more)) all.0.utf8 (IsUtf8-append (cr ∷ lf ∷ []) (text_of_lines (next ∷ more)) line_end_utf8 (utf8_rows next more all.1))

  -- the glyphs of the first row, a line end, and those of the others
  rows_apart : (line next : List ℕ) (more : List (List ℕ)) → AreRows (line ∷ next ∷ more)
      → glyphs (text_of_lines (line ∷ next ∷ more)) ≡ glyphs line ++ Cr ∷ Lf ∷ glyphs (text_of_lines (next ∷ more))
  rows_apart line next more all = glyphs_around line (text_of_lines (next ∷ more)) all.0.utf8 (utf8_rows next more all.1) (utf8_rows line (next ∷ more) all)

  rows_then : (line : List ℕ) (more : List (List ℕ)) (rest : List Glyph) → AreRows (line ∷ more) → are_lines w rest ≡ true
      → are_lines w (glyphs (text_of_lines (line ∷ more)) ++ rest) ≡ true
  rows_then line [] rest all h = behind_within w (glyphs line) rest all.0.within h
  rows_then line (next ∷ more) rest all h =
      ap (λ l. are_lines w (l ++ rest)) (rows_apart line next more all)
      ∙ ap (are_lines w) (append_assoc (glyphs line) (Cr ∷ Lf ∷ glyphs (text_of_lines (next ∷ more))) rest)
      ∙ behind_within w (glyphs line) (Cr ∷ Lf ∷ (glyphs (text_of_lines (next ∷ more)) ++ rest)) all.0.within
      (behind_end w (glyphs (text_of_lines (next ∷ more)) ++ rest) (rows_then next more rest all.1 h))

  -- ---- the rows of a line

  abbrev TypesRows : Batch → Type 0
  TypesRows line = AllByRecursion (TypesMeasuredRows w) line

  pub types_text : (line : Batch) → TypesRows line → list_all is_text line ≡ true
  types_text [] h = refl
  types_text (Text text ∷ more) h = types_text more h.1
  types_text (Attribute a ∷ more) h = types_text more h.1
  types_text (AllAttributes a ∷ more) h = types_text more h.1
  types_text (change ∷ more) h = absurd h.0

  lines_then : (line : Batch) (rest : List Glyph) → TypesRows line → are_lines w rest ≡ true → are_lines w (typed_glyphs line ++ rest) ≡ true
  lines_then [] rest h k = k
  lines_then (Text text ∷ more) rest h k =
      let it = parts_of text in
      let all : AreRows (it.line ∷ it.more) = subst AreRows it.are h.0 in
      ap (are_lines w) (append_assoc (glyphs text) (typed_glyphs more) rest)
      ∙ ap (λ t. are_lines w (glyphs t ++ (typed_glyphs more ++ rest))) (sym it.text_is)
      ∙ rows_then it.line it.more (typed_glyphs more ++ rest) all (lines_then more rest h.1 k)
  lines_then (Attribute a ∷ more) rest h k = lines_then more rest h.1 k
  lines_then (AllAttributes a ∷ more) rest h k = lines_then more rest h.1 k
  lines_then (change ∷ more) rest h k = absurd h.0

  first_measured : (line : Batch) → TypesRows line → list_all (types_fitting w) (first_row_changes line) ≡ true
  first_measured [] h = refl
  first_measured (Text text ∷ more) h =
      let it = parts_of text in rw it.are (by it.line it.more (subst AreRows it.are h.0) (first_measured more h.1))
    where
      by : (line : List ℕ) (lines : List (List ℕ)) → AreRows (line ∷ lines) → list_all (types_fitting w) (first_row_changes more) ≡ true
          → list_all (types_fitting w) (first_in (line ∷ lines) (first_row_changes more)) ≡ true
      by line [] all rest = and_from _ _ all.0.within rest
      by line (next ∷ lines) all rest = and_from _ _ all.0.within refl
  first_measured (Attribute a ∷ more) h = first_measured more h.1
  first_measured (AllAttributes a ∷ more) h = first_measured more h.1
  first_measured (change ∷ more) h = absurd h.0

  others_text : (line : Batch) → TypesRows line → list_all is_text (other_rows line) ≡ true
  others_text [] h = refl
  others_text (Text text ∷ more) h = by (lines_of text) (types_text more h.1) (others_text more h.1)
    where
      by : (lines : List (List ℕ)) → list_all is_text more ≡ true → list_all is_text (other_rows more) ≡ true → list_all is_text (others_in lines more (other_rows more)) ≡ true
      by (line ∷ next ∷ lines) here rest = here
      by _ here rest = rest
  others_text (Attribute a ∷ more) h = others_text more h.1
  others_text (AllAttributes a ∷ more) h = others_text more h.1
  others_text (change ∷ more) h = absurd h.0

  others_then : (line : Batch) (rest : List Glyph) → TypesRows line → are_lines w rest ≡ true → are_lines w (typed_glyphs (other_rows line) ++ rest) ≡ true
  others_then [] rest h k = k
  others_then (Text text ∷ more) rest h k =
      let it = parts_of text in
      ap (λ l. are_lines w (typed_glyphs (others_in l more (other_rows more)) ++ rest)) it.are
      ∙ by it.line it.more (subst AreRows it.are h.0) (lines_then more rest h.1 k) (others_then more rest h.1 k)
    where
      by : (line : List ℕ) (lines : List (List ℕ)) → AreRows (line ∷ lines) → are_lines w (typed_glyphs more ++ rest) ≡ true → are_lines w (typed_glyphs (other_rows more) ++ rest) ≡ true
          → are_lines w (typed_glyphs (others_in (line ∷ lines) more (other_rows more)) ++ rest) ≡ true
      by line [] all here others = others
      by line (next ∷ lines) all here others =
          ap (are_lines w) (append_assoc (glyphs (text_of_lines (next ∷ lines))) (typed_glyphs more) rest) ∙ rows_then next lines (typed_glyphs more ++ rest) all.1 here
  others_then (Attribute a ∷ more) rest h k = others_then more rest h.1 k
  others_then (AllAttributes a ∷ more) rest h k = others_then more rest h.1 k
  others_then (change ∷ more) rest h k = absurd h.0

-- ---- what it draws

module _ {A C : Type 0} (pen : Pen A C) (w : ℕ) where
  drawn : (a : A) (line : Batch) → TypesRows w line → has_pair line ≡ true
      → strokes_of pen a line ≡ strokes_of pen a (first_row_changes line) ++ Return ∷ Feed ∷ strokes_of pen a (other_rows line)
  drawn a [] h p = absurd (false≢true p)
  drawn a (Text text ∷ more) h p =
      let it = parts_of text in
      ap (λ t. map (glyph_stroke pen a) (glyphs t) ++ strokes_of pen a more) (sym it.text_is)
      ∙ rw it.are (by it.line it.more (subst (AreRows w) it.are h.0) (rw it.are at p) (drawn a more h.1))
    where
      by : (line : List ℕ) (lines : List (List ℕ)) → AreRows w (line ∷ lines) → (ltb 1 (length (line ∷ lines)) || has_pair more) ≡ true
          → (has_pair more ≡ true → strokes_of pen a more ≡ strokes_of pen a (first_row_changes more) ++ Return ∷ Feed ∷ strokes_of pen a (other_rows more))
          → map (glyph_stroke pen a) (glyphs (text_of_lines (line ∷ lines))) ++ strokes_of pen a more
          ≡ strokes_of pen a (first_in (line ∷ lines) (first_row_changes more)) ++ Return ∷ Feed ∷ strokes_of pen a (others_in (line ∷ lines) more (other_rows more))
      by line [] all p rest =
          let one : List (Stroke C) = map (glyph_stroke pen a) (glyphs line) in
          ap (λ l. one ++ l) (rest p) ∙ sym (append_assoc one (strokes_of pen a (first_row_changes more)) (Return ∷ Feed ∷ strokes_of pen a (other_rows more)))
      by line (next ∷ lines) all p rest =
          let one : List (Stroke C) = map (glyph_stroke pen a) (glyphs line) in
          let two : List (Stroke C) = map (glyph_stroke pen a) (glyphs (text_of_lines (next ∷ lines))) in
          let left : List (Stroke C) = strokes_of pen a more in
          ap (λ l. l ++ left) (ap (map (glyph_stroke pen a)) (rows_apart w line next lines all) ∙ map-append (glyph_stroke pen a) (glyphs line) (Cr ∷ Lf ∷ glyphs (text_of_lines (next ∷ lines))))
          ∙ append_assoc one (Return ∷ Feed ∷ two) left
          ∙ ap (λ l. l ++ Return ∷ Feed ∷ (two ++ left)) (sym (append-nil one))
  drawn a (Attribute x ∷ more) h p = drawn (pen.attribute x a) more h.1 p
  drawn a (AllAttributes x ∷ more) h p = drawn (pen.attributes x) more h.1 p
  drawn a (change ∷ more) h p = absurd h.0

  kept_by_others : (a : A) (line : Batch) → kept_after_all pen a line ≡ kept_after_all pen a (other_rows line)
  kept_by_others a [] = refl
  kept_by_others a (Text text ∷ more) = by (lines_of text) (kept_by_others a more)
    where
      by : (lines : List (List ℕ)) → kept_after_all pen a more ≡ kept_after_all pen a (other_rows more)
          → kept_after_all pen a more ≡ kept_after_all pen a (others_in lines more (other_rows more))
      by (line ∷ next ∷ lines) rest = refl
      by _ rest = rest
  kept_by_others a (Attribute x ∷ more) = kept_by_others (pen.attribute x a) more
  kept_by_others a (AllAttributes x ∷ more) = kept_by_others (pen.attributes x) more
  kept_by_others a (change ∷ more) = kept_by_others a more

-- ---- the scene

glyphs-both : (x y : Batch) → typed_glyphs (x ++ y) ≡ typed_glyphs x ++ typed_glyphs y
glyphs-both [] y = refl
glyphs-both (Text text ∷ x) y = ap (λ l. glyphs text ++ l) (glyphs-both x y) ∙ sym (append_assoc (glyphs text) (typed_glyphs x) (typed_glyphs y))
glyphs-both (change ∷ x) y = glyphs-both x y

module _ (w : ℕ) (scene : Scene) (h : HasMeasuredRows w scene) where
  -- the space at the edge, and what stands under the line
  abbrev edge : Batch
  edge = edge_space w (place_behind w scene scene.line)

  abbrev low : Batch
  low = lower_changes scene.lower

  low_is : (lower : Lower) → IsMeasuredLower w lower → (list_all is_text (lower_changes lower) ≡ true) × (are_lines w (typed_glyphs (lower_changes lower)) ≡ true)
  low_is NoLower k = (refl, refl)
  low_is (Preview elements) k = (k.0, ap (λ l. are_lines w (l ++ typed_glyphs elements)) crlf_is ∙ behind_end w (typed_glyphs elements) k.1)
  low_is (Search text) k =
      (refl, ap (λ l. are_lines w (l ++ [])) k.0 ∙ behind_end w (glyphs text ++ []) (behind_within w (glyphs text) [] k.1 refl))

  space_within : list_all (fits_in w) (glyphs (blank ∷ [])) ≡ true
  unfolding glyphs
  space_within = and_from _ _ (le-leb 1 w (omega (arith, h.wide))) refl

  edge_is : (k : Bool) → (list_all is_text (if k then Text (blank ∷ []) ∷ [] else []) ≡ true)
      × ((rest : List Glyph) → are_lines w rest ≡ true → are_lines w (typed_glyphs (if k then Text (blank ∷ []) ∷ [] else []) ++ rest) ≡ true)
  edge_is true = (refl, λ rest k. ap (λ l. are_lines w (l ++ rest)) (append-nil (glyphs (blank ∷ []))) ∙ behind_within w (glyphs (blank ∷ [])) rest space_within k)
  edge_is false = (refl, λ rest k. k)

  folded_is_measured : IsMeasured w (folded w scene (first_row_changes scene.line) (other_rows scene.line))
  folded_is_measured =
      let at_edge = edge_is (eqb (place_behind w scene scene.line).x w) in
      let under = low_is scene.lower h.lower in
      record {
        prompt = h.prompt;
        line = first_measured w scene.line h.line;
        lower = (
          text-append (other_rows scene.line) (edge ++ low) (others_text w scene.line h.line) (text-append edge low at_edge.0 under.0),
          ap (are_lines w) (glyphs-both (other_rows scene.line) (edge ++ low) ∙ ap (λ l. typed_glyphs (other_rows scene.line) ++ l) (glyphs-both edge low))
              ∙ others_then w scene.line (typed_glyphs edge ++ typed_glyphs low) h.line (at_edge.1 (typed_glyphs low) under.1),
        );
      }

pub measured_rows_are_rows : {A C : Type 0} (pen : Pen A C) → MeasuredRowsAreRows pen
measured_rows_are_rows pen cols scene h = record {
  wide = h.wide;
  line = types_text cols scene.line h.line;
  drawn = drawn pen cols (pen.attributes default_attributes) scene.line h.line h.pair;
  kept = kept_by_others pen cols (pen.attributes default_attributes) scene.line;
  off_edge = h.off_edge;
  measured = folded_is_measured cols scene h;
}

-- ---- printable rows: texts

pub typed-both : (x y : Batch) → typed_text (x ++ y) ≡ typed_text x ++ typed_text y
typed-both [] y = refl
typed-both (Text text ∷ x) y = ap (λ (l : List ℕ). text ++ l) (typed-both x y) ∙ sym (append_assoc text (typed_text x) (typed_text y))
typed-both (change ∷ x) y = typed-both x y

pub rows_typed : (line : Batch) → list_all is_row_typing line ≡ true → are_rows (typed_text line) ≡ true
rows_typed [] h = refl
rows_typed (Text text ∷ more) h =
    let both = and_parts (are_rows text) (list_all is_row_typing more) h in
    rows_after text (typed_text more) both.0 (rows_typed more both.1)
rows_typed (Attribute a ∷ more) h = rows_typed more h
rows_typed (AllAttributes a ∷ more) h = rows_typed more h
rows_typed (change ∷ more) h = absurd (false≢true h)

-- ---- a text by its lines

lines_printable : (text line : List ℕ) (more : List (List ℕ)) → are_rows text ≡ true → lines_of text ≡ line ∷ more → list_all (list_all is_printable) (line ∷ more) ≡ true
lines_printable text line more h e = sym (ap (list_all (list_all is_printable)) e) ∙ h

-- ---- the rows of a line

pub first_typed : (line : Batch) → list_all is_row_typing line ≡ true → list_all is_typing (first_row_changes line) ≡ true
first_typed [] h = refl
first_typed (Text text ∷ more) h =
    let both = and_parts (are_rows text) (list_all is_row_typing more) h in
    let it = parts_of text in
    rw it.are (by it.line it.more (lines_printable text it.line it.more both.0 it.are) (first_typed more both.1))
  where
    by : (line : List ℕ) (lines : List (List ℕ)) → list_all (list_all is_printable) (line ∷ lines) ≡ true → list_all is_typing (first_row_changes more) ≡ true
        → list_all is_typing (first_in (line ∷ lines) (first_row_changes more)) ≡ true
    by line [] k rest = and_from (list_all is_printable line) (list_all is_typing (first_row_changes more)) (and_parts (list_all is_printable line) true k).0 rest
    by line (next ∷ lines) k rest = and_from (list_all is_printable line) true (and_parts (list_all is_printable line) (list_all (list_all is_printable) (next ∷ lines)) k).0 refl
first_typed (Attribute a ∷ more) h = first_typed more h
first_typed (AllAttributes a ∷ more) h = first_typed more h
first_typed (change ∷ more) h = absurd (false≢true h)

others_typed : (line : Batch) → list_all is_row_typing line ≡ true → list_all is_row_typing (other_rows line) ≡ true
others_typed [] h = refl
others_typed (Text text ∷ more) h =
    let both = and_parts (are_rows text) (list_all is_row_typing more) h in
    let it = parts_of text in
    rw it.are (by it.line it.more (lines_printable text it.line it.more both.0 it.are) both.1 (others_typed more both.1))
  where
    by : (line : List ℕ) (lines : List (List ℕ)) → list_all (list_all is_printable) (line ∷ lines) ≡ true → list_all is_row_typing more ≡ true → list_all is_row_typing (other_rows more) ≡ true
        → list_all is_row_typing (others_in (line ∷ lines) more (other_rows more)) ≡ true
    by line [] k rest rest' = rest'
    by line (next ∷ lines) k rest rest' =
        let p = and_parts (list_all is_printable line) (list_all (list_all is_printable) (next ∷ lines)) k in
        and_from (are_rows (text_of_lines (next ∷ lines))) (list_all is_row_typing more) (joined_rows next lines p.1) rest
others_typed (Attribute a ∷ more) h = others_typed more h
others_typed (AllAttributes a ∷ more) h = others_typed more h
others_typed (change ∷ more) h = absurd (false≢true h)

-- the line types its first row, CR LF, and the others
pub line_text : (line : Batch) → has_pair line ≡ true → typed_text line ≡ typed_text (first_row_changes line) ++ (cr ∷ lf ∷ typed_text (other_rows line))
line_text [] p = absurd (false≢true p)
line_text (Text text ∷ more) p =
    let it = parts_of text in
    rw it.are (by it.line it.more it.text_is (rw it.are at p) (line_text more))
  where
    by : (line : List ℕ) (lines : List (List ℕ)) → text_of_lines (line ∷ lines) ≡ text → (ltb 1 (length (line ∷ lines)) || has_pair more) ≡ true
        → (has_pair more ≡ true → typed_text more ≡ typed_text (first_row_changes more) ++ (cr ∷ lf ∷ typed_text (other_rows more)))
        → text ++ typed_text more ≡ typed_text (first_in (line ∷ lines) (first_row_changes more)) ++ (cr ∷ lf ∷ typed_text (others_in (line ∷ lines) more (other_rows more)))
    by line [] is p rest = ap (λ (t : List ℕ). t ++ typed_text more) (sym is) ∙ ap (λ (l : List ℕ). line ++ l) (rest p) ∙ sym (append_assoc line (typed_text (first_row_changes more)) (cr ∷ lf ∷ typed_text (other_rows more)))
    by line (next ∷ lines) is p rest =
        let below : List ℕ = text_of_lines (next ∷ lines) in
        ap (λ (t : List ℕ). t ++ typed_text more) (sym is) ∙ append_assoc line (cr ∷ lf ∷ below) (typed_text more)
        ∙ ap (λ (l : List ℕ). l ++ (cr ∷ lf ∷ (below ++ typed_text more))) (sym (append-nil line))
line_text (change ∷ more) p = line_text more p

-- ---- it is measured

printable_row : (cols : ℕ) (row : List ℕ) → 2 ≤ cols → list_all is_printable row ≡ true → IsMeasuredRow cols row
printable_row cols row two h =
    let plain = plain_from_printable row h in
    record { utf8 = plain_utf8 row plain; within = ap (list_all (fits_in cols)) (plain_glyphs row plain) ∙ printable_within cols row two h }

printable_lines : (cols : ℕ) (lines : List (List ℕ)) → 2 ≤ cols → list_all (list_all is_printable) lines ≡ true → AllByRecursion (IsMeasuredRow cols) lines
printable_lines cols [] two h = tt
printable_lines cols (line ∷ lines) two h =
    let both = and_parts (list_all is_printable line) (list_all (list_all is_printable) lines) h in
    (printable_row cols line two both.0, printable_lines cols lines two both.1)

types_measured : (cols : ℕ) (line : Batch) → 2 ≤ cols → list_all is_row_typing line ≡ true → AllByRecursion (TypesMeasuredRows cols) line
types_measured cols [] two h = tt
types_measured cols (Text text ∷ more) two h =
    let both = and_parts (are_rows text) (list_all is_row_typing more) h in
    (printable_lines cols (lines_of text) two both.0, types_measured cols more two both.1)
types_measured cols (Attribute a ∷ more) two h = (tt, types_measured cols more two h)
types_measured cols (AllAttributes a ∷ more) two h = (tt, types_measured cols more two h)
types_measured cols (change ∷ more) two h = absurd (false≢true h)

-- ---- the scene

-- what stands under the line, with the CR LF before it
rows_under : (lower : Lower) → IsPlainLower lower → are_rows (typed_text (lower_changes lower)) ≡ true
rows_under NoLower k = refl
rows_under (Preview elements) k = broken_rows (typed_text elements) k.1
rows_under (Search text) k = broken_rows (text ++ []) (ap are_rows (append-nil text) ∙ printable_rows text k)

text_under : (lower : Lower) → IsPlainLower lower → list_all is_text (lower_changes lower) ≡ true
text_under NoLower k = refl
text_under (Preview elements) k = k.0
text_under (Search text) k = refl

-- the space at the edge
edge_typed : (cols : ℕ) (p : Place) → (are_rows (typed_text (edge_space cols p)) ≡ true) × (list_all is_text (edge_space cols p) ≡ true)
edge_typed cols p = by (eqb p.x cols)
  where
    by : (b : Bool) → let space = if b then Text (blank ∷ []) ∷ [] else [] in (are_rows (typed_text space) ≡ true) × (list_all is_text space ≡ true)
    by true = (refl, refl)
    by false = (refl, refl)

module _ (cols : ℕ) (scene : Scene) (h : HasPlainRows cols scene) where
  -- the space at the edge, and what stands under the line
  abbrev pub end : Batch
  end = edge_space cols (place_behind cols scene scene.line) ++ lower_changes scene.lower

  pub folded_is_plain : IsPlain (folded cols scene (first_row_changes scene.line) (other_rows scene.line))
  folded_is_plain =
      let others = others_typed scene.line h.line in
      let edge : Batch = edge_space cols (place_behind cols scene scene.line) in
      let low : Batch = lower_changes scene.lower in
      let at_edge = edge_typed cols (place_behind cols scene scene.line) in
      let end_text : list_all is_text end ≡ true = both_hold is_text edge low at_edge.1 (text_under scene.lower h.lower) in
      let end_rows : are_rows (typed_text end) ≡ true =
      ap are_rows (typed-both edge low) ∙ rows_after (typed_text edge) (typed_text low) at_edge.0 (rows_under scene.lower h.lower) in
      record {
        prompt = h.prompt;
        line = first_typed scene.line h.line;
        lower = (
          both_hold is_text (other_rows scene.line) end (types_text cols (other_rows scene.line) (types_measured cols (other_rows scene.line) h.wide others)) end_text,
          ap are_rows (typed-both (other_rows scene.line) end) ∙ rows_after (typed_text (other_rows scene.line)) (typed_text end) (rows_typed (other_rows scene.line) others) end_rows,
        );
      }

  off_edge : (place_behind cols scene (first_row_changes scene.line)).x ≡ cols → ⊥
  off_edge full =
      let some : 0 < cols = omega (arith, h.wide) in
      let text : Batch = (scene.prompt ++ AllAttributes default_attributes ∷ []) ++ first_row_changes scene.line in
      let typing : list_all is_typing text ≡ true =
      both_hold is_typing (scene.prompt ++ AllAttributes default_attributes ∷ []) (first_row_changes scene.line)
      (both_hold is_typing scene.prompt (AllAttributes default_attributes ∷ []) h.prompt refl) (first_typed scene.line h.line) in
      let typed : typed_text text ≡ typed_text scene.prompt ++ typed_text (first_row_changes scene.line) =
      typed-both (scene.prompt ++ AllAttributes default_attributes ∷ []) (first_row_changes scene.line)
      ∙ ap (λ (l : List ℕ). l ++ typed_text (first_row_changes scene.line)) (typed-both scene.prompt (AllAttributes default_attributes ∷ []) ∙ append-nil (typed_text scene.prompt)) in
      let tip : IsTip cols 0 (0 + length (typed_text text)) (place_behind cols scene (first_row_changes scene.line)) = tip-changes cols 0 0 text origin some typing (tip-start cols 0) in
      let n : 0 + length (typed_text text) ≡ length (typed_text scene.prompt ++ typed_text (first_row_changes scene.line)) = (let e = ap (λ (t : List ℕ). length t) typed in omega (arith, e)) in
      let none = h.off_edge (ap (λ (i : ℕ). i % cols) (sym n) ∙ (tip-full cols 0 (0 + length (typed_text text)) (place_behind cols scene (first_row_changes scene.line)) some tip full).col) in
      omega (arith, tip.columns, n, none, full, h.wide)

pub plain_rows_are_measured : PlainRowsAreMeasured
plain_rows_are_measured cols scene h =
    let first : IsPlain (record scene { line = [] }) = record { prompt = h.prompt; line = refl; lower = h.lower } in
    let measured = plain_is_measured cols (record scene { line = [] }) h.wide first in
    record {
      wide = h.wide;
      prompt = measured.prompt;
      line = types_measured cols scene.line h.wide h.line;
      lower = measured.lower;
      pair = h.pair;
      off_edge = off_edge cols scene h;
    }

pub plain_rows_are_rows : {A C : Type 0} (pen : Pen A C) (cols : ℕ) (scene : Scene) → HasPlainRows cols scene → HasRows pen cols scene (first_row_changes scene.line) (other_rows scene.line)
plain_rows_are_rows pen cols scene h = measured_rows_are_rows pen cols scene (plain_rows_are_measured cols scene h)
