-- What a screen draws of texts and attributes, and that its cursor is where they are measured to end.
use Rattle.std.proofs.Common.{◌≡◌, ℕ, zero, suc, ◌+◌, pos, ◌+ℤ◌, true, cond, leb, List, [], ◌∷◌, ◌++◌, map, length, refl, sym, ap, ◌∙◌, arith}
use Rattle.std.specs.List.{list_all, flat_map}
use Rattle.std.proofs.lemmas.Bool.Decides.{nat_tests}
use Rattle.std.proofs.lemmas.Bool.{and_parts, and_from, false≢true}
use Rattle.std.proofs.lemmas.Int.{ints}
use Rattle.std.proofs.lemmas.List.{append_assoc, map-append, map-id, length-replicate}
use Rattle.std.proofs.lemmas.Simd.{map-map}
use Rattle.std.proofs.lemmas.List.Folds.{list_all-append}
use Rattle.unicode_segmentation.specs.Grapheme.{graphemes}
use Rattle.laws_screens.specs.Strokes.{PictureOf, Stroke, put, step, steps}
use Rattle.laws_screens.specs.Strokes.Stroke.{Put, Return, Feed}
use Rattle.laws_screens.specs.Sheets.{is_narrow, typed, broken}
use Rattle.tw_surface.specs.declared.measure.Piece.{Piece}
use Rattle.tw_surface.specs.declared.measure.Piece.TheVariants as piece
use Rattle.tw_surface.specs.ChangeView.{Batch, Attribute, AllAttributes, Text}
use Rattle.tw_surface.specs.Places.{Place, pieces, plain_piece, cluster_piece, next_place, end_of_pieces, place_after_all}
use Rattle.tw_surface.specs.Scenes.{is_text}
use Rattle.laws_screens.specs.Glyphs.{Glyph, piece_of, glyphs_of_piece, glyphs, typed_glyphs, is_pair, before_by, lines_by, fits_in, types_fitting}
use Rattle.laws_screens.specs.Glyphs.Glyph.{Cr, Lf, Cluster}
use Rattle.laws_screens.proofs.LineOfCells.{steps-append}
use Rattle.laws_screens.specs.Pens.{Pen, Letter, cluster_cells, cells_under, glyph_stroke, kept_after, kept_after_all, change_strokes, strokes_of, letters_under, letters_of, lines_of_letters, letter_cells}

-- ---- the measure

-- a pair of CR and LF leads where both lead
piece-end : (w : ℕ) (cluster : List ℕ) (q : Piece) (rest : List Glyph) (p : Place)
    → end_of_pieces w (map piece_of (glyphs_of_piece cluster q ++ rest)) p ≡ end_of_pieces w (map piece_of rest) (next_place w q p)
piece-end w cluster piece.Cr rest p = refl
piece-end w cluster piece.Lf rest p = refl
piece-end w cluster piece.CrLf rest p = refl
piece-end w cluster (piece.Wide v) rest p = refl

pieces-end : {X : Type 0} (w : ℕ) (cluster : X → List ℕ) (q : X → Piece) (xs : List X) (p : Place)
    → end_of_pieces w (map piece_of (flat_map (λ x. glyphs_of_piece (cluster x) (q x)) xs)) p ≡ end_of_pieces w (map q xs) p
pieces-end w cluster q [] p = refl
pieces-end w cluster q (x ∷ xs) p =
    piece-end w (cluster x) (q x) (flat_map (λ x. glyphs_of_piece (cluster x) (q x)) xs) p ∙ pieces-end w cluster q xs (next_place w (q x) p)

-- the glyphs of a text lead where its pieces do
pub glyphs-end : (w : ℕ) (text : List ℕ) (p : Place) → end_of_pieces w (map piece_of (glyphs text)) p ≡ end_of_pieces w (pieces text) p
unfolding glyphs pieces
glyphs-end w text p = grind (arith, nat_tests, pieces-end w (λ ch. ch ∷ []) plain_piece text p, pieces-end w (λ cluster. cluster) cluster_piece (graphemes true text) p)

-- ---- texts that fit

pub measured-is : (w : ℕ) (changes : Batch) → list_all (types_fitting w) changes ≡ true → (list_all is_text changes ≡ true) × (list_all (fits_in w) (typed_glyphs changes) ≡ true)
measured-is w [] h = (refl, refl)
measured-is w (Text text ∷ changes) h =
    let both = and_parts (list_all (fits_in w) (glyphs text)) (list_all (types_fitting w) changes) h in
    let rest = measured-is w changes both.1 in
    (rest.0, list_all-append (fits_in w) (glyphs text) (typed_glyphs changes) ∙ and_from _ _ both.0 rest.1)
measured-is w (Attribute x ∷ changes) h = measured-is w changes h
measured-is w (AllAttributes x ∷ changes) h = measured-is w changes h
measured-is w (_ ∷ changes) h = absurd (false≢true h)

module _ {C : Type 0} where
  -- ---- the screen's cursor and the measured place, for a screen entered at row start

  pub record Tracks (w start : ℕ) (at : Place) (s : PictureOf C) : Type 0 where
    pub x : s.col ≡ at.x
    pub y : pos s.row ≡ pos start +ℤ at.y

  tracks-put : (w start v : ℕ) (cells : List C) (at : Place) (s : PictureOf C) → length cells ≡ v → Tracks w start at s
      → Tracks w start (cond (leb (at.x + v) w) record { x = at.x + v; y = at.y } record { x = v; y = at.y +ℤ pos 1 }) (put w cells s)
  tracks-put w start v cells at s e t = record { x = grind (arith, nat_tests, t.x, e); y = grind (arith, ints, nat_tests, t.x, t.y, e) }

-- ---- lines

-- the lines of some elements, by what each has for a glyph
before-map : {X Y : Type 0} (f : X → Y) (glyph : Y → Glyph) (x : X) (ls : List (List X))
    → map (map f) (before_by (λ x. glyph (f x)) x ls) ≡ before_by glyph (f x) (map (map f) ls)
before-map f glyph x [] = refl
before-map f glyph x ([] ∷ more) = refl
before-map f glyph x ((y ∷ line) ∷ more) = grind (arith, nat_tests)

pub lines-map : {X Y : Type 0} (f : X → Y) (glyph : Y → Glyph) (xs : List X) → map (map f) (lines_by (λ x. glyph (f x)) xs) ≡ lines_by glyph (map f xs)
lines-map f glyph [] = refl
lines-map f glyph (x ∷ xs) = before-map f glyph x (lines_by (λ x. glyph (f x)) xs) ∙ ap (before_by glyph (f x)) (lines-map f glyph xs)

module _ {A : Type 0} where
  -- the glyph of a letter
  abbrev pub letter_glyph : Letter A → Glyph
  letter_glyph letter = letter.glyph

  pub text-glyphs : (a : A) (text : List Glyph) → map letter_glyph (letters_under a text) ≡ text
  text-glyphs a text = map-map letter_glyph (λ glyph. record { kept = a; glyph = glyph }) text ∙ map-id text

module _ {A C : Type 0} where
  pub cells-length : (pen : Pen A C) (a : A) (cluster : List ℕ) (v : ℕ) → length (cluster_cells pen a cluster v) ≡ v
  cells-length pen a cluster zero = refl
  cells-length pen a cluster (suc v) = omega (arith, length-replicate v (pen.rest a))

  pub tracks-glyph : (pen : Pen A C) (a : A) (w start : ℕ) (glyph : Glyph) (at : Place) (s : PictureOf C) → Tracks w start at s
      → Tracks w start (next_place w (piece_of glyph) at) (step w (glyph_stroke pen a glyph) s)
  tracks-glyph pen a w start Cr at s t = record { x = refl; y = t.y }
  tracks-glyph pen a w start Lf at s t = record { x = t.x; y = omega (arith, ints, t.y) }
  tracks-glyph pen a w start (Cluster cluster v) at s t = tracks-put w start v (cluster_cells pen a cluster v) at s (cells-length pen a cluster v) t

  -- the stroke of a letter
  abbrev pub letter_stroke : Pen A C → Letter A → Stroke C
  letter_stroke pen letter = glyph_stroke pen letter.kept letter.glyph

  pub text-letters : (pen : Pen A C) (a : A) (text : List Glyph) → map (glyph_stroke pen a) text ≡ map (letter_stroke pen) (letters_under a text)
  text-letters pen a text = sym (map-map (letter_stroke pen) (λ glyph. record { kept = a; glyph = glyph }) text)

  pub tracks-letters : (pen : Pen A C) (w start : ℕ) (letters : List (Letter A)) (at : Place) (s : PictureOf C) → Tracks w start at s
      → Tracks w start (end_of_pieces w (map piece_of (map letter_glyph letters)) at) (steps w (map (letter_stroke pen) letters) s)
  tracks-letters pen w start [] at s t = t
  tracks-letters pen w start (x ∷ letters) at s t = tracks-letters pen w start letters _ _ (tracks-glyph pen x.kept w start x.glyph at s t)

  pub tracks-changes : (pen : Pen A C) (a : A) (w start : ℕ) (changes : Batch) (at : Place) (s : PictureOf C) → list_all is_text changes ≡ true → Tracks w start at s
      → Tracks w start (place_after_all w changes at) (steps w (strokes_of pen a changes) s)
  tracks-changes pen a w start [] at s k t = t
  tracks-changes pen a w start (Attribute x ∷ changes) at s k t = tracks-changes pen (pen.attribute x a) w start changes at s k t
  tracks-changes pen a w start (AllAttributes x ∷ changes) at s k t = tracks-changes pen (pen.attributes x) w start changes at s k t
  tracks-changes pen a w start (Text text ∷ changes) at s k t =
      rw (steps-append w (map (glyph_stroke pen a) (glyphs text)) (strokes_of pen a changes) s)
      (tracks-changes pen a w start changes (end_of_pieces w (pieces text) at) (steps w (map (glyph_stroke pen a) (glyphs text)) s) k
      (rw (text-glyphs a (glyphs text), ← text-letters pen a (glyphs text), glyphs-end w text at) at (tracks-letters pen w start (letters_under a (glyphs text)) at s t)))
  tracks-changes pen a w start (_ ∷ changes) at s k t = absurd (false≢true k)

  -- ---- what is kept

  pub kept-append : (pen : Pen A C) (a : A) (x y : Batch) → kept_after_all pen a (x ++ y) ≡ kept_after_all pen (kept_after_all pen a x) y
  kept-append pen a [] y = refl
  kept-append pen a (change ∷ x) y = kept-append pen (kept_after pen a change) x y

  -- ---- strokes

  pub strokes-append : (pen : Pen A C) (a : A) (x y : Batch) → strokes_of pen a (x ++ y) ≡ strokes_of pen a x ++ strokes_of pen (kept_after_all pen a x) y
  strokes-append pen a [] y = refl
  strokes-append pen a (change ∷ x) y =
      let k : A = kept_after pen a change in
      cc (strokes-append pen k x y, append_assoc (change_strokes pen a change) (strokes_of pen k x) (strokes_of pen (kept_after_all pen k x) y))

  -- texts and attributes draw the letters that they type
  pub strokes-letters : (pen : Pen A C) (a : A) (changes : Batch) → list_all is_text changes ≡ true
      → strokes_of pen a changes ≡ map (letter_stroke pen) (letters_of pen a changes)
  strokes-letters pen a [] k = refl
  strokes-letters pen a (Attribute x ∷ changes) k = strokes-letters pen (pen.attribute x a) changes k
  strokes-letters pen a (AllAttributes x ∷ changes) k = strokes-letters pen (pen.attributes x) changes k
  strokes-letters pen a (Text text ∷ changes) k =
      cc (text-letters pen a (glyphs text), strokes-letters pen a changes k, map-append (letter_stroke pen) (letters_under a (glyphs text)) (letters_of pen a changes))
  strokes-letters pen a (_ ∷ changes) k = absurd (false≢true k)

  -- the letters that changes type are those of their glyphs
  pub glyphs-typed : (pen : Pen A C) (a : A) (changes : Batch) → map letter_glyph (letters_of pen a changes) ≡ typed_glyphs changes
  glyphs-typed pen a [] = refl
  glyphs-typed pen a (Attribute x ∷ changes) = glyphs-typed pen (pen.attribute x a) changes
  glyphs-typed pen a (AllAttributes x ∷ changes) = glyphs-typed pen (pen.attributes x) changes
  glyphs-typed pen a (Text text ∷ changes) =
      cc (map-append letter_glyph (letters_under a (glyphs text)) (letters_of pen a changes), text-glyphs a (glyphs text), glyphs-typed pen a changes)
  glyphs-typed pen a (_ ∷ changes) = glyphs-typed pen a changes

  -- a cluster that fits in a row is put, a cell for each of its columns
  letter-put : (pen : Pen A C) (w : ℕ) (a : A) (glyph : Glyph) → fits_in w glyph ≡ true
      → (glyph_stroke pen a glyph ≡ Put (cells_under pen a glyph)) × (is_narrow w (cells_under pen a glyph) ≡ true)
  letter-put pen w a Cr h = absurd (false≢true h)
  letter-put pen w a Lf h = absurd (false≢true h)
  letter-put pen w a (Cluster cluster v) h = (refl, ap (λ n. leb n w) (cells-length pen a cluster v) ∙ h)

  -- letters that fit in a row are typed
  pub letters-typed : (pen : Pen A C) (w : ℕ) (letters : List (Letter A)) → list_all (fits_in w) (map letter_glyph letters) ≡ true
      → (map (letter_stroke pen) letters ≡ typed (map (letter_cells pen) letters)) × (list_all (is_narrow w) (map (letter_cells pen) letters) ≡ true)
  letters-typed pen w [] h = (refl, refl)
  letters-typed pen w (x ∷ letters) h =
      let both = and_parts (fits_in w x.glyph) (list_all (fits_in w) (map letter_glyph letters)) h in
      let here = letter-put pen w x.kept x.glyph both.0 in
      let more = letters-typed pen w letters both.1 in
      (ap (λ s. s ∷ map (letter_stroke pen) letters) here.0 ∙ ap (λ l. Put (letter_cells pen x) ∷ l) more.0, and_from _ _ here.1 more.1)

  -- ---- lines

  -- lines of letters, with CR LF before each
  abbrev letter_breaks : Pen A C → List (List (Letter A)) → List (Stroke C)
  letter_breaks pen [] = []
  letter_breaks pen (line ∷ more) = Return ∷ Feed ∷ (map (letter_stroke pen) line ++ letter_breaks pen more)

  -- what a pair draws
  pair-strokes : (pen : Pen A C) (a c : A) (x y : Glyph) → is_pair x y ≡ true → (glyph_stroke pen a x ≡ Return) × (glyph_stroke pen c y ≡ Feed)
  pair-strokes pen a c Cr Cr h = absurd (false≢true h)
  pair-strokes pen a c Cr Lf h = (refl, refl)
  pair-strokes pen a c Cr (Cluster d v) h = absurd (false≢true h)
  pair-strokes pen a c _ y h = absurd (false≢true h)

  breaks-before : (pen : Pen A C) (x : Letter A) (ls : List (List (Letter A))) (t : List (Stroke C)) → letter_breaks pen ls ≡ Return ∷ Feed ∷ t
      → letter_breaks pen (before_by letter_glyph x ls) ≡ Return ∷ Feed ∷ letter_stroke pen x ∷ t
  breaks-before pen x [] t e = absurd (cc (e))
  breaks-before pen x ([] ∷ more) t e = let d : letter_breaks pen more ≡ t = cc (e) in ap (λ l. Return ∷ Feed ∷ letter_stroke pen x ∷ l) d
  breaks-before pen x ((y ∷ line) ∷ more) t e =
      let d : letter_stroke pen y ∷ (map (letter_stroke pen) line ++ letter_breaks pen more) ≡ t = cc (e) in
      grind (arith, nat_tests, d, pair-strokes pen x.kept y.kept x.glyph y.glyph)

  -- CR LF and letters are their lines with CR LF before each
  breaks-lines : (pen : Pen A C) (letters : List (Letter A)) → letter_breaks pen (lines_of_letters letters) ≡ Return ∷ Feed ∷ map (letter_stroke pen) letters
  breaks-lines pen [] = refl
  breaks-lines pen (x ∷ letters) = breaks-before pen x (lines_of_letters letters) (map (letter_stroke pen) letters) (breaks-lines pen letters)

  breaks-broken : (pen : Pen A C) (w : ℕ) (lines : List (List (Letter A))) → list_all (list_all (fits_in w)) (map (map letter_glyph) lines) ≡ true
      → (letter_breaks pen lines ≡ broken (map (map (letter_cells pen)) lines)) × (list_all (list_all (is_narrow w)) (map (map (letter_cells pen)) lines) ≡ true)
  breaks-broken pen w [] h = (refl, refl)
  breaks-broken pen w (line ∷ more) h =
      let both = and_parts (list_all (fits_in w) (map letter_glyph line)) (list_all (list_all (fits_in w)) (map (map letter_glyph) more)) h in
      let here = letters-typed pen w line both.0 in
      let rest = breaks-broken pen w more both.1 in (
        ap (λ l. Return ∷ Feed ∷ (l ++ letter_breaks pen more)) here.0 ∙ ap (λ l. Return ∷ Feed ∷ (typed (map (letter_cells pen) line) ++ l)) rest.0,
        and_from _ _ here.1 rest.1,
      )

  -- CR LF and letters whose lines fit are these lines, one under the other
  pub letters-broken : (pen : Pen A C) (w : ℕ) (letters : List (Letter A)) → list_all (list_all (fits_in w)) (lines_by (λ glyph. glyph) (map letter_glyph letters)) ≡ true
      → (Return ∷ Feed ∷ map (letter_stroke pen) letters ≡ broken (map (map (letter_cells pen)) (lines_of_letters letters)))
      × (list_all (list_all (is_narrow w)) (map (map (letter_cells pen)) (lines_of_letters letters)) ≡ true)
  letters-broken pen w letters h =
      let all = breaks-broken pen w (lines_of_letters letters) (ap (list_all (list_all (fits_in w))) (lines-map letter_glyph (λ glyph. glyph) letters) ∙ h) in
      (sym (breaks-lines pen letters) ∙ all.0, all.1)
