-- The cursor stands in the first cell of the cluster before which it is placed.
use Rattle.std.proofs.Common.{◌≡◌, ℕ, zero, suc, ◌+◌, ◌*◌, ◌/◌, ◌%◌, ◌<◌, ◌≤◌, Bool, true, false, inl, inr, leb, List, [], ◌∷◌, ◌++◌, map, length, refl, sym, ap, subst, cond, ◌∙◌, arith, if◌then◌else◌, length-append, append-nil, add-zero, replicate, slice_index_or, mod-lt}
use Rattle.std.specs.List.{list_all}
use Rattle.std.proofs.lemmas.Bool.Decides.{nat_tests}
use Rattle.std.proofs.lemmas.Bool.{and_parts, and_from, leb-true}
use Rattle.std.proofs.lemmas.Int.{ints}
use Rattle.std.proofs.lemmas.Nat.{div-add-mod', div-mul-add, mod-mul-add}
use Rattle.std.proofs.lemmas.List.{append_assoc, map-append, length-replicate, get_or-append-add, get_or_append_left, get_or-replicate}
use Rattle.std.proofs.Math.Seq.{get_or-append_seam}
use Rattle.std.proofs.lemmas.List.Folds.{list_all-append}
use Rattle.tw_surface.specs.Defaults.{default_color, default_attributes}
use Rattle.tw_surface.specs.Paintings.{cursor_place}
use Rattle.tw_surface.specs.Places.{Place, begins_at}
use Rattle.tw_surface.specs.Scenes.{Scene}
use Rattle.laws_screens.specs.Strokes.{PictureOf, put, steps}
use Rattle.laws_screens.specs.Sheets.{laid, is_narrow, typed, IsInLowerLines, rows_of_line, IsFreshSheet}
use Rattle.laws_screens.specs.Glyphs.{Glyph, typed_glyphs, fits_in, IsMeasured}
use Rattle.laws_screens.specs.Glyphs.Glyph.{Cluster}
use Rattle.laws_screens.specs.Pens.{Pen, Letter, letters_of, letter_cells, cells_under, cluster_cells}
use Rattle.laws_screens.specs.SceneSheets.{edge_letters, sheet_of}
use Rattle.laws_screens.specs.CursorCells.{place_after_glyphs, IsPlacedBefore, IsPlacedBehind, StandsOn, StandsOnBlank, CursorStandsBefore, CursorStandsBehind}
use Rattle.laws_screens.proofs.LineOfCells.{over, Stands, skips, laid-put, laid-append, steps-append, next_row}
use Rattle.laws_screens.proofs.DrawnChanges.{Tracks, letter_glyph, tracks-letters, glyphs-typed, measured-is, letters-typed, cells-length}
use Rattle.laws_screens.proofs.DrawnScenes.{clear, stands-clear, prompt_cells, head_cells, head_is, prompt_types, tracks-prompt, edged, edge_ink, sheet_text, cursor_x, cursor_y}

module _ {A : Type 0} where
  -- letters with these glyphs are parted as these are
  parted : (letters : List (Letter A)) (before : List Glyph) (glyph : Glyph) (behind : List Glyph) → map letter_glyph letters ≡ before ++ glyph ∷ behind
      → (front : List (Letter A)) × (letter : Letter A) × (back : List (Letter A))
      × (letters ≡ front ++ letter ∷ back) × (map letter_glyph front ≡ before) × (letter.glyph ≡ glyph)
  parted [] [] glyph behind e = absurd (cc (e))
  parted [] (x ∷ before) glyph behind e = absurd (cc (e))
  parted (letter ∷ letters) [] glyph behind e = ([], letter, letters, refl, refl, cc (e))
  parted (letter ∷ letters) (x ∷ before) glyph behind e =
      let more : map letter_glyph letters ≡ before ++ glyph ∷ behind = cc (e) in
      let here : letter.glyph ≡ x = cc (e) in
      let rest = parted letters before glyph behind more in
      (letter ∷ rest.0, rest.1, rest.2, ap (λ l. letter ∷ l) rest.3, ap (λ l. letter.glyph ∷ l) rest.4 ∙ ap (λ g. g ∷ before) here, rest.5)

-- what is typed up to some letters of the line
module _ {A C : Type 0} (pen : Pen A C) (w : ℕ) (scene : Scene) (two : 2 ≤ w) (measured : IsMeasured w scene)
    (front : List (Letter A)) (fits : list_all (fits_in w) (map letter_glyph front) ≡ true) where
  abbrev front_cells : List (List C)
  front_cells = map (letter_cells pen) front

  abbrev until : List (List C)
  until = prompt_cells pen w scene two measured ++ front_cells

  -- the screen there
  abbrev there : PictureOf C
  there = steps w (typed until) (clear pen w)

  there_tracks : Tracks w 0 (place_after_glyphs w scene (map letter_glyph front)) there
  there_tracks =
      let typed_prompt : PictureOf C = steps w (typed (prompt_cells pen w scene two measured)) (clear pen w) in
      let at : Place = place_after_glyphs w scene (map letter_glyph front) in
      subst (Tracks w 0 at)
      (ap (λ l. steps w l typed_prompt) (letters-typed pen w front fits).0
      ∙ sym (ap (λ l. steps w l (clear pen w)) (map-append _ (prompt_cells pen w scene two measured) front_cells) ∙ steps-append w (typed (prompt_cells pen w scene two measured)) (typed front_cells) (clear pen w)))
      (tracks-letters pen w 0 front _ typed_prompt (tracks-prompt pen w scene two measured))

  there_stands : Stands w there (length (laid (pen.paper default_color) w 0 until)) (over 0 (laid (pen.paper default_color) w 0 until) (λ i. pen.paper default_color))
  there_stands =
      stands-clear pen w until two (list_all-append (is_narrow w) (prompt_cells pen w scene two measured) front_cells
      ∙ and_from _ _ (prompt_types pen w scene two measured (pen.attributes default_attributes)).2 (letters-typed pen w front fits).1)

  abbrev at : ℕ
  at = (sheet_of pen w scene).at

  -- the index of the cell in which the cursor stands, if these cells begin there, and they fit in its row
  index_is : (cells : List C) → length cells ≤ w → cursor_place w scene ≡ begins_at w (length cells) (place_after_glyphs w scene (map letter_glyph front))
      → (at ≡ length (laid (pen.paper default_color) w 0 until) + skips w there.col cells) × ((at % w) + length cells ≤ w)
  index_is cells narrow placed =
      let col : at % w ≡ cond (leb (there.col + length cells) w) there.col 0 = grind (arith, nat_tests, cursor_x pen w scene two measured, ap (λ q. q.x) placed, there_tracks.x) in
      let row : at / w ≡ cond (leb (there.col + length cells) w) there.row (there.row + 1) =
      grind (arith, ints, nat_tests, cursor_y pen w scene two measured, ap (λ q. q.y) placed, there_tracks.x, there_tracks.y) in
      (grind (arith, nat_tests, col, row, div-add-mod' at w, there_stands.place, there_stands.within, next_row there.row w 0), grind (arith, nat_tests, col, narrow))

module _ {A C : Type 0} (pen : Pen A C) (w : ℕ) (scene : Scene) (two : 2 ≤ w) (measured : IsMeasured w scene)
    (before : List Glyph) (cluster : List ℕ) (columns : ℕ) (behind : List Glyph) (placed : IsPlacedBefore w scene before cluster columns behind) where
  abbrev start : A
  start = pen.attributes default_attributes

  abbrev b : C
  b = pen.paper default_color

  line_is : (front : List (Letter A)) × (letter : Letter A) × (back : List (Letter A))
      × (letters_of pen start scene.line ≡ front ++ letter ∷ back) × (map letter_glyph front ≡ before) × (letter.glyph ≡ Cluster cluster columns)
  line_is = parted (letters_of pen start scene.line) before (Cluster cluster columns) behind (glyphs-typed pen start scene.line ∙ placed.line)

  abbrev a : A
  a = line_is.1.kept

  abbrev cells : List C
  cells = cluster_cells pen a cluster columns

  count : length cells ≡ columns
  count = cells-length pen a cluster columns

  parts : (list_all (fits_in w) before ≡ true) × (list_all (fits_in w) (Cluster cluster columns ∷ behind) ≡ true)
  parts =
      and_parts _ _ (sym (list_all-append (fits_in w) before (Cluster cluster columns ∷ behind))
      ∙ ap (list_all (fits_in w)) (sym placed.line) ∙ (measured-is w scene.line measured.line).1)

  front_fits : list_all (fits_in w) (map letter_glyph line_is.0) ≡ true
  front_fits = ap (list_all (fits_in w)) line_is.4 ∙ parts.0

  -- what is typed before it, and the screen there
  abbrev x_cells : List (List C)
  x_cells = until pen w scene two measured line_is.0 front_fits

  abbrev t : PictureOf C
  t = there pen w scene two measured line_is.0 front_fits

  abbrev index : ℕ
  index = (sheet_of pen w scene).at

  at_is : (index ≡ length (laid b w 0 x_cells) + skips w t.col cells) × ((index % w) + length cells ≤ w)
  at_is =
      index_is pen w scene two measured line_is.0 front_fits cells (omega (arith, count, leb-true columns w (and_parts (leb columns w) (list_all (fits_in w) behind) parts.1).0))
      (placed.cursor ∙ ap (λ l. begins_at w columns (place_after_glyphs w scene l)) (sym line_is.4) ∙ ap (λ n. begins_at w n (place_after_glyphs w scene (map letter_glyph line_is.0))) (sym count))

  -- a cell of the cluster stands where the sheet has it
  shown_at : (s k : ℕ) (after : PictureOf C) → k < columns → IsFreshSheet w s b (sheet_of pen w scene) after → after.cell after.row (after.col + k) ≡ slice_index_or cells k b
  shown_at s k after h f =
      let x : List C = laid b w 0 x_cells in
      let gap : List C = replicate (skips w t.col cells) b in
      let back : List (List C) = map (letter_cells pen) line_is.2 ++ map (letter_cells pen) (edge_letters pen w scene) in
      let rest : List C = laid b w (put w cells t).col back in
      let text : (sheet_of pen w scene).text ≡ x ++ (gap ++ (cells ++ rest)) =
      ap (laid b w 0) (ap (λ l. map (letter_cells pen) ((letters_of pen start scene.prompt ++ l) ++ edge_letters pen w scene)) line_is.3
      ∙ (simp (map-append, append_assoc)) ∙ ap (λ g. x_cells ++ cells_under pen a g ∷ back) line_is.5)
      ∙ laid-append w b x_cells (cells ∷ back) (clear pen w) ∙ ap (λ l. x ++ l) (laid-put w b cells back t) in
      let place : index + k ≡ length x + (length gap + k) = omega (arith, at_is.0, length-replicate (skips w t.col cells) b) in
      let inside : index + k < length (sheet_of pen w scene).text =
      omega (arith, place, h, count, ap length text, length-append x (gap ++ (cells ++ rest)), length-append gap (cells ++ rest), length-append cells rest) in
      let is : slice_index_or (sheet_of pen w scene).text (index + k) b ≡ slice_index_or cells k b =
      ap (λ l. slice_index_or l (index + k) b) text ∙ ap (λ n. slice_index_or (x ++ (gap ++ (cells ++ rest))) n b) place
      ∙ get_or-append-add x (gap ++ (cells ++ rest)) (length gap + k) b ∙ get_or-append-add gap (cells ++ rest) k b ∙ get_or_append_left cells rest b k (omega (arith, h, count)) in
      let near : (index % w) + k < w = omega (arith, at_is.1, h, count) in
      let row : (index + k) / w ≡ index / w = grind (arith, div-add-mod' index w, div-mul-add (index / w) w ((index % w) + k) near) in
      let col : (index + k) % w ≡ (index % w) + k = grind (arith, div-add-mod' index w, mod-mul-add (index / w) w ((index % w) + k) near) in
      ap (λ r. after.cell r (after.col + k)) (f.row ∙ ap (λ n. s + n) (sym row)) ∙ ap (λ c. after.cell (s + (index + k) / w) c) (ap (λ n. n + k) f.col ∙ sym col)
      ∙ f.shown (index + k) inside ∙ is

  first_cell : (n : ℕ) → 0 < n → slice_index_or (cluster_cells pen a cluster n) 0 b ≡ pen.ink a cluster
  first_cell zero h = absurd (omega arith)
  first_cell (suc n) h = refl

  further_cell : (n k : ℕ) → 0 < k → k < n → slice_index_or (cluster_cells pen a cluster n) k b ≡ pen.rest a
  further_cell zero k h q = absurd (omega arith)
  further_cell (suc n) zero h q = absurd (omega arith)
  further_cell (suc n) (suc k) h q = get_or-replicate n k (pen.rest a) b (omega arith)

  stands_before : (s : ℕ) (after : PictureOf C) → IsFreshSheet w s b (sheet_of pen w scene) after → StandsOn pen cluster columns after
  stands_before s after f = (
    a,
    ap (λ c. after.cell after.row c) (sym (add-zero after.col)) ∙ shown_at s 0 after placed.some f ∙ first_cell columns placed.some,
    λ k h q. shown_at s k after q f ∙ further_cell columns k h q,
  )

pub cursor_stands_before : {A C : Type 0} (pen : Pen A C) → CursorStandsBefore pen
cursor_stands_before pen w s scene before cluster columns behind after two measured placed f = stands_before pen w scene two measured before cluster columns behind placed s after f

-- a cell of lines under a row stands in that row or below
below_from : {C : Type 0} (w from : ℕ) (lines : List (List C)) (r c : ℕ) → IsInLowerLines w from lines r c → from ≤ r
below_from w from [] r c i = absurd i
below_from w from (line ∷ more) r c (inl i) = omega (arith, i.2.0)
below_from w from (line ∷ more) r c (inr i) = omega (arith, below_from w (from + rows_of_line w line) more r c i)

module _ {A C : Type 0} (pen : Pen A C) (w : ℕ) (scene : Scene) (two : 2 ≤ w) (measured : IsMeasured w scene) (placed : IsPlacedBehind w scene) where
  abbrev line : List (Letter A)
  line = letters_of pen (pen.attributes default_attributes) scene.line

  line_glyphs : map letter_glyph line ≡ typed_glyphs scene.line
  line_glyphs = glyphs-typed pen (pen.attributes default_attributes) scene.line

  line_fits : list_all (fits_in w) (map letter_glyph line) ≡ true
  line_fits = ap (list_all (fits_in w)) line_glyphs ∙ (measured-is w scene.line measured.line).1

  abbrev text : List C
  text = laid (pen.paper default_color) w 0 (head_cells pen w scene two measured)

  abbrev ink : C
  ink = edge_ink pen w scene two measured

  -- the cursor stands after them
  at_end : (sheet_of pen w scene).at ≡ length text
  at_end =
      let u : PictureOf C = there pen w scene two measured line line_fits in
      (index_is pen w scene two measured line line_fits (ink ∷ []) (omega (arith, two)) (placed ∙ ap (λ l. begins_at w 1 (place_after_glyphs w scene l)) (sym line_glyphs))).0
      ∙ ap (λ l. length (laid (pen.paper default_color) w 0 l) + skips w u.col (ink ∷ [])) (sym (head_is pen w scene two measured)) ∙ grind (arith, nat_tests)

  stands_behind : (s : ℕ) (after : PictureOf C) → IsFreshSheet w s (pen.paper default_color) (sheet_of pen w scene) after → StandsOnBlank pen scene after
  stands_behind s after f = go (edged pen w scene two measured) (sheet_text pen w scene two measured)
    where
      n : ℕ
      n = length text

      place : after.cell after.row after.col ≡ after.cell (s + n / w) (n % w)
      place = cc (f.row, f.col, at_end)

      go : (k : Bool) → (sheet_of pen w scene).text ≡ text ++ (if k then ink ∷ [] else []) → StandsOnBlank pen scene after
      go true is =
          inr (place ∙ f.shown n (omega (arith, ap length is, length-append text (ink ∷ []))) ∙ ap (λ l. slice_index_or l n (pen.paper default_color)) is
          ∙ get_or-append_seam text ink [] (pen.paper default_color))
      go false is =
          let long : length (sheet_of pen w scene).text ≡ n = ap length (is ∙ append-nil text) in
          inl (place ∙ f.rest (s + n / w) (n % w) (omega arith) (mod-lt n (omega (arith, two)))
          (λ i. let row : i.0 / w ≡ n / w = omega (arith, i.2.0) in
          let same : i.0 ≡ n = sym (div-add-mod' i.0 w) ∙ ap (λ r. r * w + i.0 % w) row ∙ ap (λ c. n / w * w + c) (sym i.2.1) ∙ div-add-mod' n w in
          omega (arith, same, i.1, long))
          (λ i. omega (arith, below_from w (s + length (sheet_of pen w scene).text / w + 1) (sheet_of pen w scene).lower (s + n / w) (n % w) i, ap (λ l. l / w) long)))

pub cursor_stands_behind : {A C : Type 0} (pen : Pen A C) → CursorStandsBehind pen
cursor_stands_behind pen w s scene after two measured placed f = stands_behind pen w scene two measured placed s after f
