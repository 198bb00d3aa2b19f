-- A painting of a measured scene draws its sheet, its moves lead where they should, and it is as high as is measured.
use Rattle.std.proofs.Common.{mod-eq_of_lt, ◌≡◌, ℕ, ◌+◌, pos, ◌+ℤ◌, ◌-ℤ◌, ◌≤ℤ◌, nat_abs, Bool, true, false, eqb, leb, List, [], ◌∷◌, ◌++◌, refl, sym, ap, ap₂, subst, ◌∙◌, arith, ℤ, zero, suc, negsuc, neg_ℤ, ◌-◌, ◌*◌, ◌/◌, ◌%◌, ◌≤◌, ◌&&◌, ◌||◌, ltb, map, length, if◌then◌else◌, length-append}
use Rattle.std.specs.List.{list_all}
use Rattle.std.proofs.lemmas.Bool.{false≢true, ne_eqb, le-leb, and_from}
use Rattle.std.proofs.Math.Nat.{suc-mod, mod_self}
use Rattle.std.proofs.lemmas.Int.{ints, clamps}
use Rattle.tw_surface.specs.declared.measure.Piece.{Piece}
use Rattle.tw_surface.specs.declared.measure.Piece.TheVariants.{Cr, Lf, Wide}
use Rattle.tw_surface.specs.declared.measure.Extent.{Extent}
use Rattle.tw_surface.specs.ChangeView.{Batch, Attribute, AllAttributes, Text, ClearToEndOfScreen, CursorPosition}
use Rattle.tw_surface.specs.Defaults.{default_color, default_attributes}
use Rattle.tw_surface.specs.Drawings.{height}
use Rattle.tw_surface.specs.Extents.{place_of, reach, reach_all, extent_after_all, start_extent}
use Rattle.tw_surface.specs.Paintings.{lower_changes, before_line, edge_space, shown_part, cursor_place}
use Rattle.tw_surface.specs.Places.{Place, pieces, next_place, places_after, place_after_all, origin}
use Rattle.tw_surface.specs.Scenes.{Scene, is_text, Lower}
use Rattle.tw_surface.proofs.DrawingLemmas.{place_of-extent_after_all, height-extent}
use Rattle.std.proofs.lemmas.Nat.{mod-mul-add, div-add-mod', mod_below}
use Rattle.std.proofs.lemmas.List.{append-nil, append_assoc, map-append}
use Rattle.std.proofs.lemmas.List.Folds.{list_all-append}
use Rattle.laws_screens.specs.Strokes.{PictureOf, filled, step, steps}
use Rattle.laws_screens.specs.Strokes.Stroke.{ClearBehind, Move}
use Rattle.laws_screens.specs.Sheets.{Sheet, Writing, laid, is_narrow, sheet_last_row, sheet_cursor_row, last_length, behind, end_col, typed, broken, drawing}
use Rattle.laws_screens.specs.Paintings.{IsLed}
use Rattle.laws_screens.proofs.LineOfCells.{at_row, at_col, over, Stands, stands-as, typed-stands, laid-append, laid-one}
use Rattle.laws_screens.proofs.DrawnSheets.{Drawn, typed-ends, drawn, all_cells}
use Rattle.tw_surface.specs.declared.change.Position.{Position}
use Rattle.tw_surface.specs.Characters.{cr, lf}
use Rattle.tw_surface.specs.Positions.{at_least_0}
use Rattle.tw_surface.specs.Scenes.Lower.{NoLower, Preview, Search}
use Rattle.laws_screens.specs.Glyphs.{glyphs, lines_by, fits_in, types_fitting, IsMeasuredLower, IsMeasured}
use Rattle.laws_screens.specs.Glyphs.Glyph.{Cr, Lf, Cluster}
use Rattle.laws_screens.specs.Pens.{Pen, Letter, kept_after_all, glyph_stroke, strokes_of, letter_cells, letters_under, letters_of, led}
use Rattle.laws_screens.specs.SceneSheets.{head_letters, edge_letters, lower_letters, writing_of, sheet_of, painting_of}
use Rattle.std.proofs.lemmas.Bool.Decides.{nat_tests}
use Rattle.laws_screens.proofs.PlainGlyphs.{plain_glyphs}
use Rattle.laws_screens.proofs.DrawnChanges.{Tracks, text-glyphs, measured-is, tracks-changes, strokes-append, strokes-letters, glyphs-typed, letters-typed, letters-broken, kept-append, text-letters}

-- the last row is the greatest, and row 0 the least
record Top (t : Extent) : Type 0 where
  pub high : t.greatest ≡ t.y
  pub low : t.least ≡ pos 0
  pub above : pos 0 ≤ℤ t.y

-- a place that is not above the last one is the last one
top_reach : (t : Extent) (p : Place) → Top t → t.y ≤ℤ p.y → Top (reach t p)
top_reach t p h down = record {
  high = omega (arith, ints, clamps, h.high, h.above);
  low = omega (arith, ints, clamps, h.low, h.above);
  above = omega (arith, ints, h.above);
}

next_down : (cols : ℕ) (piece : Piece) (p : Place) → p.y ≤ℤ (next_place cols piece p).y
next_down cols (Wide v) p = grind (arith, ints, nat_tests)
next_down cols _ p = omega (arith, ints)

top_along : (cols : ℕ) (ps : List Piece) (t : Extent) → Top t → Top (reach_all t (places_after cols ps (place_of t)))
top_along cols [] t h = h
top_along cols (piece ∷ more) t h = top_along cols more (reach t (next_place cols piece (place_of t))) (top_reach t _ h (next_down cols piece (place_of t)))

top_text : (cols : ℕ) (changes : Batch) (t : Extent) → list_all is_text changes ≡ true → Top t → Top (extent_after_all cols changes t)
top_text cols [] t a h = h
top_text cols (Attribute x ∷ changes) t a h = top_text cols changes t a h
top_text cols (AllAttributes x ∷ changes) t a h = top_text cols changes t a h
top_text cols (Text text ∷ changes) t a h = top_text cols changes _ a (top_along cols (pieces text) t h)
top_text cols (_ ∷ changes) t a h = absurd (false≢true a)

-- the measured height is the row in which they end
pub measured_height : (w : ℕ) (changes : Batch) → list_all is_text changes ≡ true
    → (n : ℕ) → (place_after_all w changes origin).y ≡ pos n → height w (ClearToEndOfScreen default_color ∷ changes) ≡ n
measured_height w changes texts n at =
    let t : Extent = extent_after_all w changes start_extent in
    let top : Top t = top_text w changes start_extent texts (record { high = refl; low = refl; above = omega (arith, ints) }) in
    let y : t.y ≡ (place_after_all w changes origin).y = ap (λ p. p.y) (place_of-extent_after_all w changes start_extent) in
    let e : nat_abs (t.greatest -ℤ t.least) ≡ n = omega (arith, ints, top.high, top.low, top.above, y, at) in
    height-extent w (ClearToEndOfScreen default_color ∷ changes) ∙ e

-- ---- whole numbers

-- so far down and so far up again
clipped : (z : ℤ) (n m : ℕ) → z ≡ pos n -ℤ pos m → at_least_0 z ≡ n - m
clipped (pos k) n m e = omega (arith, ints, e)
clipped (negsuc k) n m e = omega (arith, ints, e)

-- n cells from column 0 on end after the last column where they fill their last row
behind_edge : (w n : ℕ) → 2 ≤ w → eqb (behind w n) w ≡ (ltb 0 n && eqb (n % w) 0)
behind_edge w zero two = rw (ne_eqb 0 w (λ e. omega (arith, e))) refl
behind_edge w (suc n) two =
    let less_one : suc n - 1 ≡ n = omega arith in
    let low = mod_below n w (omega arith) in
    grind (arith, nat_tests, less_one, low, suc-mod n w, mod_self w, mod-eq_of_lt)

-- ---- the line end that a painting adds

pub crlf_is : glyphs (cr ∷ lf ∷ []) ≡ Cr ∷ Lf ∷ []
unfolding glyphs
crlf_is = refl

pub text-append : (x y : Batch) → list_all is_text x ≡ true → list_all is_text y ≡ true → list_all is_text (x ++ y) ≡ true
text-append x y h k = list_all-append is_text x y ∙ and_from _ _ h k

module _ {A C : Type 0} (pen : Pen A C) (w : ℕ) where
  abbrev paper : C
  paper = pen.paper default_color

  -- the empty screen on which a painting is measured
  abbrev pub clear : PictureOf C
  clear = step w (ClearBehind paper) (filled paper)

  pub tracks-clear : (a : A) (changes : Batch) → list_all is_text changes ≡ true → Tracks w 0 (place_after_all w changes origin) (steps w (strokes_of pen a changes) clear)
  tracks-clear a changes k = tracks-changes pen a w 0 changes origin clear k (record { x = refl; y = omega (arith, ints) })

  all-blank : (i c : ℕ) → clear.cell i c ≡ paper
  all-blank i c = elim (ltb 0 i || (eqb 0 i && leb 0 c)) as (λ (k : Bool). (if k then paper else paper) ≡ paper) [ true ↦ refl | false ↦ refl ]

  pub stands-clear : (cells : List (List C)) → 2 ≤ w → list_all (is_narrow w) cells ≡ true
      → Stands w (steps w (typed cells) clear) (length (laid paper w 0 cells)) (over 0 (laid paper w 0 cells) (λ i. paper))
  stands-clear cells two narrow =
      stands-as w _ (0 + length (laid paper w 0 cells)) _ _ _ (omega arith) (λ i. refl)
      (typed-stands w paper cells clear 0 (λ i. paper) (omega (arith, two)) narrow (λ i h. refl) (record { at = λ r c h. all-blank r c; place = omega arith; within = omega arith }))

  -- changes that type these cells
  abbrev pub Types : A → Batch → List (List C) → Type 0
  Types a changes cells = (list_all is_text changes ≡ true) × (strokes_of pen a changes ≡ typed cells) × (list_all (is_narrow w) cells ≡ true)

  types-append : (a c : A) (x y : Batch) (k l : List (List C)) → kept_after_all pen a x ≡ c → Types a x k → Types c y l → Types a (x ++ y) (k ++ l)
  types-append a c x y k l e t u = (
    text-append x y t.0 u.0,
    strokes-append pen a x y ∙ ap₂ (λ s d. s ++ strokes_of pen d y) t.1 e ∙ ap (λ s. typed k ++ s) u.1 ∙ sym (map-append _ k l),
    list_all-append (is_narrow w) k l ∙ and_from _ _ t.2 u.2,
  )

  pub measured_types : (a : A) (changes : Batch) → list_all (types_fitting w) changes ≡ true → Types a changes (map (letter_cells pen) (letters_of pen a changes))
  measured_types a changes k =
      let is = measured-is w changes k in
      let all = letters-typed pen w (letters_of pen a changes) (ap (list_all (fits_in w)) (glyphs-typed pen a changes) ∙ is.1) in
      (is.0, strokes-letters pen a changes is.0 ∙ all.0, all.1)

  tracks-types : (a : A) (changes : Batch) (cells : List (List C)) → Types a changes cells → Tracks w 0 (place_after_all w changes origin) (steps w (typed cells) clear)
  tracks-types a changes cells t = subst (λ l. Tracks w 0 (place_after_all w changes origin) (steps w l clear)) t.1 (tracks-clear a changes t.0)

module _ {A C : Type 0} (pen : Pen A C) (w : ℕ) (scene : Scene) (two : 2 ≤ w) (measured : IsMeasured w scene) where
  abbrev start : A
  start = pen.attributes default_attributes

  abbrev ends_kept : A
  ends_kept = kept_after_all pen start scene.line

  abbrev b : C
  b = pen.paper default_color

  -- ---- the prompt and the line

  abbrev opening : Batch
  opening = AllAttributes default_attributes ∷ (scene.prompt ++ AllAttributes default_attributes ∷ [])

  abbrev head : Batch
  head = opening ++ scene.line

  abbrev pub prompt_cells : List (List C)
  prompt_cells = map (letter_cells pen) (letters_of pen start scene.prompt)

  abbrev pub head_cells : List (List C)
  head_cells = map (letter_cells pen) (head_letters pen scene)

  pub head_is : head_cells ≡ prompt_cells ++ map (letter_cells pen) (letters_of pen start scene.line)
  head_is = map-append (letter_cells pen) (letters_of pen start scene.prompt) (letters_of pen start scene.line)

  -- from whatever is kept
  pub prompt_types : (a : A) → Types pen w a opening prompt_cells
  prompt_types a =
      subst (Types pen w start (scene.prompt ++ AllAttributes default_attributes ∷ [])) (append-nil prompt_cells)
      (types-append pen w start _ scene.prompt (AllAttributes default_attributes ∷ []) prompt_cells [] refl (measured_types pen w start scene.prompt measured.prompt) (refl, refl, refl))

  -- after the prompt default attributes are set again, and after the line those that it leaves
  kept_prompt : (a : A) → kept_after_all pen a opening ≡ start
  kept_prompt a = kept-append pen start scene.prompt (AllAttributes default_attributes ∷ [])

  kept_head : (a : A) → kept_after_all pen a head ≡ ends_kept
  kept_head a = kept-append pen a opening scene.line ∙ ap (λ k. kept_after_all pen k scene.line) (kept_prompt a)

  head_types : (a : A) → Types pen w a head head_cells
  head_types a =
      subst (Types pen w a head) (sym head_is)
      (types-append pen w a start opening scene.line prompt_cells _ (kept_prompt a) (prompt_types a) (measured_types pen w start scene.line measured.line))

  pub tracks-prompt : Tracks w 0 (place_after_all w (before_line scene.prompt) origin) (steps w (typed prompt_cells) (clear pen w))
  tracks-prompt = tracks-types pen w start opening prompt_cells (prompt_types start)

  -- ---- the blank at the edge

  abbrev pub n : ℕ
  n = length (laid b w 0 head_cells)

  abbrev pub edged : Bool
  edged = ltb 0 n && eqb (n % w) 0

  -- a blank is typed after the line just where it fills its last row
  edge_is : eqb (place_after_all w head origin).x w ≡ edged
  edge_is =
      let q = typed-ends b w 0 head_cells (λ i. b) (clear pen w) (omega (arith, two)) (head_types start).2 refl refl (λ i c h. all-blank pen w i c) (λ i h. refl) in
      ap (λ x. eqb x w) (sym (tracks-types pen w start head head_cells (head_types start)).x ∙ q.col) ∙ behind_edge w n two

  abbrev edge : Batch
  edge = edge_space w (place_after_all w head origin)

  abbrev edge_if : Bool → List (Letter A)
  edge_if k = if k then record { kept = ends_kept; glyph = Cluster (32 ∷ []) 1 } ∷ [] else []

  abbrev edge_cells : List (List C)
  edge_cells = map (letter_cells pen) (edge_letters pen w scene)

  edge_types : Types pen w ends_kept edge edge_cells
  edge_types = subst (λ (k : Bool). Types pen w ends_kept (if k then Text (32 ∷ []) ∷ [] else []) edge_cells) (sym edge_is) (by_edge edged)
    where
      by_edge : (k : Bool) → Types pen w ends_kept (if k then Text (32 ∷ []) ∷ [] else []) (map (letter_cells pen) (edge_if k))
      by_edge true = (refl, ap (λ l. map (glyph_stroke pen ends_kept) l ++ []) (plain_glyphs (32 ∷ []) refl), and_from _ _ (le-leb 1 w (omega (arith, two))) refl)
      by_edge false = (refl, refl, refl)

  -- ---- the lower text

  lower_types : (a : A) (lower : Lower) → IsMeasuredLower w lower
      → (list_all is_text (lower_changes lower) ≡ true)
      × (strokes_of pen a (lower_changes lower) ≡ broken (map (map (letter_cells pen)) (lower_letters pen start lower)))
      × (list_all (list_all (is_narrow w)) (map (map (letter_cells pen)) (lower_letters pen start lower)) ≡ true)
  lower_types a NoLower k = (refl, refl, refl)
  lower_types a (Preview elements) k =
      let all = letters-broken pen w (letters_of pen start elements) (ap (λ l. list_all (list_all (fits_in w)) (lines_by (λ glyph. glyph) l)) (glyphs-typed pen start elements) ∙ k.1) in (
        k.0,
        cc (crlf_is, strokes-letters pen start elements k.0, all.0),
        all.1,
      )
  lower_types a (Search text) k =
      let all = letters-typed pen w (letters_under start (glyphs text)) (ap (list_all (fits_in w)) (text-glyphs start (glyphs text)) ∙ k.1) in (
        refl,
        cc (k.0, text-letters pen start (glyphs text), all.0),
        and_from _ _ all.1 refl,
      )

  -- ---- the whole painting

  abbrev writing : Writing C
  writing = writing_of pen w scene

  abbrev sheet : Sheet C
  sheet = sheet_of pen w scene

  abbrev low : Batch
  low = lower_changes scene.lower

  text_is : writing.text ≡ head_cells ++ edge_cells
  text_is = map-append (letter_cells pen) (head_letters pen scene) (edge_letters pen w scene)

  text_types : (a : A) → Types pen w a (head ++ edge) writing.text
  text_types a = subst (Types pen w a (head ++ edge)) (sym text_is) (types-append pen w a ends_kept head edge head_cells edge_cells (kept_head a) (head_types a) edge_types)

  abbrev body : Batch
  body = head ++ (edge ++ low)

  body_is : body ≡ (head ++ edge) ++ low
  body_is = sym (append_assoc head edge low)

  body_text : list_all is_text body ≡ true
  body_text = ap (list_all is_text) body_is ∙ text-append (head ++ edge) low (text_types start).0 (lower_types start scene.lower measured.lower).0

  body_strokes : (a : A) → strokes_of pen a body ≡ typed writing.text ++ broken writing.lower
  body_strokes a =
      let kept : A = kept_after_all pen a (head ++ edge) in
      cc (body_is, strokes-append pen a (head ++ edge) low, (text_types a).1, (lower_types kept scene.lower measured.lower).1)

  -- a painting draws what is written, and then moves
  pub painting_is : (a : A) (x y : Position) → strokes_of pen a (shown_part w scene ++ CursorPosition x y ∷ []) ≡ drawing b writing ++ Move (led y) (led x) ∷ []
  painting_is a x y = cc (strokes-append pen a (shown_part w scene) (CursorPosition x y ∷ []), body_strokes a)

  -- ---- its moves

  tracks-all : Tracks w 0 (place_after_all w (shown_part w scene) origin) (steps w (drawing b writing) (filled b))
  tracks-all =
      subst (λ l. Tracks w 0 (place_after_all w (shown_part w scene) origin) (steps w l (clear pen w))) (body_strokes start)
      (tracks-clear pen w start body body_text)

  -- the text of the sheet is the prompt and the line, and the blank at the edge
  abbrev pub edge_ink : C
  edge_ink = pen.ink ends_kept (32 ∷ [])

  pub sheet_text : sheet.text ≡ laid b w 0 head_cells ++ (if edged then edge_ink ∷ [] else [])
  sheet_text =
      let there : ℕ = (steps w (typed head_cells) (clear pen w)).col in
      ap (laid b w 0) text_is ∙ laid-append w b head_cells edge_cells (clear pen w) ∙ grind (arith, nat_tests, laid-one b w there edge_ink)

  -- no text ends after the last column
  off_edge : length sheet.text % w ≡ 0 → length sheet.text ≡ 0
  off_edge e =
      let text : List C = laid b w 0 head_cells in
      let long : length sheet.text ≡ n + (if edged then 1 else 0) = ap length sheet_text ∙ length-append text (if edged then edge_ink ∷ [] else []) ∙ grind (arith, nat_tests) in
      grind (arith, nat_tests, long, e, div-add-mod' n w, mod-mul-add (n / w) w 1 (omega (arith, two)))

  drawn_all : Drawn w (0 + sheet_last_row w sheet) (last_length (length sheet.text) sheet.lower) (all_cells b w 0 sheet (filled b)) (steps w (drawing b writing) (filled b))
  drawn_all = drawn b w 0 writing sheet (filled b) two refl refl refl (text_types start).2 (lower_types start scene.lower measured.lower).2 off_edge

  end_x : (place_after_all w (shown_part w scene) origin).x ≡ end_col w sheet
  end_x = sym tracks-all.x ∙ drawn_all.col

  end_y : (place_after_all w (shown_part w scene) origin).y ≡ pos (sheet_last_row w sheet)
  end_y = omega (arith, ints, tracks-all.y, drawn_all.row)

  -- the cursor's place
  abbrev behind_prompt : PictureOf C
  behind_prompt = steps w (typed prompt_cells) (clear pen w)

  at_is : behind_prompt.row * w + (behind_prompt.col + scene.column) ≡ sheet.at
  at_is = omega (arith, (stands-clear pen w prompt_cells two (prompt_types start).2).place)

  pub cursor_y : (cursor_place w scene).y ≡ pos (sheet_cursor_row w sheet)
  cursor_y =
      let t : PictureOf C = behind_prompt in
      let q : t.row + (t.col + scene.column) / w ≡ sheet.at / w = sym (at_row w t.row (t.col + scene.column) (omega (arith, two))) ∙ ap (λ i. i / w) at_is in
      let x : (t.col + scene.column) / w ≡ ((place_after_all w (before_line scene.prompt) origin).x + scene.column) / w = ap (λ i. (i + scene.column) / w) tracks-prompt.x in
      omega (arith, ints, tracks-prompt.y, q, x)

  pub cursor_x : (cursor_place w scene).x ≡ sheet.at % w
  cursor_x = ap (λ i. (i + scene.column) % w) (sym tracks-prompt.x) ∙ sym (at_col w behind_prompt.row (behind_prompt.col + scene.column)) ∙ ap (λ i. i % w) at_is

  pub height_is : height w (shown_part w scene) ≡ sheet_last_row w sheet
  height_is = measured_height w body body_text (sheet_last_row w sheet) end_y

  pub is_led : (cleared : Bool) → IsLed b (painting_of pen (record { scene = record scene { cleared = cleared }; cols = w }))
  is_led cleared = record {
    wide = two;
    laid = refl;
    narrow = (text_types start).2;
    narrow_below = (lower_types start scene.lower measured.lower).2;
    off_edge = off_edge;
    to_row = λ r. clipped (pos r +ℤ ((cursor_place w scene).y -ℤ (place_after_all w (shown_part w scene) origin).y)) (r + sheet_cursor_row w sheet) (sheet_last_row w sheet)
        (omega (arith, ints, cursor_y, end_y));
    to_col =
        let e : pos (end_col w sheet) +ℤ (pos (cursor_place w scene).x -ℤ pos (place_after_all w (shown_part w scene) origin).x) ≡ pos (sheet.at % w) = omega (arith, ints, end_x, cursor_x) in
        ap at_least_0 e;
    back = λ r. clipped (pos r +ℤ neg_ℤ (cursor_place w scene).y) r (sheet_cursor_row w sheet) (omega (arith, ints, cursor_y));
    under = λ r. clipped (pos r +ℤ (pos (1 + height w (shown_part w scene)) -ℤ (cursor_place w scene).y)) (r + (sheet_last_row w sheet + 1)) (sheet_cursor_row w sheet)
        (omega (arith, ints, cursor_y, height_is));
  }
