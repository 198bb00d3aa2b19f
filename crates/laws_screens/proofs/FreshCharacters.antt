-- A fresh painting fixes every cell from its start row on, and is one that is fresh by its sheet of characters.
use Rattle.std.proofs.Common.{◌≡◌, ℕ, ◌+◌, ◌*◌, ◌/◌, ◌%◌, ◌<◌, ◌≤◌, List, [], ◌∷◌, length, sym, ap, ◌∙◌, arith, ◌⊎◌, inl, inr, Bool, true, ◌&&◌, eqb, ltb, ◌++◌, map, refl, ap₂, subst, if◌then◌else◌, length-append, slice_index_or}
use Rattle.std.proofs.lemmas.Bool.Decides.{nat_tests}
use Rattle.std.proofs.lemmas.Bool.{cases_lt, and_parts}
use Rattle.std.proofs.lemmas.Nat.{div-mul-add, div-add-mod'}
use Rattle.laws_screens.proofs.DrawnSheets.{cell_place, cell_or_not}
use Rattle.tw_surface.specs.Pictures.{Picture, blank}
use Rattle.tw_surface.specs.Lines.{rows_of, lines_of}
use Rattle.tw_surface.specs.Scenes.{Scene, lower_lines, IsPlain, Lower, IsPlainLower, typed_text, is_typing}
use Rattle.tw_surface.specs.Fresh.{IsFresh, IsShown, IsIn, IsInLines, AreShown, text_of, line_row}
use Rattle.std.specs.List.{list_all}
use Rattle.std.proofs.lemmas.List.{map-append, get_or_default, get_or_append_left, get_or-append_right}
use Rattle.laws_screens.specs.Sheets as sheets
use Rattle.tw_surface.specs.ChangeView.{Batch, Text}
use Rattle.tw_surface.specs.Characters.{is_printable}
use Rattle.tw_surface.specs.Scenes.Lower.{NoLower, Preview, Search}
use Rattle.laws_screens.specs.Glyphs.{Glyph, glyphs, typed_glyphs, lines_by}
use Rattle.laws_screens.specs.Pens.{Letter, letters_under, letters_of, letter_cells, lines_of_letters}
use Rattle.laws_screens.specs.SceneSheets.{sheet_of, laid_letters, head_letters, lower_letters}
use Rattle.laws_screens.specs.StyledCells.{characters}
use Rattle.laws_screens.specs.PlainScreens.{OneFreshPainting}
use Rattle.laws_screens.specs.CharacterScreens.{cells_of, FreshCharacters}
use Rattle.laws_screens.proofs.DrawnChanges.{lines-map}
use Rattle.laws_screens.proofs.DrawnScenes.{sheet_text}
use Rattle.laws_screens.proofs.PlainGlyphs.{glyph_of, plain_glyphs, plain_from_printable, printable_glyph, lines_are, typed_are, typing_is}
use Rattle.laws_screens.proofs.PlainScenes.{lower_plain, plain_is_measured}

-- a cell is one of a text's characters or none of them
in_text : (w from : ℕ) (text : List ℕ) (r c : ℕ) → 2 ≤ w → c < w → IsIn w from text r c ⊎ (IsIn w from text r c → ⊥)
in_text w from text r c two h = elim (cell_or_not w from (length text) r c two h) [
  | inl i ↦ inl i
  | inr out ↦ inr (λ i. let p : r * w + c ≡ from * w + i.0 = rw (i.2.0, i.2.1) (cell_place w from i.0) in elim out [ inl b ↦ omega (arith, p, b) | inr d ↦ omega (arith, p, d, i.1) ])
]

-- two pictures that show a text agree at a cell of it, and so for lines
text_agrees : (w from : ℕ) (text : List ℕ) (a b : Picture) (r c : ℕ) → 2 ≤ w → c < w → IsShown w from text a → IsShown w from text b
    → (a.cell r c ≡ b.cell r c) ⊎ (IsIn w from text r c → ⊥)
text_agrees w from text a b r c two h p q = elim (in_text w from text r c two h) [
  | inl i ↦
      let e : a.cell (from + i.0 / w) (i.0 % w) ≡ b.cell (from + i.0 / w) (i.0 % w) = p i.0 i.1 ∙ sym (q i.0 i.1) in
      inl (rw (i.2.0, i.2.1) e)
  | inr none ↦ inr none
]

lines_agree : (w from : ℕ) (lines : List (List ℕ)) (a b : Picture) (r c : ℕ) → 2 ≤ w → c < w → AreShown w from lines a → AreShown w from lines b
    → (a.cell r c ≡ b.cell r c) ⊎ (IsInLines w from lines r c → ⊥)
lines_agree w from [] a b r c two h p q = inr (λ i. i)
lines_agree w from (line ∷ more) a b r c two h p q = elim (text_agrees w from line a b r c two h p.0 q.0) [
  | inl e ↦ inl e
  | inr n ↦ elim (lines_agree w (from + rows_of w line) more a b r c two h p.1 q.1) [
    | inl e ↦ inl e
    | inr m ↦ inr (λ i. elim i [ inl i ↦ n i | inr i ↦ m i ])
  ]
]

pub one_fresh : OneFreshPainting
one_fresh w s scene a b two p q = (
  λ r c i h. elim (text_agrees w s (text_of scene) a b r c two h p.shown q.shown) [
    | inl e ↦ e
    | inr n ↦ elim (lines_agree w (s + line_row w scene + 1) (lower_lines scene.lower) a b r c two h p.below q.below) [
      | inl e ↦ e
      | inr m ↦ p.rest r c i h n m ∙ sym (q.rest r c i h n m)
    ]
  ],
  p.row ∙ sym q.row,
  p.col ∙ sym q.col,
)

lines-same : (w from : ℕ) (lines : List (List ℕ)) (t : Picture) → sheets.AreLinesShown w from blank lines (cells_of t) → AreShown w from lines t
lines-same w from [] t h = tt
lines-same w from (line ∷ more) t h = ((λ k i. h.0 k i ∙ get_or_default line k blank 0 i), lines-same w (from + rows_of w line) more t h.1)

no-lines : (w from : ℕ) (lines : List (List ℕ)) (r c : ℕ) → (IsInLines w from lines r c → ⊥) → sheets.IsInLowerLines w from lines r c → ⊥
no-lines w from [] r c h i = i
no-lines w from (line ∷ more) r c h (inl i) = h (inl i)
no-lines w from (line ∷ more) r c h (inr i) = no-lines w (from + rows_of w line) more r c (λ j. h (inr j)) i

-- letters of glyphs, of which nothing is kept
abbrev under : List Glyph → List (Letter (Unit {0}))
under text = letters_under {A = Unit {0}} tt text

abbrev letter_of : Glyph → Letter (Unit {0})
letter_of x = record { kept = tt; glyph = x }

-- characters, a cell each, are laid as they are
laid-plain : (w x : ℕ) (text : List ℕ) → 0 < w → x ≤ w → sheets.laid blank w x (map (λ ch. ch ∷ []) text) ≡ text
laid-plain w x [] some within = refl
laid-plain w x (ch ∷ text) some within = grind (arith, nat_tests, laid-plain w (x + 1) text some, laid-plain w 1 text some)

-- the cells of printable characters
letters-plain : (text : List ℕ) → list_all is_printable text ≡ true → map (letter_cells characters) (under (map glyph_of text)) ≡ map (λ ch. ch ∷ []) text
letters-plain [] h = refl
letters-plain (ch ∷ text) h =
    let both = and_parts (is_printable ch) (list_all is_printable text) h in
    cc (printable_glyph ch both.0, letters-plain text both.1)

-- nothing is kept of attributes, so letters are their glyphs
letters-are : (changes : Batch) → letters_of characters tt changes ≡ under (typed_glyphs changes)
letters-are [] = refl
letters-are (Text text ∷ changes) = ap (λ l. under (glyphs text) ++ l) (letters-are changes) ∙ sym (map-append letter_of (glyphs text) (typed_glyphs changes))
letters-are (_ ∷ changes) = letters-are changes

-- and so are their lines
lines-letters : (text : List Glyph) → lines_of_letters (under text) ≡ map under (lines_by (λ glyph. glyph) text)
lines-letters text = sym (lines-map letter_of (λ letter. letter.glyph) text)

-- laid, they are the characters, and so are those of lines
laid-line : (w : ℕ) (line : List ℕ) → 0 < w → list_all is_printable line ≡ true → sheets.laid blank w 0 (map (letter_cells characters) (under (map glyph_of line))) ≡ line
laid-line w line some h = ap (sheets.laid blank w 0) (letters-plain line h) ∙ laid-plain w 0 line some (omega arith)

laid-lines : (w : ℕ) (lines : List (List ℕ)) → 0 < w → list_all (list_all is_printable) lines ≡ true
    → map (sheets.laid blank w 0) (map (map (letter_cells characters)) (map under (map (map glyph_of) lines))) ≡ lines
laid-lines w [] some h = refl
laid-lines w (line ∷ more) some h =
    let both = and_parts (list_all is_printable line) (list_all (list_all is_printable) more) h in
    ap₂ (λ l ls. l ∷ ls) (laid-line w line some both.0) (laid-lines w more some both.1)

module _ (w s : ℕ) (scene : Scene) (two : 2 ≤ w) (plain : IsPlain scene) where
  abbrev n : ℕ
  n = length (text_of scene)

  abbrev edged : Bool
  edged = ltb 0 n && eqb (n % w) 0

  abbrev edge_if : Bool → List ℕ
  edge_if b = if b then blank ∷ [] else []

  -- the cells of a part of the line
  part_is : (changes : Batch) → list_all is_typing changes ≡ true → map (letter_cells characters) (letters_of characters tt changes) ≡ map (λ ch. ch ∷ []) (typed_text changes)
  part_is changes h =
      let both = typing_is changes h in
      cc (letters-are changes, typed_are changes both.0 (plain_from_printable (typed_text changes) both.1), letters-plain (typed_text changes) both.1)

  laid_is : laid_letters characters w (head_letters characters scene) ≡ text_of scene
  laid_is =
      ap (sheets.laid blank w 0) (map-append (letter_cells characters) (letters_of characters tt scene.prompt) (letters_of characters tt scene.line)
      ∙ ap₂ (λ x y. x ++ y) (part_is scene.prompt plain.prompt) (part_is scene.line plain.line)
      ∙ sym (map-append (λ ch. ch ∷ []) (typed_text scene.prompt) (typed_text scene.line)))
      ∙ laid-plain w 0 (text_of scene) (omega (arith, two)) (omega arith)

  pub at_is : (sheet_of characters w scene).at ≡ length (typed_text scene.prompt) + scene.column
  at_is = ap (λ l. length l + scene.column) (ap (sheets.laid blank w 0) (part_is scene.prompt plain.prompt) ∙ laid-plain w 0 (typed_text scene.prompt) (omega (arith, two)) (omega arith))

  -- the sheet's text is the scene's, and the blank at the edge
  pub text_is : (sheet_of characters w scene).text ≡ text_of scene ++ edge_if edged
  text_is =
      sheet_text characters w scene two (plain_is_measured w scene two plain)
      ∙ ap (λ l. l ++ edge_if (ltb 0 (length l) && eqb (length l % w) 0)) laid_is

  pub lower_is : (lower : Lower) → IsPlainLower lower → map (sheets.laid blank w 0) (map (map (letter_cells characters)) (lower_letters characters tt lower)) ≡ lower_lines lower
  lower_is NoLower a = refl
  lower_is (Preview elements) a =
      let typed = letters-are elements ∙ ap under (typed_are elements a.0 (lower_plain (Preview elements) a)) in
      let lines = lines-letters (map glyph_of (typed_text elements)) ∙ ap (map under) (lines_are (typed_text elements)) in
      cc (typed, lines, laid-lines w (lines_of (typed_text elements)) (omega (arith, two)) a.1)
  lower_is (Search text) a =
      cc (plain_glyphs text (plain_from_printable text a), laid-line w text (omega (arith, two)) a)

  -- it ends in the same row
  pub row_is : length (text_of scene ++ edge_if edged) / w ≡ n / w
  row_is =
      let whole = div-add-mod' n w in
      let next = div-mul-add (n / w) w 1 (omega (arith, two)) in
      grind (arith, nat_tests, length-append (text_of scene) (edge_if edged), whole, next)

  -- what is behind the scene's text is blank
  blank_behind : (k : ℕ) → n ≤ k → slice_index_or (text_of scene ++ edge_if edged) k blank ≡ blank
  blank_behind k h = get_or-append_right (text_of scene) (edge_if edged) n k blank refl h ∙ grind (arith, nat_tests)

  pub fresh_characters : (t : Picture) → sheets.IsFreshSheet w s blank (sheet_of characters w scene) (cells_of t) → IsFresh w s scene t
  fresh_characters t f =
      let shown : sheets.IsTextShown w s blank (text_of scene ++ edge_if edged) (cells_of t) = rw text_is at f.shown in
      let low : s + length (sheet_of characters w scene).text / w + 1 ≡ s + line_row w scene + 1 = ap (λ l. s + length l / w + 1) text_is ∙ ap (λ i. s + i + 1) row_is in
      let lines : sheets.AreLinesShown w (s + line_row w scene + 1) blank (lower_lines scene.lower) (cells_of t) = rw (low, lower_is scene.lower plain.lower) at f.below in
      record {
        shown = λ k h. shown k (omega (arith, h, length-append (text_of scene) (edge_if edged))) ∙ (get_or_append_left (text_of scene) (edge_if edged) blank k h ∙ get_or_default (text_of scene) k blank 0 h);
        below = lines-same w (s + line_row w scene + 1) (lower_lines scene.lower) t lines;
        rest = λ r c from in_width none1 none2. elim (in_text w s (text_of scene ++ edge_if edged) r c two in_width) [
          | inl i ↦ ap (λ x. t.cell x c) i.2.0 ∙ ap (λ y. t.cell (s + i.0 / w) y) i.2.1 ∙ shown i.0 i.1
              ∙ blank_behind i.0 (elim (cases_lt i.0 n) [ inl less ↦ absurd (none1 (i.0, less, i.2)) | inr past ↦ past ])
          | inr outside ↦ f.rest r c from in_width (subst (λ l. sheets.IsInText w s l r c → ⊥) (sym text_is) outside)
              (λ i. no-lines w (s + line_row w scene + 1) (lower_lines scene.lower) r c none2 (rw (low, lower_is scene.lower plain.lower) at i))
        ];
        row = f.row ∙ ap (λ i. s + i / w) at_is;
        col = f.col ∙ ap (λ i. i % w) at_is;
      }

pub fresh_plain : FreshCharacters
fresh_plain w s scene t two plain f = fresh_characters w s scene two plain t f
