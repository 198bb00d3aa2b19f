-- Texts that are played: printable characters behind all cells of a screen, and the clusters of any text.
use Rattle.std.proofs.Common.{Result, Ok, Err, OnOk, ◌≡◌, ℕ, ◌+◌, ◌-◌, ◌*◌, ◌/◌, ◌%◌, ◌<◌, ◌≤◌, Bool, true, false, ◌&&◌, ◌||◌, cond, eqb, List, [], ◌∷◌, ◌++◌, length, map, refl, sym, ap, ◌∙◌, subst, append_assoc, append-nil, arith, if◌then◌else◌}
use Rattle.std.specs.List.{list_all, flat_map}
use Rattle.std.specs.Cmp.Lexicographic.{pointwise}
use Rattle.std.specs.Prelude.{encode_utf8}
use Rattle.std.specs.Str.{IsAscii, chars}
use Rattle.std.proofs.lemmas.Str.{chars-IsAscii}
use Rattle.std.proofs.lemmas.Str.Ascii.{IsAscii-cons, IsAscii-nil}
use Rattle.std.proofs.lemmas.Bool.{and_parts, and_from, eqb-true, eqb-false, leb-true, ne_eqb, false≢true}
use Rattle.std.proofs.lemmas.Bool.Decides.{nat_tests}
use Rattle.std.proofs.lemmas.List.{length-append, length-map, map-append}
use Rattle.std.proofs.lemmas.Nat.{div-mul-add, mod-mul-add}
use Rattle.unicode_segmentation.specs.Grapheme.{graphemes}
use Rattle.tw_surface.specs.declared.cell.CellAttributes.{CellAttributes}
use Rattle.tw_surface.specs.Characters.{is_plain, is_printable}
use Rattle.tw_surface.specs.ChangeView.{Text}
use Rattle.tw_surface.specs.declared.measure.Piece.{Piece}
use Rattle.tw_surface.specs.declared.measure.Piece.TheVariants.{Cr, Lf, CrLf, Wide}
use Rattle.tw_surface.specs.Places.{cluster_piece, plain_piece}
use Rattle.tw_surface.specs.Width.{cluster_width}
use Rattle.laws_screens.specs.Strokes.{PictureOf, Stroke, steps}
use Rattle.laws_screens.specs.Strokes.Stroke.{Put, Return, Feed}
use Rattle.laws_screens.specs.Glyphs.{Glyph, glyphs, glyphs_of_piece}
use Rattle.laws_screens.specs.Pens.{char_stroke, change_strokes, glyph_stroke}
use Rattle.laws_screens.proofs.PlainGlyphs.{plain_strokes}
use Rattle.tw_ansi.specs.EcmaTexts.{is_lone, is_sent, is_sent_cluster}
use Rattle.laws_screens.specs.StyledCells.{StyledCell, styled}
use Rattle.laws_screens.proofs.LineOfCells.{next_row}
use Rattle.tw_sparing.specs.StyledScreens.{StyledView, ShowsStyled, cell_under, character_stroke, cluster_strokes, styled_cell}
use Rattle.tw_sparing.proofs.DrawnCells.{push_puts, put_shows}
use Rattle.tw_sparing.proofs.SingleCharacters.{IsOne, number_is, printable_number}

-- the cursor stands behind all cells
pub record IsAtEnd (s : StyledView) : Type 0 where
  pub place : length s.cells ≡ s.row * s.width + s.col
  pub above : 0 < s.width
  pub most : s.col ≤ s.width

abbrev typed : ℕ → StyledView → StyledView
typed ch s = record s {
  row = if eqb s.col s.width then s.row + 1 else s.row;
  col = (if eqb s.col s.width then 0 else s.col) + 1;
  cells = s.cells ++ cell_under s.kept ch ∷ [];
}

abbrev pub typed_all : List ℕ → StyledView → StyledView
typed_all [] s = s
typed_all (ch ∷ text) s = typed_all text (typed ch s)

-- after a character it stands there again
typed-end : (ch : ℕ) (s : StyledView) → IsAtEnd s → IsAtEnd (typed ch s)
typed-end ch s h =
    let moved = by (eqb s.col s.width) refl in
    record {
      place = length-append s.cells (cell_under s.kept ch ∷ []) ∙ moved.0;
      above = h.above;
      most = moved.1;
    }
  where
    wrapped : s.col ≡ s.width → (length s.cells + 1 ≡ (s.row + 1) * s.width + 1) × (1 ≤ s.width)
    wrapped edge = (omega (arith, h.place, edge, next_row s.row s.width 0), h.above)

    inside : (s.col ≡ s.width → ⊥) → (length s.cells + 1 ≡ s.row * s.width + (s.col + 1)) × (s.col + 1 ≤ s.width)
    inside inner = (omega (arith, h.place), omega (arith, h.most, inner))

    by : (b : Bool) → eqb s.col s.width ≡ b
        → (length s.cells + 1 ≡ (if b then s.row + 1 else s.row) * s.width + ((if b then 0 else s.col) + 1)) × ((if b then 0 else s.col) + 1 ≤ s.width)
    by true e = wrapped (eqb-true s.col s.width e)
    by false e = inside (eqb-false s.col s.width e)

typed_all-end : (text : List ℕ) (s : StyledView) → IsAtEnd s → IsAtEnd (typed_all text s)
typed_all-end [] s h = h
typed_all-end (ch ∷ text) s h = typed_all-end text (typed ch s) (typed-end ch s h)

typed_all-col : (text : List ℕ) (s : StyledView) → 0 < s.col → 0 < (typed_all text s).col
typed_all-col [] s h = h
typed_all-col (ch ∷ text) s h = typed_all-col text (typed ch s) (omega arith)

-- the cells are those of the text, behind the old ones
typed_all-form : (text : List ℕ) (s : StyledView)
    → typed_all text s ≡ record s { row = (typed_all text s).row; col = (typed_all text s).col; cells = s.cells ++ map (cell_under s.kept) text }
typed_all-form [] s = ap (λ l. record s { cells = l }) (sym (append-nil s.cells))
typed_all-form (ch ∷ text) s =
    typed_all-form text (typed ch s)
    ∙ ap (λ l. record s { row = (typed_all text (typed ch s)).row; col = (typed_all text (typed ch s)).col; cells = l }) (append_assoc s.cells (cell_under s.kept ch ∷ []) (map (cell_under s.kept) text))

-- a row and a column are those of their place
place-row : (row w col n : ℕ) → col < w → n ≡ row * w + col → (row ≡ n / w) × (col ≡ n % w)
place-row row w col n low is = (sym (ap (λ k. k / w) is ∙ div-mul-add row w col low), sym (ap (λ k. k % w) is ∙ mod-mul-add row w col low))

-- a printable character is put
put_stroke : (a : CellAttributes) (ch : ℕ) → is_printable ch ≡ true → character_stroke a ch ≡ Put (styled_cell (cell_under a ch) ∷ [])
put_stroke a ch printable =
    let low : 32 ≤ ch = leb-true 32 ch (and_parts _ _ printable).0 in
    let cell : Stroke StyledCell = Put (styled_cell (cell_under a ch) ∷ []) in
    ap (λ x. cond x Return (cond (eqb ch 10) Feed cell)) (ne_eqb ch 13 (λ e. omega (arith, e, low))) ∙ ap (λ x. cond x Feed cell) (ne_eqb ch 10 (λ e. omega (arith, e, low)))

-- the strokes of the text lead there
typed-shows : (ch : ℕ) (s : StyledView) (p : PictureOf StyledCell) → IsAtEnd s → ShowsStyled s p → is_printable ch ≡ true
    → ShowsStyled (typed ch s) (steps s.width (character_stroke s.kept ch ∷ []) p)
typed-shows ch s p h shows printable =
    rw (put_stroke s.kept ch printable)
    (put_shows s (record s { cells = s.cells ++ cell_under s.kept ch ∷ [] }) (length s.cells) _ _ (styled_cell (cell_under s.kept ch)) p h.above h.most h.place refl refl refl
    (push_puts s s (length s.cells) (cell_under s.kept ch) refl (record { cells = λ i. refl; row = refl; col = refl })) shows)

typed_all-shows : (text : List ℕ) (s : StyledView) (p : PictureOf StyledCell) → IsAtEnd s → ShowsStyled s p → list_all is_printable text ≡ true
    → ShowsStyled (typed_all text s) (steps s.width (map (character_stroke s.kept) text) p)
typed_all-shows [] s p h shows printable = shows
typed_all-shows (ch ∷ text) s p h shows printable =
    typed_all-shows text (typed ch s) _ (typed-end ch s h) (typed-shows ch s p h shows (and_parts _ _ printable).0) (and_parts _ _ printable).1

pub type_shows : (text : List ℕ) (s : StyledView) (p : PictureOf StyledCell) (last : ℕ) → IsAtEnd s → ShowsStyled s p → list_all is_printable text ≡ true → 0 < length text
    → last ≡ length s.cells + length text - 1
    → ShowsStyled (record s { row = last / s.width; col = last % s.width + 1; cells = s.cells ++ map (cell_under s.kept) text }) (steps s.width (map (character_stroke s.kept) text) p)
type_shows [] s p last h shows printable some is = absurd (omega (arith, some))
type_shows (ch ∷ text) s p last h shows printable some is =
    let end = typed_all (ch ∷ text) s in
    let at : IsAtEnd end = typed_all-end (ch ∷ text) s h in
    let form = typed_all-form (ch ∷ text) s in
    let width : end.width ≡ s.width = ap (λ v. v.width) form in
    let col : 0 < end.col = typed_all-col text (typed ch s) (omega arith) in
    let cells : length end.cells ≡ length (s.cells ++ map (cell_under s.kept) (ch ∷ text)) = ap (λ v. length v.cells) form in
    let counted : length (s.cells ++ map (cell_under s.kept) (ch ∷ text)) ≡ length s.cells + length (ch ∷ text) =
    length-append s.cells (map (cell_under s.kept) (ch ∷ text)) ∙ ap (λ n. length s.cells + n) (length-map (ch ∷ text) (cell_under s.kept)) in
    let place : length end.cells ≡ end.row * s.width + end.col = rw width at at.place in
    let there = place-row end.row s.width (end.col - 1) last (omega (arith, at.most, width, col)) (omega (arith, place, cells, is, counted, col)) in
    subst (λ v. ShowsStyled v (steps s.width (map (character_stroke s.kept) (ch ∷ text)) p))
    (form ∙ ap (λ r. record s { row = r; col = end.col; cells = s.cells ++ map (cell_under s.kept) (ch ∷ text) }) there.0
    ∙ ap (λ k. record s { row = last / s.width; col = k; cells = s.cells ++ map (cell_under s.kept) (ch ∷ text) }) (omega (arith, there.1, col)))
    (typed_all-shows (ch ∷ text) s p h shows printable)

plain_low : (ch : ℕ) → is_plain ch ≡ true → ch < 128
plain_low ch h = grind (arith, nat_tests, h)

-- the characters of a plain text are its bytes
plain_chars : (text : List ℕ) → list_all is_plain text ≡ true → chars text ≡ text
plain_chars text h = chars-IsAscii text (ascii text h)
  where
    ascii : (text : List ℕ) → list_all is_plain text ≡ true → IsAscii text
    ascii [] h = IsAscii-nil
    ascii (ch ∷ text) h =
        let both = and_parts (is_plain ch) (list_all is_plain text) h in
        IsAscii-cons ch text (plain_low ch both.0) (ascii text both.1)

-- and so are its strokes
pub byte_strokes : (a : CellAttributes) (text : List ℕ) → list_all is_plain text ≡ true → map (character_stroke a) text ≡ change_strokes styled a (Text text)
byte_strokes a text h = each text h ∙ sym (plain_strokes styled a text h)
  where
    one : (ch : ℕ) → is_plain ch ≡ true → character_stroke a ch ≡ char_stroke styled a ch
    one ch h = ap (λ n. cond (eqb ch 13) Return (cond (eqb ch 10) Feed (Put (record { ch = n; attributes = a } ∷ [])))) (printable_number ch (plain_low ch h))

    each : (text : List ℕ) → list_all is_plain text ≡ true → map (character_stroke a) text ≡ map (char_stroke styled a) text
    each [] h = refl
    each (ch ∷ text) h =
        let both = and_parts (is_plain ch) (list_all is_plain text) h in
        ap (λ stroke. stroke ∷ map (character_stroke a) text) (one ch both.0) ∙ ap (λ strokes. char_stroke styled a ch ∷ strokes) (each text both.1)

pub text_strokes : (a : CellAttributes) (text : List ℕ) → list_all is_plain text ≡ true → map (character_stroke a) (chars text) ≡ change_strokes styled a (Text text)
text_strokes a text h = ap (map (character_stroke a)) (plain_chars text h) ∙ byte_strokes a text h

-- ---- clusters of a text that is not plain

-- what holds in any case holds where nothing is refused
pub holds_on_ok : {X E P : Type 0} (r : Result X E) → P → OnOk r P
holds_on_ok (Ok x) p = p
holds_on_ok (Err e) p = tt

-- the strokes of two lists of clusters
pub strokes_both : (a : CellAttributes) (xs ys : List (List ℕ)) → cluster_strokes a (xs ++ ys) ≡ cluster_strokes a xs ++ cluster_strokes a ys
strokes_both a [] ys = refl
strokes_both a (x ∷ xs) ys =
    let here : List Glyph = glyphs_of_piece x (cluster_piece x) in
    let glyphs_in : List (List ℕ) → List Glyph = flat_map (λ cluster. glyphs_of_piece cluster (cluster_piece cluster)) in
    map-append (glyph_stroke styled a) here (glyphs_in (xs ++ ys)) ∙ ap (λ l. map (glyph_stroke styled a) here ++ l) (strokes_both a xs ys)
    ∙ sym (append_assoc (map (glyph_stroke styled a) here) (cluster_strokes a xs) (cluster_strokes a ys))
    ∙ ap (λ l. l ++ cluster_strokes a ys) (sym (map-append (glyph_stroke styled a) here (glyphs_in xs)))

pub sent_both : (w : ℕ) (xs : List (List ℕ)) (cluster : List ℕ) → list_all (is_sent_cluster w) xs ≡ true → is_sent_cluster w cluster ≡ true → list_all (is_sent_cluster w) (xs ++ cluster ∷ []) ≡ true
sent_both w [] cluster all one = ap (λ t. t && true) one
sent_both w (x ∷ xs) cluster all one = let both = and_parts _ _ all in and_from _ _ both.0 (sent_both w xs cluster both.1 one)

pub glyph_strokes : (a : CellAttributes) (text : List ℕ) → list_all is_plain text ≡ false → cluster_strokes a (graphemes true text) ≡ change_strokes styled a (Text text)
unfolding glyphs
glyph_strokes a text other =
    let plain : List Glyph = flat_map (λ ch. glyphs_of_piece (ch ∷ []) (plain_piece ch)) text in
    let glyphs_in : List Glyph = flat_map (λ cluster. glyphs_of_piece cluster (cluster_piece cluster)) (graphemes true text) in
    ap (λ t. map (glyph_stroke styled a) (cond t plain glyphs_in)) (sym other)

pub text_sent : (w : ℕ) (text : List ℕ) → list_all (is_sent_cluster w) (graphemes true text) ≡ true → is_sent w text ≡ true
unfolding is_sent
text_sent w text all = ap (λ t. list_all is_plain text || t) all ∙ either (list_all is_plain text)
  where
    either : (b : Bool) → (b || true) ≡ true
    either true = refl
    either false = refl

-- a cluster that is this piece
pub piece_strokes : (a : CellAttributes) (cluster : List ℕ) (piece : Piece) → cluster_piece cluster ≡ piece → map (glyph_stroke styled a) (glyphs_of_piece cluster piece ++ []) ≡ cluster_strokes a (cluster ∷ [])
piece_strokes a cluster piece e = ap (λ p. map (glyph_stroke styled a) (glyphs_of_piece cluster p ++ [])) (sym e)

-- CR, LF, or both
abbrev pub ends_line : Piece → Bool
ends_line (Wide columns) = false
ends_line _ = true

pub line_end_sent : (w : ℕ) (cluster : List ℕ) → ends_line (cluster_piece cluster) ≡ true → is_sent_cluster w cluster ≡ true
line_end_sent w cluster e = by_ends (pointwise eqb cluster (13 ∷ [])) (pointwise eqb cluster (10 ∷ [])) (pointwise eqb cluster (13 ∷ 10 ∷ [])) e
  where
    by_ends : (x y z : Bool) → ends_line (cond x Cr (cond y Lf (cond z CrLf (Wide (cluster_width cluster))))) ≡ true → (x || (y || (z || is_lone w cluster))) ≡ true
    by_ends true y z e = refl
    by_ends false true z e = refl
    by_ends false false true e = refl
    by_ends false false false e = absurd (false≢true e)

-- a cluster that is a character of one column
pub single_strokes : (a : CellAttributes) (cluster : List ℕ) (ch : ℕ) → cluster ≡ encode_utf8 ch → IsOne (encode_utf8 ch) → Put (styled_cell (cell_under a ch) ∷ []) ∷ [] ≡ cluster_strokes a (cluster ∷ [])
single_strokes a cluster ch is one =
    ap (λ n. let x : StyledCell = record { ch = n; attributes = a } in Put (x ∷ []) ∷ []) (number_is ch)
    ∙ sym (ap (λ piece. map (glyph_stroke styled a) (glyphs_of_piece (encode_utf8 ch) piece ++ [])) one.piece)
    ∙ ap (λ bytes. cluster_strokes a (bytes ∷ [])) (sym is)
