-- What a terminal shows that is sent the bytes of texts.
use Rattle.std.specs.Prelude.{◌≡◌, ◌≤◌, ◌<◌, ◌-◌, ◌^◌, ◌&&◌, ◌||◌, not, ℕ, eqb, ltb, leb, min, Bool, true, false, Some, if◌then◌else◌, List, [], ◌∷◌, ◌++◌, map, chars}
use Rattle.std.specs.List.{list_all, list_any}
use Rattle.std.specs.Cmp.Lexicographic.{pointwise}
use Rattle.std.specs.Char.{is_control}
use Rattle.unicode_segmentation.specs.Grapheme.{graphemes}
use Rattle.tw_surface.specs.Width.{cluster_width}
use Rattle.laws_screens.specs.Glyphs.{glyphs}
use Rattle.laws_screens.specs.Strokes.{PictureOf, steps_on}
use Rattle.tw_surface.specs.Characters.{is_plain, is_printable, cr, lf}
use Rattle.laws_screens.specs.Pens.{Pen, glyph_stroke}
use Rattle.laws_screens.specs.Screens.{blank_of}
use Rattle.tw_ansi.specs.declared.encode.Encoder.{Encoder}
use Rattle.tw_ansi.specs.Encoding.{sent_text}
use Rattle.tw_ansi.specs.EcmaScreen.{EcmaScreen, receive_all, is_whole_character, columns_of}
use Rattle.tw_ansi.specs.EcmaScreen as terminal

-- the picture of a screen of h rows: the cursor stands in one of them, and all cells below them are blank
pub record IsOfRows {C : Type 0} (blank : C) (h : ℕ) (s : PictureOf C) : Type 0 where
  pub row : s.row < h
  pub below : (r c : ℕ) → h ≤ r → s.cell r c ≡ blank

-- the terminal shows the picture of a screen of h rows and w columns: the same cells and the same row; after the last
-- column it waits there, or stands in it without waiting and the encoder knows that; and those attributes are selected
-- that the encoder knows
pub record ShowsPicture {A C : Type 0} (pen : Pen A C) (h w : ℕ) (e : Encoder) (t : EcmaScreen C) (s : PictureOf C) : Type 0 where
  pub within : IsOfRows (blank_of pen) h s
  pub edge : s.col ≤ w
  pub cells : (r c : ℕ) → r < h → c < w → t.cell r c ≡ s.cell r c
  pub row : t.row ≡ s.row
  pub col : t.col ≡ min s.col (w - 1)
  pub waits : t.waits ≡ (eqb s.col w && not e.parted)
  pub parted : e.parted ≡ true → s.col ≡ w
  pub reading : t.reading ≡ terminal.Text
  pub rendition : t.rendition ≡ e.attributes
  pub cols : e.cols ≡ w
  pub x : e.x ≡ s.col

-- marks: characters of several bytes that take no column, the first bytes of which have come
abbrev pub are_marks : List ℕ → List ℕ → Bool
are_marks [] [] = true
are_marks (b ∷ begun) [] = false
are_marks [] (b ∷ bytes) = leb 194 b && are_marks (b ∷ []) bytes
are_marks (lead ∷ begun) (b ∷ bytes) =
    let mark = lead ∷ (begun ++ b ∷ []) in
    if is_whole_character mark then eqb (columns_of mark) 0 && are_marks [] bytes else are_marks mark bytes

-- a character of `width` columns, the first bytes of which have come, and marks
abbrev pub is_character_by : ℕ → List ℕ → List ℕ → Bool
is_character_by width begun [] = false
is_character_by width begun (b ∷ bytes) =
    let character = begun ++ b ∷ [] in
    if is_whole_character character then eqb (columns_of character) width && are_marks [] bytes else is_character_by width character bytes

-- so it is of all its bytes: a printable character, or one of several bytes, and marks
abbrev pub is_character : ℕ → List ℕ → Bool
is_character width [] = false
is_character width (lead ∷ bytes) =
    (is_printable lead && (eqb width 1 && are_marks [] bytes)) || (leb 194 lead && is_character_by width (lead ∷ []) bytes)

-- a cluster of one character and its marks that a terminal shows in as many columns as are measured: one or more, and no
-- more than the screen has
abbrev pub is_lone : ℕ → List ℕ → Bool
is_lone w cluster =
    is_character (cluster_width cluster) cluster
    && (not (list_any is_control (chars cluster)) && (ltb 0 (cluster_width cluster) && leb (cluster_width cluster) w))

-- CR, LF, CR LF, or such a cluster
abbrev pub is_sent_cluster : ℕ → List ℕ → Bool
is_sent_cluster w cluster =
    pointwise eqb cluster (cr ∷ []) || (pointwise eqb cluster (lf ∷ []) || (pointwise eqb cluster (cr ∷ lf ∷ []) || is_lone w cluster))

-- a text that is plain, or of such clusters: a terminal shows it as it is measured
unfoldable pub is_sent : ℕ → List ℕ → Bool
is_sent w text = list_all is_plain text || list_all (is_sent_cluster w) (graphemes true text)

-- marks that join a cell of a cluster make it that of the cluster with them
abbrev pub JoinsMarks : {A C : Type 0} → Pen A C → Type 0
JoinsMarks {A} {C} pen = (a : A) (cluster mark : List ℕ) → pen.join (pen.ink a cluster) mark ≡ pen.ink a (cluster ++ mark)

-- a terminal that shows a picture, and is sent the bytes of such a text, shows the picture on which the text was drawn
-- under the attributes that the encoder knows
abbrev pub TextIsShown : {A C : Type 0} → Pen A C → Type 0
TextIsShown {A} {C} pen = (h w : ℕ) (text : List ℕ) (e : Encoder) (t : EcmaScreen C) (s : PictureOf C)
    → JoinsMarks pen → 0 < w → w < 2 ^ 64 → is_sent w text ≡ true → ShowsPicture pen h w e t s
    → ShowsPicture pen h w (sent_text text e).next (receive_all pen h w (sent_text text e).bytes t)
    (steps_on (Some h) w (map (glyph_stroke pen (pen.attributes e.attributes)) (glyphs text)) s)
