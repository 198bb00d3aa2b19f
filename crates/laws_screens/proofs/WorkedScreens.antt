-- Worked stations with attributes, Han at the edge of a row, a mark and an emoji, by computation and by the law, and
-- what other terminals would show.
use Rattle.std.proofs.Common.{◌≡◌, ℕ, pos, negsuc, ◌+◌, false, true, None, Some, List, [], ◌∷◌, ◌++◌, map, min, refl, arith, slice_index_or}
use Rattle.std.proofs.lemmas.List.Elements.{All-nil, All-push}
use Rattle.unicode_segmentation.proofs.Computing.{unicode_segmentation}
use Rattle.unicode_width.proofs.Computing.{unicode_width}
use Rattle.tw_surface.specs.declared.cell.AttributeChange.TheVariants as attribute
use Rattle.tw_surface.specs.declared.cell.CellAttributes.{CellAttributes}
use Rattle.tw_surface.specs.declared.cell.Intensity.TheVariants.{Bold}
use Rattle.tw_surface.specs.declared.change.Position.TheVariants.{Absolute, Relative}
use Rattle.tw_surface.specs.declared.color.ColorAttribute.TheVariants.{PaletteIndex}
use Rattle.tw_surface.specs.ChangeView.{Batch, Attribute, AllAttributes, Text, ClearToEndOfScreen, CursorPosition}
use Rattle.tw_surface.specs.Defaults.{default_color, default_attributes}
use Rattle.tw_surface.specs.Lines.{lines_of}
use Rattle.tw_surface.specs.Paintings.{painting, mark_of, start_move, closing}
use Rattle.tw_surface.specs.PaintingBatches.{SizedScene, run_batches}
use Rattle.tw_surface.specs.Pictures.{Picture, play_all}
use Rattle.tw_surface.specs.Places.{pieces}
use Rattle.tw_surface.specs.Scenes.{Scene, Lower, IsPlain}
use Rattle.tw_surface.specs.Scenes.Lower.{NoLower, Preview, Search}
use Rattle.laws_screens.specs.Glyphs.{glyphs, IsMeasured, IsMeasuredWide}
use Rattle.laws_screens.specs.Glyphs.Glyph.{Cr, Lf, Cluster}
use Rattle.laws_screens.specs.Pens.{strokes_of}
use Rattle.laws_screens.specs.SceneSheets.{sheet_of}
use Rattle.laws_screens.specs.Screens.{play_sized}
use Rattle.laws_screens.specs.Sheets.{painted_rows, raised_row}
use Rattle.laws_screens.specs.SizedBatches.{sized_batches}
use Rattle.laws_screens.specs.Strokes.{PictureOf, Stroke, step, steps_on}
use Rattle.laws_screens.specs.StyledCells.{StyledCell, styled, cluster_number}
use Rattle.laws_screens.proofs.PaintedAlikeLemmas.{are_themselves, shows_stations}

abbrev han : List ℕ
han = 230 ∷ 188 ∷ 162 ∷ []

abbrev marked : List ℕ
marked = 101 ∷ 204 ∷ 129 ∷ []

abbrev emoji : List ℕ
emoji = 240 ∷ 159 ∷ 145 ∷ 169 ∷ 226 ∷ 128 ∷ 141 ∷ 240 ∷ 159 ∷ 154 ∷ 128 ∷ []

-- a mark is in the cluster of its letter, behind a line end too, an emoji in that of the one that it is joined to, and
-- a space that takes no column is a cluster of none
cut_so : glyphs (13 ∷ 10 ∷ marked ++ (emoji ++ 226 ∷ 128 ∷ 139 ∷ [])) ≡ Cr ∷ Lf ∷ Cluster marked 1 ∷ Cluster emoji 2 ∷ Cluster (226 ∷ 128 ∷ 139 ∷ []) 0 ∷ []
unfolding glyphs unicode_segmentation unicode_width
cut_so = refl

abbrev red : CellAttributes
red = record default_attributes { foreground = PaletteIndex 1 }

abbrev green : CellAttributes
green = record default_attributes { background = PaletteIndex 2 }

abbrev bold : CellAttributes
bold = record green { intensity = Bold }

abbrev under : CellAttributes → ℕ → StyledCell
under a ch = record { ch = ch; attributes = a }

abbrev plain : ℕ → StyledCell
plain ch = under default_attributes ch

abbrev empty : StyledCell
empty = plain 32

-- a green prompt that sets no attributes back, two Han of which the second does not fit in the first row, a red mark
-- and emoji that fill the second row, the cursor on the emoji, and a preview of two lines that turns red in between
abbrev first : ℕ → SizedScene
first cols = record {
  scene = record {
    prompt = AllAttributes green ∷ Text (62 ∷ 32 ∷ []) ∷ Attribute (attribute.Intensity Bold) ∷ [];
    line = Text (han ++ han) ∷ AllAttributes red ∷ Text (marked ++ emoji) ∷ [];
    column = 6;
    lower = Preview (Text (98 ∷ 13 ∷ []) ∷ AllAttributes red ∷ Text (10 ∷ 99 ∷ []) ∷ []);
    cleared = false;
  };
  cols = cols;
}

-- a bold line over a search, on a cleared screen
abbrev second : SizedScene
second = record {
  scene = record {
    prompt = AllAttributes green ∷ Text (62 ∷ []) ∷ [];
    line = AllAttributes green ∷ Attribute (attribute.Intensity Bold) ∷ Text (97 ∷ []) ∷ [];
    column = 1;
    lower = Search marked;
    cleared = true;
  };
  cols = 5;
}

-- rows of A, of B and so on, entered at row r
abbrev full : ℕ → PictureOf StyledCell
full r = record { cell = λ i j. plain (65 + i); row = r; col = 0 }

-- five rows from row r on
abbrev rows_from : ℕ → PictureOf StyledCell → List (List StyledCell)
rows_from r s = map (λ i. map (λ j. s.cell (r + i) j) (0 ∷ 1 ∷ 2 ∷ 3 ∷ 4 ∷ [])) (0 ∷ 1 ∷ 2 ∷ 3 ∷ 4 ∷ [])

abbrev blank_row : List StyledCell
blank_row = empty ∷ empty ∷ empty ∷ empty ∷ empty ∷ []

-- the blank at the edge is red, as the line's end is; the rest of its row is empty
abbrev rows_of_first : List (List StyledCell)
rows_of_first =
    (under green 62 ∷ under green 32 ∷ plain (cluster_number han) ∷ plain 0 ∷ empty ∷ [])
    ∷ (plain (cluster_number han) ∷ plain 0 ∷ under red (cluster_number marked) ∷ under red (cluster_number emoji) ∷ under red 0 ∷ [])
    ∷ (under red 32 ∷ empty ∷ empty ∷ empty ∷ empty ∷ [])
    ∷ (plain 98 ∷ empty ∷ empty ∷ empty ∷ empty ∷ []) ∷ (under red 99 ∷ empty ∷ empty ∷ empty ∷ empty ∷ []) ∷ []

-- on six rows it scrolls once
abbrev scrolled_once : PictureOf StyledCell
scrolled_once = play_sized (Some 6) false styled 5 red (sized_batches (first 5 ∷ [])) (full 2)

scrolls : let sheet = sheet_of styled 5 (first 5).scene in
    (painted_rows 5 sheet ≡ 5) × (raised_row (Some 6) 5 2 sheet ≡ 1)
    × (scrolled_once.cell 0 0 ≡ plain 66) × (rows_from 1 scrolled_once ≡ rows_of_first) × (scrolled_once.row ≡ 2) × (scrolled_once.col ≡ 3)
unfolding glyphs pieces unicode_segmentation unicode_width
scrolls = (refl, refl, refl, refl, refl, refl)

-- on four rows it is not shown: its first row is gone
too_high : (play_sized (Some 4) false styled 5 red (sized_batches (first 5 ∷ [])) (full 2)).cell 0 0 ≡ plain (cluster_number han)
unfolding glyphs pieces unicode_segmentation unicode_width
too_high = refl

-- its closing batch scrolls once more; on a terminal that stops a move at the last row it would blank that row
abbrev closing_strokes : List (Stroke StyledCell)
closing_strokes = strokes_of styled red (closing (mark_of (painting 5 (first 5).scene)))

abbrev stopped : List (Stroke StyledCell) → PictureOf StyledCell → PictureOf StyledCell
stopped [] s = s
stopped (stroke ∷ more) s = let u = step 5 stroke s in stopped more (record u { row = min u.row 5 })

closes : let after = steps_on (Some 6) 5 closing_strokes scrolled_once in
    (after.cell 4 0 ≡ under red 99) × (after.cell 5 0 ≡ empty) × (after.row ≡ 5) × (after.col ≡ 0) × ((stopped closing_strokes scrolled_once).cell 5 0 ≡ empty)
unfolding glyphs pieces unicode_segmentation unicode_width
closes = (refl, refl, refl, refl, refl)

-- a cleared screen shows the second one from row 0 on, under default attributes again, and nothing of the first one
clears : let after = play_sized None false styled 5 red (sized_batches (first 5 ∷ second ∷ [])) (full 2) in
    (rows_from 0 after ≡ (under green 62 ∷ under bold 97 ∷ empty ∷ empty ∷ empty ∷ []) ∷ (plain (cluster_number marked) ∷ empty ∷ empty ∷ empty ∷ empty ∷ [])
    ∷ blank_row ∷ blank_row ∷ blank_row ∷ [])
    × (after.row ≡ 0) × (after.col ≡ 2)
unfolding glyphs pieces unicode_segmentation unicode_width
clears = (refl, refl, refl)

-- five columns, four, and five again, where the screen cuts its rows: the row above has lost its last column, and
-- nothing of the paintings before is left
changes_width : let after = play_sized None true styled 5 red (sized_batches (first 5 ∷ first 4 ∷ first 5 ∷ [])) (full 1) in
    (after.cell 0 3 ≡ plain 65) × (after.cell 0 4 ≡ empty) × (rows_from 1 after ≡ rows_of_first) × (after.cell 6 0 ≡ empty)
unfolding glyphs pieces unicode_segmentation unicode_width
changes_width = (refl, refl, refl, refl)

-- by the law, whatever the screen shows and whatever is set there
is_measured : IsMeasured 5 (first 5).scene
unfolding glyphs unicode_segmentation unicode_width
is_measured = record { prompt = refl; line = refl; lower = (refl, refl) }

by_the_law : (a : CellAttributes) (cell : ℕ → ℕ → StyledCell)
    → let after = play_sized None false styled 5 a (sized_batches (first 5 ∷ [])) (record { cell = cell; row = 0; col = 0 }) in
    (after.cell 1 3 ≡ under red (cluster_number emoji)) × (after.cell 2 0 ≡ under red 32) × (after.cell 4 0 ≡ under red 99) × (after.row ≡ 1)
unfolding glyphs pieces unicode_segmentation unicode_width
by_the_law a cell =
    let themselves = are_themselves styled (first 5 ∷ []) (All-push IsMeasuredWide [] (first 5) (All-nil IsMeasuredWide) (omega arith, is_measured)) in
    let before : PictureOf StyledCell = record { cell = cell; row = 0; col = 0 } in
    let fresh = (shows_stations styled None false 5 a (first 5 ∷ []) [] (first 5) before refl tt themselves (λ k d h. tt)).fresh in
    (fresh.shown 8 (omega arith), fresh.shown 10 (omega arith), fresh.below.1.0 0 (omega arith), fresh.row)

-- ---- plain scenes

abbrev scene_of : List ℕ → ℕ → Lower → Scene
scene_of line column lower = record { prompt = Text (62 ∷ 32 ∷ []) ∷ []; line = Text line ∷ []; column = column; lower = lower; cleared = false }

-- a line that ends at the edge over a preview of four rows, one of them empty, its CR and LF cut between elements
abbrev at_the_edge : Scene
at_the_edge = scene_of (97 ∷ 98 ∷ 99 ∷ []) 3 (Preview (Text (97 ∷ 98 ∷ 99 ∷ 100 ∷ 101 ∷ 13 ∷ []) ∷ Text (10 ∷ 13 ∷ 10 ∷ 102 ∷ 103 ∷ []) ∷ []))

is_plain_scene : IsPlain at_the_edge
is_plain_scene = record { prompt = refl; line = refl; lower = (refl, refl) }

abbrev head : Batch
head = ClearToEndOfScreen default_color ∷ AllAttributes default_attributes ∷ Text (62 ∷ 32 ∷ []) ∷ AllAttributes default_attributes ∷ []

-- it is painted at five columns, then an empty line with the cursor far behind it, and that is closed
painted_so : run_batches 5 (at_the_edge ∷ scene_of [] 10 NoLower ∷ [])
    ≡ (head ++ Text (97 ∷ 98 ∷ 99 ∷ []) ∷ Text (32 ∷ []) ∷ Text (13 ∷ 10 ∷ []) ∷ AllAttributes default_attributes ∷ Text (97 ∷ 98 ∷ 99 ∷ 100 ∷ 101 ∷ 13 ∷ []) ∷ Text (10 ∷ 13 ∷ 10 ∷ 102 ∷ 103 ∷ [])
    ∷ CursorPosition (Relative (negsuc 1)) (Relative (negsuc 2)) ∷ [])
    ∷ (CursorPosition (Absolute 0) (Relative (negsuc 0)) ∷ head ++ Text [] ∷ CursorPosition (Relative (pos 0)) (Relative (pos 2)) ∷ [])
    ∷ (CursorPosition (Absolute 0) (Relative (negsuc 0)) ∷ ClearToEndOfScreen default_color ∷ []) ∷ []
unfolding pieces
painted_so = refl

-- lone CR and LF are characters of their lines
lone : lines_of (13 ∷ 97 ∷ 10 ∷ 13 ∷ 13 ∷ 10 ∷ 10 ∷ []) ≡ (13 ∷ 97 ∷ 10 ∷ 13 ∷ []) ∷ (10 ∷ []) ∷ []
lone = refl

-- A terminal that breaks its rows anew at three columns shows "> ab" in two of them, and the cursor in the second one.
-- The next painting begins there, and the first row stays.
abbrev a_to_b : Scene
a_to_b = scene_of (97 ∷ 98 ∷ []) 2 NoLower

abbrev broken_anew : Picture
broken_anew = record { cell = λ r c. slice_index_or (slice_index_or ((62 ∷ 32 ∷ 97 ∷ []) ∷ (98 ∷ []) ∷ []) r []) c 32; row = 1; col = 1 }

stale_row : let after = play_all 3 (start_move (mark_of (painting 5 a_to_b)) ∷ (painting 3 a_to_b).changes) broken_anew in
    map (λ r. map (λ c. after.cell r c) (0 ∷ 1 ∷ 2 ∷ [])) (0 ∷ 1 ∷ 2 ∷ []) ≡ (62 ∷ 32 ∷ 97 ∷ []) ∷ (62 ∷ 32 ∷ 97 ∷ []) ∷ (98 ∷ 32 ∷ 32 ∷ []) ∷ []
unfolding pieces
stale_row = refl
