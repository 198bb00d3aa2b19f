-- What a scene is to show, as a sheet of cells, and its painting as strokes.
use Rattle.std.specs.Prelude.{ℕ, ◌+◌, ◌-ℤ◌, pos, neg_ℤ, ◌%◌, ◌&&◌, eqb, ltb, if◌then◌else◌, List, [], ◌∷◌, ◌++◌, length, map}
use Rattle.laws_screens.specs.Sheets.{Sheet, Writing, laid, laid_out}
use Rattle.laws_screens.specs.Paintings.{SheetPainting}
use Rattle.tw_surface.specs.declared.change.Position.TheVariants.{Relative}
use Rattle.tw_surface.specs.Defaults.{default_color, default_attributes}
use Rattle.tw_surface.specs.Paintings.{painting, shown_part, cursor_place, mark_of}
use Rattle.tw_surface.specs.PaintingBatches.{SizedScene}
use Rattle.tw_surface.specs.Pictures.{blank}
use Rattle.tw_surface.specs.Places.{place_after_all, origin}
use Rattle.tw_surface.specs.Scenes.{Scene, Lower}
use Rattle.tw_surface.specs.Scenes.Lower.{NoLower, Preview, Search}
use Rattle.laws_screens.specs.Glyphs.{glyphs}
use Rattle.laws_screens.specs.Glyphs.Glyph.{Cluster}
use Rattle.laws_screens.specs.Pens.{Pen, Letter, kept_after_all, letters_under, letters_of, letter_cells, lines_of_letters, led}

-- the cells of letters that begin at column 0
abbrev pub laid_letters : {A C : Type 0} → Pen A C → ℕ → List (Letter A) → List C
laid_letters pen width letters = laid (pen.paper default_color) width 0 (map (letter_cells pen) letters)

-- the prompt and the line, each from default attributes on
abbrev pub head_letters : {A C : Type 0} → Pen A C → Scene → List (Letter A)
head_letters pen scene =
    let start = pen.attributes default_attributes in
    letters_of pen start scene.prompt ++ letters_of pen start scene.line

-- after a text that fills its last row, a blank under the last attributes of the line
abbrev pub edge_letters : {A C : Type 0} → Pen A C → ℕ → Scene → List (Letter A)
edge_letters pen width scene =
    let cells = laid_letters pen width (head_letters pen scene) in
    if ltb 0 (length cells) && eqb (length cells % width) 0
    then record { kept = kept_after_all pen (pen.attributes default_attributes) scene.line; glyph = Cluster (blank ∷ []) 1 } ∷ []
    else []

-- the lines under them, with this kept of attributes where they begin
abbrev pub lower_letters : {A C : Type 0} → Pen A C → A → Lower → List (List (Letter A))
lower_letters pen start NoLower = []
lower_letters pen start (Preview elements) = lines_of_letters (letters_of pen start elements)
lower_letters pen start (Search text) = letters_under start (glyphs text) ∷ []

-- what is written for a scene at width columns: what is under the line from default attributes on, too
abbrev pub writing_of : {A C : Type 0} → Pen A C → ℕ → Scene → Writing C
writing_of pen width scene = record {
  text = map (letter_cells pen) (head_letters pen scene ++ edge_letters pen width scene);
  lower = map (map (letter_cells pen)) (lower_letters pen (pen.attributes default_attributes) scene.lower);
}

-- and what it is to show: the cursor stands as many cells after the prompt as the scene's column says
abbrev pub sheet_of : {A C : Type 0} → Pen A C → ℕ → Scene → Sheet C
sheet_of pen width scene =
    laid_out (pen.paper default_color) width (writing_of pen width scene)
    (length (laid_letters pen width (letters_of pen (pen.attributes default_attributes) scene.prompt)) + scene.column)

-- the painting of a measured scene, as strokes
abbrev pub painting_of : {A C : Type 0} → Pen A C → SizedScene → SheetPainting C
painting_of pen station =
    let w = station.cols in
    let m = mark_of (painting w station.scene) in
    let from = place_after_all w (shown_part w station.scene) origin in
    let to = cursor_place w station.scene in
    record {
      writing = writing_of pen w station.scene;
      sheet = sheet_of pen w station.scene;
      cols = w;
      cleared = station.scene.cleared;
      to_row = led (Relative (to.y -ℤ from.y));
      to_col = led (Relative (pos to.x -ℤ pos from.x));
      back = led (Relative (neg_ℤ m.row));
      under = led (Relative (pos (1 + m.height) -ℤ m.row));
    }
