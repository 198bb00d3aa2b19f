-- The cell in which the cursor stands.
use Rattle.std.specs.Prelude.{ℕ, ◌≡◌, ◌≤◌, ◌<◌, ◌+◌, ◌⊎◌, List, [], ◌∷◌, ◌++◌, map}
use Rattle.tw_surface.specs.Paintings.{before_line, cursor_place}
use Rattle.tw_surface.specs.Places.{Place, place_after_all, end_of_pieces, origin, begins_at}
use Rattle.tw_surface.specs.Scenes.{Scene}
use Rattle.tw_surface.specs.Defaults.{default_color, default_attributes}
use Rattle.tw_surface.specs.Pictures.{blank}
use Rattle.laws_screens.specs.Strokes.{PictureOf}
use Rattle.laws_screens.specs.Sheets.{IsFreshSheet}
use Rattle.laws_screens.specs.Glyphs.{Glyph, piece_of, typed_glyphs, IsMeasured}
use Rattle.laws_screens.specs.Glyphs.Glyph.{Cluster}
use Rattle.laws_screens.specs.Pens.{Pen, kept_after_all}
use Rattle.laws_screens.specs.SceneSheets.{sheet_of}

-- where the editor measures the prompt and some glyphs of the line to end
abbrev pub place_after_glyphs : ℕ → Scene → List Glyph → Place
place_after_glyphs cols scene before = end_of_pieces cols (map piece_of before) (place_after_all cols (before_line scene.prompt) origin)

-- the cursor of a scene is placed where a cluster of its line begins
pub record IsPlacedBefore (cols : ℕ) (scene : Scene) (before : List Glyph) (cluster : List ℕ) (columns : ℕ) (behind : List Glyph) : Type 0 where
  pub line : typed_glyphs scene.line ≡ before ++ Cluster cluster columns ∷ behind
  pub some : 0 < columns
  pub cursor : cursor_place cols scene ≡ begins_at cols columns (place_after_glyphs cols scene before)

-- the cursor stands in the first cell of a cluster, and its further cells follow in the row
abbrev pub StandsOn : {A C : Type 0} → Pen A C → List ℕ → ℕ → PictureOf C → Type 0
StandsOn {A} pen cluster columns after =
    (a : A) × (after.cell after.row after.col ≡ pen.ink a cluster) × ((k : ℕ) → 0 < k → k < columns → after.cell after.row (after.col + k) ≡ pen.rest a)

-- Where such a scene is fresh, it stands so on that cluster.
abbrev pub CursorStandsBefore : {A C : Type 0} → Pen A C → Type 0
CursorStandsBefore {A} {C} pen = (w s : ℕ) (scene : Scene) (before : List Glyph) (cluster : List ℕ) (columns : ℕ) (behind : List Glyph) (after : PictureOf C)
    → 2 ≤ w → IsMeasured w scene → IsPlacedBefore w scene before cluster columns behind
    → IsFreshSheet w s (pen.paper default_color) (sheet_of pen w scene) after → StandsOn pen cluster columns after

-- the cursor of a scene is placed where a cell begins after its line
abbrev pub IsPlacedBehind : ℕ → Scene → Type 0
IsPlacedBehind cols scene = cursor_place cols scene ≡ begins_at cols 1 (place_after_glyphs cols scene (typed_glyphs scene.line))

-- the cursor stands in an empty cell, or in the blank that a line at the edge ends with
abbrev pub StandsOnBlank : {A C : Type 0} → Pen A C → Scene → PictureOf C → Type 0
StandsOnBlank pen scene after =
    let here = after.cell after.row after.col in
    (here ≡ pen.paper default_color) ⊎ (here ≡ pen.ink (kept_after_all pen (pen.attributes default_attributes) scene.line) (blank ∷ []))

-- Where such a scene is fresh, it stands so.
abbrev pub CursorStandsBehind : {A C : Type 0} → Pen A C → Type 0
CursorStandsBehind {A} {C} pen = (w s : ℕ) (scene : Scene) (after : PictureOf C)
    → 2 ≤ w → IsMeasured w scene → IsPlacedBehind w scene → IsFreshSheet w s (pen.paper default_color) (sheet_of pen w scene) after → StandsOnBlank pen scene after
