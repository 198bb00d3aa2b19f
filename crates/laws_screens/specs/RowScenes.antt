-- Scenes whose line has several rows on the screen, told by measured ones: the rows after the first are a preview.
use Rattle.std.specs.Prelude.{ℕ, ◌≡◌, ◌≢◌, ◌≤◌, true, ◌∷◌, ◌++◌}
use Rattle.laws_screens.specs.Strokes.Stroke.{Return, Feed}
use Rattle.tw_surface.specs.ChangeView.{Batch}
use Rattle.tw_surface.specs.Defaults.{default_attributes}
use Rattle.tw_surface.specs.Paintings.{before_line, edge_space, lower_changes}
use Rattle.tw_surface.specs.PaintingBatches.{SizedScene}
use Rattle.tw_surface.specs.Places.{Place, place_after_all, origin}
use Rattle.tw_surface.specs.Scenes.{Scene, is_text}
use Rattle.tw_surface.specs.Scenes.Lower.{Preview}
use Rattle.std.specs.List.{list_all}
use Rattle.laws_screens.specs.Glyphs.{IsMeasured}
use Rattle.laws_screens.specs.PaintedAlike.{IsPaintedAs}
use Rattle.laws_screens.specs.Pens.{Pen, kept_after_all, strokes_of}

-- the place after the prompt and some changes of the line
abbrev pub place_behind : ℕ → Scene → Batch → Place
place_behind cols scene changes = place_after_all cols (before_line scene.prompt ++ changes) origin

-- The scene with the first row as its line, and with a preview of the others, the space at the edge, and what stands
-- under the line.
abbrev pub folded : ℕ → Scene → Batch → Batch → Scene
folded cols scene first others =
    record scene { line = first; lower = Preview (others ++ (edge_space cols (place_behind cols scene scene.line) ++ lower_changes scene.lower)) }

-- A scene has rows where its line draws a first one, and under it others; the first one does not end after the last
-- column, and the scene is measured as it is folded.
pub record HasRows {A C : Type 0} (pen : Pen A C) (cols : ℕ) (scene : Scene) (first others : Batch) : Type 0 where
  pub wide : 2 ≤ cols
  pub line : list_all is_text scene.line ≡ true
  pub drawn : let start = pen.attributes default_attributes in
      strokes_of pen start scene.line ≡ strokes_of pen start first ++ Return ∷ Feed ∷ strokes_of pen start others
  pub kept : let start = pen.attributes default_attributes in
      kept_after_all pen start scene.line ≡ kept_after_all pen start others
  pub off_edge : (place_behind cols scene first).x ≢ cols
  pub measured : IsMeasured cols (folded cols scene first others)

-- A station whose scene has rows is painted as its scene is folded.
abbrev pub RowsAreAPreview : {A C : Type 0} → Pen A C → Type 0
RowsAreAPreview pen = (station : SizedScene) (first others : Batch) → HasRows pen station.cols station.scene first others
    → IsPaintedAs pen station (record station { scene = folded station.cols station.scene first others })
