-- A host that answers the settled column: where the cursor stands.
use Rattle.std.specs.Prelude.{ℕ, ◌≡◌, ◌<◌, Bool, true, not, Option, List, [], ◌∷◌, ◌++◌, take, drop}
use Rattle.std.specs.List.{list_all}
use Rattle.unicode_segmentation.specs.Grapheme.{graphemes, is_grapheme_break}
use Rattle.unicode_segmentation.specs.Segments.{breaks_at}
use Rattle.tw_surface.specs.PaintingBatches.{SizedScene}
use Rattle.tw_surface.specs.Scenes.{Scene}
use Rattle.laws_screens.specs.CursorCells.{IsPlacedBefore, IsPlacedBehind, StandsOn, StandsOnBlank}
use Rattle.laws_screens.specs.Glyphs.{Glyph, glyphs, typed_glyphs}
use Rattle.laws_screens.specs.Glyphs.Glyph.{Cluster}
use Rattle.laws_screens.specs.Pens.{Pen}
use Rattle.laws_screens.specs.Strokes.{PictureOf}
use Rattle.tw_line.specs.Cut.{Cut, IsCut}
use Rattle.tw_host.specs.ElementView.{changes_of}
use Rattle.tw_host.specs.HostRules.{HostRules, plain_text}
use Rattle.tw_hosts.specs.Settling.{is_parted, is_settled, settled_column}
use Rattle.tw_lineedit.specs.Frame.{Frame}
use Rattle.tw_lineedit.specs.ScreenRuns.{sized_scene}
use Rattle.tw_lineedit.specs.Stations.{Station}
use Rattle.laws_runs.specs.DrawnRuns.{play_stations, ComesMeasured}

-- the texts before and after the cursor
abbrev pub before_cursor : Cut → List ℕ
before_cursor cut = take cut.cursor cut.line

abbrev pub after_cursor : Cut → List ℕ
after_cursor cut = drop cut.cursor cut.line

-- no cluster of a text is parted
abbrev pub is_whole_text : List ℕ → Bool
is_whole_text text = list_all (λ cluster. not (is_parted cluster)) (graphemes true text)

-- What a host answers: the prompt itself, changes that are measured as the texts before and after the cursor, and the
-- settled column, where there is one. No cluster of these texts is parted.
pub record AnswersSettled (cols : ℕ) (prompt : List ℕ) (cut : Cut) (scene : Scene) : Type 0 where
  pub settled : is_settled cols prompt cut ≡ true
  pub prompt_is : scene.prompt ≡ changes_of (plain_text prompt)
  pub line_is : typed_glyphs scene.line ≡ glyphs (before_cursor cut) ++ glyphs (after_cursor cut)
  pub column_is : scene.column ≡ settled_column cols prompt cut
  pub whole_before : is_whole_text (before_cursor cut) ≡ true
  pub whole_after : is_whole_text (after_cursor cut) ≡ true

-- a cluster that takes columns begins the text after the cursor
abbrev pub ClusterFollows : Cut → List ℕ → ℕ → List Glyph → Type 0
ClusterFollows cut cluster columns behind = (glyphs (after_cursor cut) ≡ Cluster cluster columns ∷ behind) × (0 < columns)

-- The cursor is then placed before that cluster,
abbrev pub SettledIsBefore : Type 0
SettledIsBefore = (cols : ℕ) (prompt : List ℕ) (cut : Cut) (scene : Scene) (cluster : List ℕ) (columns : ℕ) (behind : List Glyph)
    → AnswersSettled cols prompt cut scene → ClusterFollows cut cluster columns behind
    → IsPlacedBefore cols scene (glyphs (before_cursor cut)) cluster columns behind

-- and after the line, where nothing follows.
abbrev pub SettledIsBehind : Type 0
SettledIsBehind = (cols : ℕ) (prompt : List ℕ) (cut : Cut) (scene : Scene) → AnswersSettled cols prompt cut scene → after_cursor cut ≡ [] → IsPlacedBehind cols scene

-- A line that is shown as one text is measured as the texts before and after the cursor, if a boundary of extended
-- grapheme clusters stands there.
abbrev pub LineIsTyped : Type 0
LineIsTyped = (cut : Cut) → IsCut cut → breaks_at (is_grapheme_break true) cut.line cut.cursor ≡ true
    → typed_glyphs (changes_of (plain_text cut.line)) ≡ glyphs (before_cursor cut) ++ glyphs (after_cursor cut)

module _ {V A C : Type 0} (rules : HostRules V) (pen : Pen A C) where
  -- The run from a frame comes to a station that is measured itself, and the host answers so there.
  pub record ComesSettled (rows : Option ℕ) (f : Frame V) (earlier : List (Station V)) (station : Station V) (later : List (Station V))
      (measured : List SizedScene) (prompt : List ℕ) (cut : Cut) (before : PictureOf C) : Type 0 where
    pub comes : ComesMeasured rules pen rows f earlier station later measured (sized_scene rules station) before
    pub answers : AnswersSettled station.size.cols prompt cut (sized_scene rules station).scene

  -- the screen once it is painted
  abbrev pub shown_after : Option ℕ → Bool → ℕ → A → List (Station V) → Station V → PictureOf C → PictureOf C
  shown_after rows cuts v a earlier station before = play_stations rules pen rows cuts v a (earlier ++ station ∷ []) before

  -- There the cursor stands on the cluster that follows,
  abbrev pub SettledStandsOn : Type 0
  SettledStandsOn = (f : Frame V) (rows : Option ℕ) (cuts : Bool) (v : ℕ) (a : A) (earlier : List (Station V)) (station : Station V) (later : List (Station V))
      (measured : List SizedScene) (prompt : List ℕ) (cut : Cut) (before : PictureOf C) (cluster : List ℕ) (columns : ℕ) (behind : List Glyph)
      → ComesSettled rows f earlier station later measured prompt cut before → ClusterFollows cut cluster columns behind
      → StandsOn pen cluster columns (shown_after rows cuts v a earlier station before)

  -- or in a blank, where nothing does.
  abbrev pub SettledStandsOnBlank : Type 0
  SettledStandsOnBlank = (f : Frame V) (rows : Option ℕ) (cuts : Bool) (v : ℕ) (a : A) (earlier : List (Station V)) (station : Station V) (later : List (Station V))
      (measured : List SizedScene) (prompt : List ℕ) (cut : Cut) (before : PictureOf C)
      → ComesSettled rows f earlier station later measured prompt cut before → after_cursor cut ≡ []
      → StandsOnBlank pen (sized_scene rules station).scene (shown_after rows cuts v a earlier station before)
