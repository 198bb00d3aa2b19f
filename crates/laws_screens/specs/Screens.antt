-- What a screen shows of the batches of stations: any kind of cells, without a bottom or on some rows, at one number of
-- columns or at changing ones.
use Rattle.std.specs.Prelude.{ℕ, ◌≡◌, ◌+◌, ◌≤◌, Bool, true, false, Option, None, List, [], ◌∷◌, ◌++◌, map}
use Rattle.std.specs.List.{list_all, All}
use Rattle.laws_screens.specs.Strokes.{PictureOf, InSight, steps_on, resized, narrowest}
use Rattle.laws_screens.specs.Sheets.{IsFreshSheet, IsLow, sheet_last_row, sheet_cursor_row}
use Rattle.laws_screens.specs.Paintings.{SheetPainting, top_row, cols_of, AreShownOver, IsClosedSheet}
use Rattle.tw_surface.specs.Defaults.{default_color}
use Rattle.tw_surface.specs.Paintings.{painting, mark_of, closing}
use Rattle.tw_surface.specs.PaintingBatches.{SizedScene, shot_of, mark_after}
use Rattle.laws_screens.specs.PaintedAlike.{IsPaintedAs, ArePaintedAs}
use Rattle.tw_surface.specs.Scenes.{is_text}
use Rattle.laws_screens.specs.Pens.{Pen, kept_after_all, strokes_of}
use Rattle.laws_screens.specs.SceneSheets.{sheet_of, painting_of}
use Rattle.laws_screens.specs.SizedBatches.{SizedBatch, sized_after, sized_batches}

-- an empty cell
abbrev pub blank_of : {A C : Type 0} → Pen A C → C
blank_of pen = pen.paper default_color

-- Batches on a screen of v columns: each comes at its own columns, to which the screen is cut or not, and what is kept
-- of attributes is carried along.
abbrev pub play_sized : {A C : Type 0} → Option ℕ → Bool → Pen A C → ℕ → A → List SizedBatch → PictureOf C → PictureOf C
play_sized rows cuts pen v a [] t = t
play_sized rows cuts pen v a (sized ∷ more) t =
    play_sized rows cuts pen sized.cols (kept_after_all pen a sized.batch) more
    (steps_on rows sized.cols (strokes_of pen a sized.batch) (resized cuts (blank_of pen) v sized.cols t))

-- a scene that has room on these rows
abbrev pub HasRoom : {A C : Type 0} → Option ℕ → Pen A C → SizedScene → Type 0
HasRoom rows pen station = IsLow rows station.cols (sheet_of pen station.cols station.scene)

-- what is painted at some measured stations and at a last one
abbrev pub paintings_to : {A C : Type 0} → Pen A C → List SizedScene → SizedScene → List (SheetPainting C)
paintings_to pen measured last = map (painting_of pen) (measured ++ last ∷ [])

-- The screen shows the last one fresh, and what stood above is as it was, moved up, in the columns that the screen had
-- all along; in the others it is blank where the screen cuts its rows.
abbrev pub ShowsLast : {A C : Type 0} → Option ℕ → Bool → Pen A C → ℕ → List SizedScene → SizedScene → PictureOf C → PictureOf C → Type 0
ShowsLast rows cuts pen v measured last before after =
    let paintings = paintings_to pen measured last in
    AreShownOver cuts (blank_of pen) (narrowest v (cols_of paintings)) before.row (top_row rows before.row paintings) (painting_of pen last) before after

-- So it is after some stations, each of which is painted as a measured one that has room.
abbrev pub ShowsStations : {A C : Type 0} → Pen A C → Type 0
ShowsStations {A} {C} pen = (rows : Option ℕ) (cuts : Bool) (v : ℕ) (a : A) (stations measured : List SizedScene) (last : SizedScene) (before : PictureOf C)
    → before.col ≡ 0 → InSight rows before.row
    → ArePaintedAs pen stations (measured ++ last ∷ []) → All (HasRoom rows pen) (measured ++ last ∷ [])
    → ShowsLast rows cuts pen v measured last before (play_sized rows cuts pen v a (sized_batches stations) before)

-- a prompt of attributes and texts, of whatever characters
abbrev pub HasTextPrompt : SizedScene → Type 0
HasTextPrompt station = list_all is_text station.scene.prompt ≡ true

-- the screen is cleared before the first of these stations
abbrev pub begins_cleared : List SizedScene → Bool
begins_cleared [] = false
begins_cleared (station ∷ more) = station.scene.cleared

-- a screen shows a station fresh from row 0 on
abbrev pub ShowsFromTop : {A C : Type 0} → Pen A C → SizedScene → PictureOf C → Type 0
ShowsFromTop pen station after = IsFreshSheet station.cols 0 (blank_of pen) (painting_of pen station).sheet after

-- Whatever was painted and shown before, it shows the last one so, where it is cleared before the first of them.
abbrev pub HealsStations : {A C : Type 0} → Pen A C → Type 0
HealsStations {A} {C} pen = (rows : Option ℕ) (cuts : Bool) (v : ℕ) (a : A) (earlier stations measured : List SizedScene) (last : SizedScene) (before : PictureOf C)
    → InSight rows 0 → All HasTextPrompt earlier → begins_cleared stations ≡ true
    → ArePaintedAs pen stations (measured ++ last ∷ []) → All (HasRoom rows pen) (measured ++ last ∷ [])
    → ShowsFromTop pen last (play_sized rows cuts pen v a (sized_after (mark_after None (map shot_of earlier)) stations) before)

-- The closing batch of a station, played where its cursor stands and at whatever columns the screen then has, leaves
-- the cursor in the row under it, blank from there on, and the rows above as they were, moved up.
abbrev pub ClosesStations : {A C : Type 0} → Pen A C → Type 0
ClosesStations {A} {C} pen = (rows : Option ℕ) (w s : ℕ) (a : A) (station other : SizedScene) (before : PictureOf C)
    → 2 ≤ w → InSight rows 0 → IsPaintedAs pen station other
    → let sheet = (painting_of pen other).sheet in
    before.row ≡ s + sheet_cursor_row other.cols sheet
    → IsClosedSheet rows w (blank_of pen) (s + sheet_last_row other.cols sheet) before
    (steps_on rows w (strokes_of pen a (closing (mark_of (painting station.cols station.scene)))) before)
