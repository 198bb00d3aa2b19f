-- What a screen of characters shows of a run each station of which shows a line in rows.
use Rattle.std.specs.Prelude.{◌≡◌, ℕ, ◌+◌, ◌≤◌, Bool, List, [], ◌∷◌, ◌++◌, length, map, Option}
use Rattle.std.specs.List.{All, AllByRecursion}
use Rattle.laws_screens.specs.Strokes.{PictureOf, InSight, resized}
use Rattle.laws_screens.specs.Paintings.{SheetPainting, IsClosedSheet, top_row}
use Rattle.tw_surface.specs.PaintingBatches.{SizedScene}
use Rattle.tw_surface.specs.Pictures.{blank}
use Rattle.tw_surface.specs.Scenes.Lower.{NoLower}
use Rattle.laws_screens.specs.SceneSheets.{painting_of}
use Rattle.laws_screens.specs.Screens.{HasRoom}
use Rattle.laws_screens.specs.StyledCells.{characters}
use Rattle.tw_host.specs.HostRules.{HostRules}
use Rattle.tw_lineedit.specs.Frame.{Frame}
use Rattle.tw_lineedit.specs.ScreenRuns.{sized_scene, Comes, RendersNothing}
use Rattle.tw_lineedit.specs.Stations.{Station}
use Rattle.laws_runs.specs.DrawnRuns.{play_stations, closed_by}
use Rattle.laws_prompt.specs.Rows.{rows_of_text, rows_down}
use Rattle.laws_prompt.specs.MeasuredRows.{plain_folded}
use Rattle.laws_prompt.specs.RowCells.{ShowsLine, StandInRows}

-- a station shows some line
pub record ShowsSomeLine (station : SizedScene) : Type 0 where
  pub prompt : List ℕ
  pub continuation : List ℕ
  pub left : List ℕ
  pub right : List ℕ
  pub shows : ShowsLine station.cols prompt continuation left right station.scene

-- the plain station that it is painted as
abbrev pub plain_station : SizedScene → SizedScene
plain_station station = record station { scene = plain_folded station.cols station.scene }

module _ {V : Type 0} (rules : HostRules V) where
  abbrev pub line_stations : List (Station V) → List SizedScene
  line_stations stations = map (λ station. plain_station (sized_scene rules station)) stations

  -- what is painted at stations that show lines
  abbrev pub line_paintings : List (Station V) → List (SheetPainting ℕ)
  line_paintings stations = map (painting_of characters) (line_stations stations)

  -- The run from a frame comes to a station that shows this line, and paints it. So far every station showed some line,
  -- and was low enough; a screen is entered at column 0 of a row in sight.
  pub record ComesToLine (rows : Option ℕ) (f : Frame V) (earlier : List (Station V)) (station : Station V) (later : List (Station V))
      (prompt continuation left right : List ℕ) (screen : PictureOf ℕ) : Type 0 where
    pub comes : Comes rules f earlier station later
    pub lines : AllByRecursion (λ s. ShowsSomeLine (sized_scene rules s)) earlier
    pub line : ShowsLine station.size.cols prompt continuation left right (sized_scene rules station).scene
    pub low : All (HasRoom rows characters) (line_stations (earlier ++ station ∷ []))
    pub at_start : screen.col ≡ 0
    pub in_sight : InSight rows screen.row

  -- The prompts, each character of a line and the cursor stand in their cells, from the row on to which the paintings of
  -- some stations have gone up, and so on a screen that was entered where it stands before.
  abbrev pub LineStands : Option ℕ → Bool → ℕ → ℕ → List (Station V) → List ℕ → List ℕ → List ℕ → List ℕ → PictureOf ℕ → Type 0
  LineStands rows cuts v cols stations prompt continuation left right screen =
      StandInRows cols (top_row rows screen.row (line_paintings stations)) prompt continuation left right (play_stations rules characters rows cuts v tt stations screen)

  -- So they do once the station is painted.
  abbrev pub LinesStandInRows : Type 0
  LinesStandInRows = (f : Frame V) (rows : Option ℕ) (cuts : Bool) (v : ℕ) (earlier : List (Station V)) (station : Station V) (later : List (Station V))
      (prompt continuation left right : List ℕ) (screen : PictureOf ℕ)
      → ComesToLine rows f earlier station later prompt continuation left right screen
      → LineStands rows cuts v station.size.cols (earlier ++ station ∷ []) prompt continuation left right screen

  -- nothing stands under the line
  abbrev pub IsBare : Station V → Type 0
  IsBare station = (sized_scene rules station).scene.lower ≡ NoLower

  -- the closing batch, at w columns, leaves the cursor in the row below that of the cell after a line
  abbrev pub LineEnds : Option ℕ → Bool → ℕ → ℕ → ℕ → Frame V → List (Station V) → List ℕ → List ℕ → List ℕ → PictureOf ℕ → Type 0
  LineEnds rows cuts v w cols f stations prompt continuation line screen =
      let last = top_row rows screen.row (line_paintings stations) + rows_down cols (length prompt) (length continuation) (rows_of_text line) in
      let shown = play_stations rules characters rows cuts v tt stations screen in
      IsClosedSheet rows w blank last (resized cuts blank cols w shown) (closed_by rules characters rows cuts cols w tt f shown)

  -- So it does after the last line that is painted, with nothing under it.
  abbrev pub LinesCloseBelow : Type 0
  LinesCloseBelow = (f : Frame V) (rows : Option ℕ) (cuts : Bool) (v w : ℕ) (earlier : List (Station V)) (station : Station V) (later : List (Station V))
      (prompt continuation left right : List ℕ) (screen : PictureOf ℕ)
      → ComesToLine rows f earlier station later prompt continuation left right screen
      → IsBare station → All (RendersNothing rules) later → 2 ≤ w
      → LineEnds rows cuts v w station.size.cols f (earlier ++ station ∷ []) prompt continuation (left ++ right) screen
