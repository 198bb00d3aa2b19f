-- What a screen of any kind of cells shows while the batches of a run are played on it: without a bottom or on some
-- rows, at one number of columns or at changing ones.
use Rattle.std.specs.Prelude.{◌≡◌, ℕ, ◌+◌, ◌-◌, ◌<◌, ◌≤◌, Bool, true, List, [], ◌∷◌, ◌++◌, map, None, Option}
use Rattle.std.specs.List.{All}
use Rattle.laws_screens.specs.Strokes.{PictureOf, InSight, narrowest, resized}
use Rattle.laws_screens.specs.Sheets.{sheet_last_row}
use Rattle.laws_screens.specs.Paintings.{SheetPainting, AreShownOver, IsClosedSheet, cols_of, top_row}
use Rattle.tw_surface.specs.ChangeView.{Batch}
use Rattle.tw_surface.specs.PaintingBatches.{SizedScene, shot_of, mark_after, closing_if}
use Rattle.laws_screens.specs.PaintedAlike.{ArePaintedAs}
use Rattle.laws_screens.specs.Pens.{Pen}
use Rattle.laws_screens.specs.SceneSheets.{painting_of}
use Rattle.laws_screens.specs.Screens.{HasRoom, ShowsLast, ShowsFromTop, begins_cleared, blank_of, paintings_to, play_sized}
use Rattle.laws_screens.specs.SizedBatches.{SizedBatch, sized_at, sized_after, sized_batches}
use Rattle.tw_host.specs.HostRules.{HostRules}
use Rattle.tw_lineedit.specs.Frame.{Frame}
use Rattle.tw_lineedit.specs.Run.{run_of}
use Rattle.tw_lineedit.specs.ScreenRuns.{sized_scene, batches_of, Comes, RendersNothing}
use Rattle.tw_lineedit.specs.Stations.{Station}

-- what stands above row top is as it was on a screen before, moved up by `up` rows, in the columns of both
abbrev pub IsMovedUp : {C : Type 0} → ℕ → ℕ → ℕ → ℕ → PictureOf C → PictureOf C → Type 0
IsMovedUp top cols least up before after = (r c : ℕ) → r < top → c < cols → c < least → after.cell r c ≡ before.cell (r + up) c

module _ {A C : Type 0} (pen : Pen A C) where
  -- Calls stack: over the picture that a closing batch left, a painting leaves what the batch was played on as it was,
  -- moved up, in the columns that the screen had since then.
  abbrev pub DrawnCallsStack : Type 0
  DrawnCallsStack = (rows : Option ℕ) (cuts : Bool) (w last : ℕ) (shown entered after : PictureOf C) (painting : SheetPainting C) (paintings : List (SheetPainting C))
      → IsClosedSheet rows w (blank_of pen) last shown entered
      → let top = top_row rows entered.row paintings in
      let least = narrowest w (cols_of paintings) in
      AreShownOver cuts (blank_of pen) least entered.row top painting entered after
      → IsMovedUp top painting.cols least (last + 1 - top) shown after

-- the batches of stations that come after some others, each with the columns of its station
abbrev pub since_batches : {V : Type 0} → HostRules V → List (Station V) → List (Station V) → List SizedBatch
since_batches rules earlier since = sized_after (mark_after None (map shot_of (map (sized_scene rules) earlier))) (map (sized_scene rules) since)

-- the batches of stations are all that a run takes
abbrev pub TakesAll : {V : Type 0} → HostRules V → Frame V → List (Station V) → Type 0
TakesAll rules f stations = (run_of rules f).taken ≡ f.terminal.batches ++ batches_of rules stations

module _ {V A C : Type 0} (rules : HostRules V) (pen : Pen A C) where
  -- the batches of stations, each with the columns of its station, are played on a screen of v columns
  abbrev pub play_stations : Option ℕ → Bool → ℕ → A → List (Station V) → PictureOf C → PictureOf C
  play_stations rows cuts v a stations t = play_sized rows cuts pen v a (sized_batches (map (sized_scene rules) stations)) t

  -- and the closing batch of a run, at w columns, on a screen that had some number of columns
  abbrev pub closed_by : Option ℕ → Bool → ℕ → ℕ → A → Frame V → PictureOf C → PictureOf C
  closed_by rows cuts cols w kept f t = play_sized rows cuts pen cols kept (sized_at w (closing_if (run_of rules f).mark)) t

  -- The run from a frame comes to a station and paints it. So far every station was painted as a measured one that is
  -- low enough; a screen is entered at column 0 of a row in sight.
  pub record ComesMeasured (rows : Option ℕ) (f : Frame V) (earlier : List (Station V)) (station : Station V) (later : List (Station V))
      (measured : List SizedScene) (last : SizedScene) (before : PictureOf C) : Type 0 where
    pub comes : Comes rules f earlier station later
    pub alike : ArePaintedAs pen (map (sized_scene rules) (earlier ++ station ∷ [])) (measured ++ last ∷ [])
    pub low : All (HasRoom rows pen) (measured ++ last ∷ [])
    pub at_start : before.col ≡ 0
    pub in_sight : InSight rows before.row

  -- The batches up to the station's painting are the first of the run, and they leave its fresh painting; above it all
  -- is as it was, moved up, in the columns that the screen had all along.
  pub record ShowsDrawn (rows : Option ℕ) (cuts : Bool) (v : ℕ) (a : A) (f : Frame V) (earlier : List (Station V)) (station : Station V)
      (measured : List SizedScene) (last : SizedScene) (before : PictureOf C) : Type 0 where
    pub batches : map (λ sized. sized.batch) (sized_batches (map (sized_scene rules) (earlier ++ station ∷ []))) ≡ batches_of rules (earlier ++ station ∷ [])
    pub beginning : (rest : List Batch) × ((run_of rules f).taken ≡ f.terminal.batches ++ (batches_of rules (earlier ++ station ∷ []) ++ rest))
    pub shown : ShowsLast rows cuts pen v measured last before (play_stations rows cuts v a (earlier ++ station ∷ []) before)

  -- each painting of the run from any frame
  abbrev pub DrawnPaintings : Type 0
  DrawnPaintings = (f : Frame V) (rows : Option ℕ) (cuts : Bool) (v : ℕ) (a : A) (earlier : List (Station V)) (station : Station V) (later : List (Station V))
      (measured : List SizedScene) (last : SizedScene) (before : PictureOf C)
      → ComesMeasured rows f earlier station later measured last before → ShowsDrawn rows cuts v a f earlier station measured last before

  -- a run's closing batch, at w columns, leaves the cursor in the row below this one, on a screen of cols columns
  abbrev pub LandsBelow : Option ℕ → Bool → ℕ → ℕ → A → Frame V → ℕ → PictureOf C → Type 0
  LandsBelow rows cuts cols w kept f bottom shown =
      IsClosedSheet rows w (blank_of pen) bottom (resized cuts (blank_of pen) cols w shown) (closed_by rows cuts cols w kept f shown)

  -- Some stations are all that a run paints: its closing batch leaves the cursor in the row below the last one of their
  -- last painting, on a screen that was entered where it stands before.
  abbrev pub EndsBelow : Option ℕ → Bool → ℕ → ℕ → A → A → Frame V → List (Station V) → List SizedScene → SizedScene → PictureOf C → Type 0
  EndsBelow rows cuts v w a kept f stations measured last before =
      let bottom = top_row rows before.row (paintings_to pen measured last) + sheet_last_row last.cols (painting_of pen last).sheet in
      TakesAll rules f stations × LandsBelow rows cuts last.cols w kept f bottom (play_stations rows cuts v a stations before)

  -- So it is after the last station that is painted, at whatever columns the screen then has and whatever is kept of
  -- attributes; also where the run then ends with the refusal of a painting.
  abbrev pub DrawnClosings : Type 0
  DrawnClosings = (f : Frame V) (rows : Option ℕ) (cuts : Bool) (v w : ℕ) (a kept : A) (earlier : List (Station V)) (station : Station V) (later : List (Station V))
      (measured : List SizedScene) (last : SizedScene) (before : PictureOf C)
      → ComesMeasured rows f earlier station later measured last before → All (RendersNothing rules) later → 2 ≤ w
      → EndsBelow rows cuts v w a kept f (earlier ++ station ∷ []) measured last before

  -- The run from a frame comes to a station and paints it. The screen was cleared before the first of the stations
  -- since then, which are painted as measured ones that are low enough; those before may be anything.
  pub record ComesHealed (rows : Option ℕ) (f : Frame V) (earlier since : List (Station V)) (station : Station V) (later : List (Station V))
      (measured : List SizedScene) (last : SizedScene) : Type 0 where
    pub comes : Comes rules f (earlier ++ since) station later
    pub cleared : begins_cleared (map (sized_scene rules) (since ++ station ∷ [])) ≡ true
    pub alike : ArePaintedAs pen (map (sized_scene rules) (since ++ station ∷ [])) (measured ++ last ∷ [])
    pub low : All (HasRoom rows pen) (measured ++ last ∷ [])
    pub in_sight : InSight rows 0

  -- they are played on a screen of v columns
  abbrev pub play_since : Option ℕ → Bool → ℕ → A → List (Station V) → List (Station V) → PictureOf C → PictureOf C
  play_since rows cuts v a earlier since t = play_sized rows cuts pen v a (since_batches rules earlier since) t

  -- The batches from the clearing to the station's painting, played on any screen, leave its fresh painting from row 0
  -- on.
  pub record ShowsHealed (rows : Option ℕ) (f : Frame V) (earlier since : List (Station V)) (station : Station V) (last : SizedScene) : Type 0 where
    pub batches : batches_of rules (earlier ++ (since ++ station ∷ [])) ≡ batches_of rules earlier ++ map (λ sized. sized.batch) (since_batches rules earlier (since ++ station ∷ []))
    pub beginning : (rest : List Batch) × ((run_of rules f).taken ≡ f.terminal.batches ++ (batches_of rules (earlier ++ (since ++ station ∷ [])) ++ rest))
    pub fresh : (cuts : Bool) (v : ℕ) (a : A) (before : PictureOf C)
        → ShowsFromTop pen last (play_since rows cuts v a earlier (since ++ station ∷ []) before)

  -- each painting since a clearing
  abbrev pub DrawnHealings : Type 0
  DrawnHealings = (f : Frame V) (rows : Option ℕ) (earlier since : List (Station V)) (station : Station V) (later : List (Station V)) (measured : List SizedScene) (last : SizedScene)
      → ComesHealed rows f earlier since station later measured last → ShowsHealed rows f earlier since station last

  -- And the closing batch leaves the cursor in the row below it, where it is the last one.
  abbrev pub HealsBelow : Option ℕ → Frame V → List (Station V) → List (Station V) → Station V → SizedScene → Type 0
  HealsBelow rows f earlier since station last =
      let bottom = sheet_last_row last.cols (painting_of pen last).sheet in
      TakesAll rules f (earlier ++ (since ++ station ∷ [])) × ((cuts : Bool) (v w : ℕ) (a kept : A) (before : PictureOf C) → 2 ≤ w
      → LandsBelow rows cuts last.cols w kept f bottom (play_since rows cuts v a earlier (since ++ station ∷ []) before))

  abbrev pub HealedClosings : Type 0
  HealedClosings = (f : Frame V) (rows : Option ℕ) (earlier since : List (Station V)) (station : Station V) (later : List (Station V)) (measured : List SizedScene) (last : SizedScene)
      → ComesHealed rows f earlier since station later measured last → All (RendersNothing rules) later → HealsBelow rows f earlier since station last
