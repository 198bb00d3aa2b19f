-- What a screen shows while the batches that a call takes are played on it.
use Rattle.std.specs.Prelude.{◌≡◌, ℕ, ◌+◌, ◌<◌, ◌≤◌, ◌⊎◌, Bool, true, false, length, List, [], ◌∷◌, ◌++◌, map, Option, Some, None, Result, Ok, Err}
use Rattle.std.specs.List.{list_any, All}
use Rattle.tw_surface.specs.ChangeView.{Batch}
use Rattle.tw_surface.specs.Paintings.{Painting, Mark, closing}
use Rattle.tw_surface.specs.Pictures.{Picture}
use Rattle.tw_surface.specs.Fresh.{IsFresh, IsSameAbove, IsClosed, last_row}
use Rattle.tw_surface.specs.PaintingBatches.{SizedScene, Shot, shot_of, IsPlainAt, play_batches, scenes_of, start_row, start_of, clear_batch, batches, mark_after, closing_batch, closing_if}
use Rattle.tw_terminal.specs.TerminalState.{IsPart}
use Rattle.tw_host.specs.HostRules.{HostRules}
use Rattle.tw_session.specs.Painting.{scene_of}
use Rattle.tw_session.specs.Refusal.{Refusal}
use Rattle.tw_session.specs.declared.error.Error.{Error}
use Rattle.tw_session.specs.declared.error.Error.TheVariants.{Memory, Terminal}
use Rattle.tw_lineedit.specs.Frame.{Frame}
use Rattle.tw_lineedit.specs.Run.{run_of}
use Rattle.tw_lineedit.specs.Stations.{Station, station_painting, station_batches, stations_of}

-- the closing batch of a painting, or a beginning of it; nothing if nothing was painted
abbrev pub IsClosing : Option Mark → List Batch → Type 0
IsClosing mark end = (end ≡ closing_if mark) ⊎ ((m : Mark) × (mark ≡ Some m) × IsPart (closing m) end)

-- memory or the terminal stopped a call
abbrev pub IsStopped : {A : Type 0} → Result A Error → Type 0
IsStopped (Err (Memory e)) = Unit {0}
IsStopped (Err (Terminal e)) = Unit {0}
IsStopped _ = ⊥

module _ {V : Type 0} (rules : HostRules V) where
  -- what is shown at a station, and the columns of its screen
  abbrev pub sized_scene : Station V → SizedScene
  sized_scene s = record { scene = scene_of rules s.value s.state s.cleared; cols = s.size.cols }

  -- the batches of stations from the first one on
  abbrev pub batches_of : List (Station V) → List Batch
  batches_of stations = station_batches rules None stations

  -- the screen was cleared before one of the stations
  abbrev pub is_cleared : List (Station V) → Bool
  is_cleared stations = list_any (λ s. s.cleared) stations

  -- The run from a frame comes to a station and paints it. So far every station was plain and for w columns; a screen
  -- of this width is entered at column 0.
  pub record ReachesPlainly (f : Frame V) (w : ℕ) (earlier : List (Station V)) (station : Station V) (later : List (Station V)) (before : Picture) : Type 0 where
    pub nothing_painted : f.mark ≡ None
    pub stations : stations_of rules f ≡ earlier ++ station ∷ later
    pub painting : Painting
    pub painted : station_painting rules station ≡ Ok painting
    pub plain : All (IsPlainAt w) (map sized_scene (earlier ++ station ∷ []))
    pub two_columns : 2 ≤ w
    pub at_start : before.col ≡ 0

  -- the row from which a station is painted on a screen that is entered in a row: that row, or row 0 once it was
  -- cleared
  abbrev pub first_row : ℕ → List (Station V) → ℕ
  first_row entry stations = start_row entry (scenes_of (map sized_scene stations))

  -- nothing is rendered at a station: its painting is refused, and the screen was not cleared before it
  pub record RendersNothing (station : Station V) : Type 0 where
    pub refused : (r : Refusal) × (station_painting rules station ≡ Err r)
    pub not_cleared : station.cleared ≡ false

  -- ---- a run

  -- the paintings of stations
  abbrev pub shots_at : List (Station V) → List Shot
  shots_at stations = map shot_of (map sized_scene stations)

  -- nothing was painted before the run from a frame, which comes to a station and paints it
  pub record Comes (f : Frame V) (earlier : List (Station V)) (station : Station V) (later : List (Station V)) : Type 0 where
    pub nothing_painted : f.mark ≡ None
    pub stations : stations_of rules f ≡ earlier ++ station ∷ later
    pub painting : Painting
    pub painted : station_painting rules station ≡ Ok painting

  -- The batches up to the station's painting are those that show the scenes so far, and the first of the run. Where
  -- nothing is rendered after it they are all, and the run's closing batch is theirs.
  pub record TellsScenes (f : Frame V) (earlier : List (Station V)) (station : Station V) (later : List (Station V)) : Type 0 where
    pub scenes : batches_of (earlier ++ station ∷ []) ≡ batches (shots_at (earlier ++ station ∷ []))
    pub beginning : (rest : List Batch) × ((run_of rules f).taken ≡ f.terminal.batches ++ (batches_of (earlier ++ station ∷ []) ++ rest))
    pub all : All RendersNothing later → (run_of rules f).taken ≡ f.terminal.batches ++ batches_of (earlier ++ station ∷ [])
    pub closing : All RendersNothing later → closing_if (run_of rules f).mark ≡ closing_batch (shots_at (earlier ++ station ∷ []))

  -- From this and a law on lists of scenes follows what any screen shows of a run.
  abbrev pub RunsTellScenes : Type 0
  RunsTellScenes = (f : Frame V) (earlier : List (Station V)) (station : Station V) (later : List (Station V))
      → Comes f earlier station later → TellsScenes f earlier station later

  -- The batches up to the station's painting are the first of these that were taken from f on, and after them the
  -- screen shows its fresh painting from a row on; the rows above are as they were.
  pub record ShowsFresh (f : Frame V) (taken : List Batch) (w s : ℕ) (earlier : List (Station V)) (station : Station V) (before : Picture) : Type 0 where
    pub beginning : (rest : List Batch) × (taken ≡ f.terminal.batches ++ (batches_of (earlier ++ station ∷ []) ++ rest))
    pub fresh : IsFresh w s (sized_scene station).scene (play_batches w (batches_of (earlier ++ station ∷ [])) before)
    pub above : IsSameAbove w s before (play_batches w (batches_of (earlier ++ station ∷ [])) before)

  -- After the station's painting these batches leave the cursor at column 0 of the row below it, all from there on
  -- blank, and what is above as it was.
  abbrev pub LeavesBelow : ℕ → List (Station V) → Station V → Picture → List Batch → Type 0
  LeavesBelow w earlier station before end =
      let after = play_batches w (batches_of (earlier ++ station ∷ [])) before in
      IsClosed w (last_row w (first_row before.row (earlier ++ station ∷ [])) (sized_scene station).scene) after (play_batches w end after)

  -- each painting, from the row on in which the screen is entered, or from row 0 on once it was cleared
  abbrev pub RunIsFresh : Frame V → Type 0
  RunIsFresh f = (w : ℕ) (earlier : List (Station V)) (station : Station V) (later : List (Station V)) (before : Picture)
      → ReachesPlainly f w earlier station later before
      → ShowsFresh f (run_of rules f).taken w (first_row before.row (earlier ++ station ∷ [])) earlier station before

  -- the closing batch after each painting, wherever the run is stopped
  abbrev pub RunStopsBelow : Frame V → Type 0
  RunStopsBelow f = (w : ℕ) (earlier : List (Station V)) (station : Station V) (later : List (Station V)) (before : Picture)
      → ReachesPlainly f w earlier station later before
      → LeavesBelow w earlier station before (closing_batch (shots_at (earlier ++ station ∷ [])))

  -- the run's own closing batch; also where the run then ends with the refusal of a painting, at a station at which
  -- nothing is rendered
  abbrev pub RunClosesBelow : Frame V → Type 0
  RunClosesBelow f = (w : ℕ) (earlier : List (Station V)) (station : Station V) (later : List (Station V)) (before : Picture)
      → ReachesPlainly f w earlier station later before → All RendersNothing later
      → ((run_of rules f).taken ≡ f.terminal.batches ++ batches_of (earlier ++ station ∷ []))
      × LeavesBelow w earlier station before (closing_if (run_of rules f).mark)

  -- what a screen shows of the batches of a run, whatever stops it
  pub record RunShows (f : Frame V) : Type 0 where
    pub painting : RunIsFresh f
    pub stopping : RunStopsBelow f
    pub closing : RunClosesBelow f

  -- ---- a call

  -- a batch that comes after such paintings: a clearing, or the painting of the first of the other stations
  abbrev pub IsNext : Option Mark → List (Station V) → Batch → Type 0
  IsNext mark others batch =
      (batch ≡ clear_batch)
      ⊎ ((station : Station V) × (more : List (Station V)) × (p : Painting)
      × (others ≡ station ∷ more) × (station_painting rules station ≡ Ok p) × (batch ≡ start_of mark ++ p.changes))

  -- nothing, or the clearing before the first of the other stations
  abbrev pub IsClearing : List (Station V) → List Batch → Type 0
  IsClearing others cleared =
      (cleared ≡ [])
      ⊎ ((cleared ≡ clear_batch ∷ []) × ((station : Station V) × (more : List (Station V)) × (others ≡ station ∷ more) × (station.cleared ≡ true)))

  -- On the way from f to g the run was stopped. Its first stations were painted, at least as many as events were taken.
  -- The terminal took their batches; then a clearing, if there was one, and nothing or a beginning of the batch that
  -- came next; and then the closing batch of the last painting, or a beginning of it.
  pub record StopsAfter (f g : Frame V) : Type 0 where
    pub painted : List (Station V)
    pub others : List (Station V)
    pub stations : stations_of rules f ≡ painted ++ others
    pub are_painted : All (λ station. (p : Painting) × (station_painting rules station ≡ Ok p)) painted
    pub enough : length f.terminal.events ≤ length g.terminal.events + length painted
    pub cleared : List Batch
    pub clears : IsClearing others cleared
    pub part : List Batch
    pub next : (part ≡ []) ⊎ ((batch : Batch) × IsNext (mark_after None (shots_at painted)) others batch × IsPart batch part)
    pub end : List Batch
    pub closing : IsClosing (mark_after None (shots_at painted)) end
    pub taken : g.terminal.batches ≡ f.terminal.batches ++ (batches_of painted ++ (cleared ++ (part ++ end)))

  -- the first painting, by a call that begins a line
  abbrev pub ShowsFirst : Frame V → Frame V → Type 0
  ShowsFirst f g = (w : ℕ) (station : Station V) (later : List (Station V)) (before : Picture) → ReachesPlainly f w [] station later before
      → ShowsFresh f g.terminal.batches w before.row [] station before

  -- what the terminal took after the painting closes it
  pub record ClosesBelow (f g : Frame V) (w : ℕ) (earlier : List (Station V)) (station : Station V) (before : Picture) : Type 0 where
    pub end : List Batch
    pub taken : g.terminal.batches ≡ f.terminal.batches ++ (batches_of (earlier ++ station ∷ []) ++ end)
    pub closed : LeavesBelow w earlier station before end

  module _ {A : Type 0} (f g : Frame V) (result : Result A Error) where
    -- the call painted the station after these: where it was stopped, it took an event after that station
    abbrev pub HasPainted : List (Station V) → Type 0
    HasPainted earlier = IsStopped result → length earlier + length g.terminal.events < length f.terminal.events

    -- What a screen shows of a call whose run begins at f, and which left g with this answer: the fresh painting of
    -- each station that the run reaches plainly. Where nothing stopped the call, and nothing is rendered after a
    -- station, the call ends below it.
    pub record Shows : Type 0 where
      pub painting : (w : ℕ) (earlier : List (Station V)) (station : Station V) (later : List (Station V)) (before : Picture)
          → ReachesPlainly f w earlier station later before → HasPainted earlier
          → ShowsFresh f g.terminal.batches w (first_row before.row (earlier ++ station ∷ [])) earlier station before
      pub closing : (w : ℕ) (earlier : List (Station V)) (station : Station V) (later : List (Station V)) (before : Picture)
          → ReachesPlainly f w earlier station later before → All RendersNothing later → (IsStopped result → ⊥)
          → ClosesBelow f g w earlier station before
