-- A screen on which the batches of a run are played: the fresh painting of each station, and its closing.
use Rattle.std.proofs.Common.{◌≡◌, ℕ, List, [], ◌∷◌, ◌++◌, Bool, false, ◌||◌, refl, sym, ◌∙◌, ap, map, if◌then◌else◌}
use Rattle.std.specs.List.{list_any}
use Rattle.std.proofs.lemmas.List.{map-append}
use Rattle.tw_surface.specs.Pictures.{Picture}
use Rattle.tw_surface.specs.Fresh.{IsFresh, IsSameAbove, IsClosed, last_row}
use Rattle.tw_surface.specs.PaintingBatches.{play_batches, scenes_of, closing_batch}
use Rattle.laws_screens.proofs.PlainStations.{every_painting, last_painting}
use Rattle.tw_input.specs.EventView.{EventView}
use Rattle.tw_host.specs.HostRules.{HostRules}
use Rattle.tw_lineedit.specs.Frame.{Frame}
use Rattle.tw_lineedit.specs.Run.{Progress, progress_of}
use Rattle.tw_lineedit.specs.Stations.{Station, stations_from, stations_of}
use Rattle.tw_lineedit.specs.ScreenRuns.{sized_scene, batches_of, is_cleared, ReachesPlainly, first_row, shots_at, Comes, RunIsFresh, RunClosesBelow, RunShows}
use Rattle.tw_lineedit.proofs.StationLemmas.{played-is, tells_scenes}

module _ {V : Type 0} (rules : HostRules V) where
  -- the first of a list of stations was cleared
  abbrev first_cleared : List (Station V) → Bool
  first_cleared [] = false
  first_cleared (s ∷ more) = s.cleared || false

  -- nothing is cleared before the first station of a run
  first_from : (es : List EventView) (s : Progress V) → first_cleared (stations_from rules es false s) ≡ false
  first_from [] s = refl
  first_from (e ∷ es) s = refl

  -- the first station of a run is not one that was cleared
  pub first_not_cleared : (f : Frame V) (station : Station V) (later : List (Station V)) → stations_of rules f ≡ station ∷ later → is_cleared rules (station ∷ []) ≡ false
  first_not_cleared f station later h = sym (ap first_cleared h) ∙ first_from f.terminal.events (progress_of f)

  -- scenes are cleared as their stations are
  pub cleared_scenes : (stations : List (Station V)) → list_any (λ scene. scene.cleared) (scenes_of (map (sized_scene rules) stations)) ≡ is_cleared rules stations
  cleared_scenes [] = refl
  cleared_scenes (s ∷ stations) = ap (λ (b : Bool). s.cleared || b) (cleared_scenes stations)

  -- a run that comes plainly to a station comes to it
  pub comes_plainly : {f : Frame V} {w : ℕ} {earlier : List (Station V)} {station : Station V} {later : List (Station V)} {before : Picture}
      → ReachesPlainly rules f w earlier station later before → Comes rules f earlier station later
  comes_plainly h = record { nothing_painted = h.nothing_painted; stations = h.stations; painting = h.painting; painted = h.painted }

  module _ (f : Frame V) (w : ℕ) (earlier : List (Station V)) (station : Station V) (later : List (Station V)) (before : Picture)
      (h : ReachesPlainly rules f w earlier station later before) where
    -- the screen after the station's batches
    abbrev shown : Picture
    shown = play_batches w (batches_of rules (earlier ++ station ∷ [])) before

    -- the painting is fresh from the row on in which the list of stations is painted
    pub fresh_there : IsFresh w (first_row rules before.row (earlier ++ station ∷ [])) (sized_scene rules station).scene shown
        × IsSameAbove w (first_row rules before.row (earlier ++ station ∷ [])) before shown
    fresh_there =
        let scenes = map-append (sized_scene rules) earlier (station ∷ []) in
        let q = every_painting w before.row (map (sized_scene rules) earlier) (sized_scene rules station) before h.two_columns refl h.at_start (rw scenes at h.plain) in
        let played = played-is rules (comes_plainly h) in
        (rw (played, scenes) q.0, rw (played, scenes) q.1)

    -- and the closing batch of these scenes ends below it
    pub closed_there : IsClosed w (last_row w (first_row rules before.row (earlier ++ station ∷ [])) (sized_scene rules station).scene) shown
        (play_batches w (closing_batch (shots_at rules (earlier ++ station ∷ []))) shown)
    closed_there =
        let scenes = map-append (sized_scene rules) earlier (station ∷ []) in
        rw (played-is rules (comes_plainly h), scenes)
        (last_painting w before.row (map (sized_scene rules) earlier) (sized_scene rules station) before h.two_columns refl h.at_start (rw scenes at h.plain))

    -- the row from which the list of stations is painted
    pub first_row-is : (cleared : Bool) → is_cleared rules (earlier ++ station ∷ []) ≡ cleared
        → first_row rules before.row (earlier ++ station ∷ []) ≡ (if cleared then 0 else before.row)
    first_row-is cleared e = rw (cleared_scenes (earlier ++ station ∷ []), e) refl

  -- ---- a run

  -- the painting of each station is fresh from the row on in which the list of stations is painted
  pub run_is_fresh : (f : Frame V) → RunIsFresh rules f
  run_is_fresh f w earlier station later before h =
      let q = fresh_there f w earlier station later before h in
      record { beginning = (tells_scenes rules f earlier station later (comes_plainly h)).beginning; fresh = q.0; above = q.1 }

  -- the closing batch
  pub closes_below : (f : Frame V) → RunClosesBelow rules f
  closes_below f w earlier station later before h none =
      let tells = tells_scenes rules f earlier station later (comes_plainly h) in
      (tells.all none, rw (tells.closing none) (closed_there f w earlier station later before h))

  pub run_shows : (f : Frame V) → RunShows rules f
  run_shows f = record { painting = run_is_fresh f; stopping = closed_there f; closing = closes_below f }
