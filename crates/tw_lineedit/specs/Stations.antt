-- The stations of a run, and its batches by them alone.
use Rattle.std.specs.Prelude.{◌≡◌, ◌++◌, List, [], ◌∷◌, Bool, true, false, Option, Result, Ok, Err}
use Rattle.tw_surface.specs.ChangeView.{Batch}
use Rattle.tw_surface.specs.Paintings.{Painting, Mark}
use Rattle.tw_surface.specs.PaintingBatches.{Shot, clearing, batches_after}
use Rattle.tw_input.specs.EventView.{EventView}
use Rattle.tw_terminal.specs.declared.terminal.ScreenSize.{ScreenSize}
use Rattle.tw_session.specs.EditState.{EditState}
use Rattle.tw_host.specs.HostRules.{HostRules}
use Rattle.tw_session.specs.Outcomes.{is_over}
use Rattle.tw_session.specs.Steps.{is_repaint}
use Rattle.tw_session.specs.Painting.{Rendering, painted_on, scene_of}
use Rattle.tw_session.specs.Refusal.{Refusal}
use Rattle.tw_lineedit.specs.Frame.{Frame}
use Rattle.tw_lineedit.specs.Run.{Progress, run_of, progress_of, painting_at, after_painting, chosen_action, state_after, after_action}

-- what is painted once: a state, the host's value and the screen's size, and whether the screen was cleared just before
pub record Station (V : Type 0) : Type 0 where
  pub state : EditState
  pub value : V
  pub size : ScreenSize
  pub cleared : Bool

-- the station at which a run has come so far
abbrev pub station_at : {V : Type 0} → Bool → Progress V → Station V
station_at cleared s = record { state = s.state; value = s.value; size = s.size; cleared = cleared }

-- a station's painting and those of the stations after it; where it is refused there are none
abbrev pub shots_by : Bool → List Shot → Result Painting Refusal → List Shot
shots_by cleared more (Err r) = []
shots_by cleared more (Ok p) = record { painting = p; cleared = cleared } ∷ more

-- the clearing before a station whose painting is refused; else that of the stations after it
abbrev pub clearing_by : Bool → List Batch → Result Painting Refusal → List Batch
clearing_by cleared more (Err r) = clearing cleared
clearing_by cleared more (Ok p) = more

-- the stations after a painted one: none where the run is over
abbrev pub stations_unless : {V : Type 0} → List (Station V) → Bool → List (Station V)
stations_unless stations true = []
stations_unless stations false = stations

module _ {V : Type 0} (rules : HostRules V) where
  -- the painting of a station, or its refusal
  abbrev pub station_painting : Station V → Result Painting Refusal
  station_painting s = painted_on s.size (scene_of rules s.value s.state s.cleared)

  -- the paintings of stations up to the first one that is refused
  abbrev pub painted_shots : List (Station V) → List Shot
  painted_shots [] = []
  painted_shots (s ∷ stations) = shots_by s.cleared (painted_shots stations) (station_painting s)

  -- the clearing before the first one that is refused
  abbrev pub refused_clearing : List (Station V) → List Batch
  refused_clearing [] = []
  refused_clearing (s ∷ stations) = clearing_by s.cleared (refused_clearing stations) (station_painting s)

  -- the batches of stations after an earlier painting, if there was one: those of what is painted, and then the
  -- clearing before a painting that is refused
  abbrev pub station_batches : Option Mark → List (Station V) → List Batch
  station_batches mark stations = batches_after mark (painted_shots stations) ++ refused_clearing stations

  -- the stations after an event that leads to a state or is refused; rest are those from a station on
  abbrev pub stations_after : EventView → Progress V → (Bool → Progress V → List (Station V)) → Result EditState Refusal → List (Station V)
  stations_after e s rest (Err r) = []
  stations_after e s rest (Ok state) = rest (is_repaint (chosen_action rules s e)) (after_action rules s e state)

  -- the stations after one, by its painting
  abbrev pub stations_by : EventView → Progress V → (Bool → Progress V → List (Station V)) → Result Rendering Refusal → List (Station V)
  stations_by e s rest (Err r) = []
  stations_by e s rest (Ok p) = stations_unless (stations_after e (after_painting s p) rest (state_after rules s e)) (is_over s.state.mode)

  -- the stations of a run over a list of events: each is painted, and then the next event leads to the next one
  abbrev pub stations_from : List EventView → Bool → Progress V → List (Station V)
  stations_from [] cleared s = station_at cleared s ∷ []
  stations_from (e ∷ es) cleared s = station_at cleared s ∷ stations_by e s (stations_from es) (painting_at rules s)

  -- the stations of the run that begins at a frame
  abbrev pub stations_of : Frame V → List (Station V)
  stations_of f = stations_from f.terminal.events false (progress_of f)

  -- the batches that a run takes are a function of its stations alone
  abbrev pub BatchesByStations : Type 0
  BatchesByStations = (f : Frame V) → (run_of rules f).taken ≡ f.terminal.batches ++ station_batches f.mark (stations_of f)
