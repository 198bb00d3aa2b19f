-- What a screen shows while the batches of a run are played on it.
use Rattle.std.specs.Prelude.{◌≡◌, ℕ, ◌+◌, false, List, [], ◌∷◌, ◌++◌, Result}
use Rattle.std.specs.List.{All}
use Rattle.tw_surface.specs.Pictures.{Picture}
use Rattle.tw_surface.specs.Fresh.{IsSameAbove, last_row}
use Rattle.tw_surface.specs.PaintingBatches.{play_batches, closing_if}
use Rattle.tw_host.specs.HostRules.{HostRules}
use Rattle.tw_session.specs.declared.error.Error.{Error}
use Rattle.tw_lineedit.specs.Frame.{Frame}
use Rattle.tw_lineedit.specs.Run.{run_of}
use Rattle.tw_lineedit.specs.ScreenRuns.{sized_scene, batches_of, is_cleared, first_row, ReachesPlainly, RendersNothing, ShowsFresh, RunIsFresh, RunClosesBelow, HasPainted, Shows}
use Rattle.tw_lineedit.specs.Stations.{Station}

module _ {V : Type 0} (rules : HostRules V) where
  -- a screen once some stations were painted, and once the closing batch of their run was played too
  abbrev pub painted_screen : ℕ → List (Station V) → Picture → Picture
  painted_screen w stations before = play_batches w (batches_of rules stations) before

  abbrev pub closed_screen : Frame V → ℕ → List (Station V) → Picture → Picture
  closed_screen f w stations before = play_batches w (closing_if (run_of rules f).mark) (painted_screen w stations before)

  -- the row under the last one of these stations
  abbrev pub row_under : ℕ → List (Station V) → Station V → Picture → ℕ
  row_under w earlier station before = last_row w (first_row rules before.row (earlier ++ station ∷ [])) (sized_scene rules station).scene + 1

  -- A station of a run is shown fresh from row s on, on a screen that was entered so, and above that row all is as on the
  -- screen shown.
  abbrev pub StandsUnder : Frame V → ℕ → ℕ → List (Station V) → Station V → Picture → Picture → Type 0
  StandsUnder f w s earlier station entered shown =
      ShowsFresh rules f (run_of rules f).taken w s earlier station entered
      × IsSameAbove w s shown (painted_screen w (earlier ++ station ∷ []) entered)

  -- A run that clears nothing stands so, whatever station it comes to.
  abbrev pub RunStandsUnder : Frame V → ℕ → ℕ → Picture → Picture → Type 0
  RunStandsUnder f w s entered shown = (earlier : List (Station V)) (station : Station V) (later : List (Station V))
      → ReachesPlainly rules f w earlier station later entered → is_cleared rules (earlier ++ station ∷ []) ≡ false
      → StandsUnder f w s earlier station entered shown

  -- Two calls stack: a second run that enters the screen where the closing batch of a first one left it stands under that
  -- one's last painting, of which nothing is changed.
  abbrev pub CallsStack : Type 0
  CallsStack = (f g : Frame V) (w : ℕ) (earlier : List (Station V)) (station : Station V) (none : List (Station V)) (before : Picture)
      → ReachesPlainly rules f w earlier station none before → All (RendersNothing rules) none
      → let first = earlier ++ station ∷ [] in
      RunStandsUnder g w (row_under w earlier station before) (closed_screen f w first before) (painted_screen w first before)

  -- ---- for the run from any frame: what `read_line` says of its own

  abbrev pub Paintings : Type 0
  Paintings = (f : Frame V) → RunIsFresh rules f

  abbrev pub Closings : Type 0
  Closings = (f : Frame V) → RunClosesBelow rules f

  -- ---- of what a call shows

  -- A call that painted the first station of its run, reached plainly, and took nothing is not shown.
  abbrev pub PaintsNothing : Type 0 → Type 0
  PaintsNothing A = (f g : Frame V) (result : Result A Error) (w : ℕ) (station : Station V) (later : List (Station V)) (before : Picture) → ReachesPlainly rules f w [] station later before
      → HasPainted rules f g result [] → Shows rules f g result → g.terminal.batches ≡ f.terminal.batches → ⊥
