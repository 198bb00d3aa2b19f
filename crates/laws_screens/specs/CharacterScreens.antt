-- Screens of characters without a bottom and on some rows: what is played on one is what its strokes draw, for plain texts.
use Rattle.std.specs.Prelude.{ℕ, ◌≡◌, ◌<◌, ◌≤◌, Some, None, true, false, List}
use Rattle.std.specs.List.{list_all}
use Rattle.laws_screens.specs.Sheets as sheets
use Rattle.laws_screens.specs.Strokes.{PictureOf}
use Rattle.tw_surface.specs.ChangeView.{Batch}
use Rattle.tw_surface.specs.Fresh.{IsFresh}
use Rattle.tw_surface.specs.Pictures.{Picture, blank, can_play}
use Rattle.tw_surface.specs.PaintingBatches.{play_batches}
use Rattle.tw_surface.specs.Scenes.{Scene, IsPlain}
use Rattle.tw_surface.specs.Scrolling.{play_batches_on}
use Rattle.laws_screens.specs.SceneSheets.{sheet_of}
use Rattle.laws_screens.specs.Screens.{play_sized}
use Rattle.laws_screens.specs.SizedBatches.{sized_at}
use Rattle.laws_screens.specs.StyledCells.{characters}

-- a picture of characters, as one of any kind of cells
abbrev pub cells_of : Picture → PictureOf ℕ
cells_of s = record { cell = s.cell; row = s.row; col = s.col }

-- batches without a bottom
abbrev pub PlaysBatches : Type 0
PlaysBatches = (w : ℕ) (played : List Batch) (s : Picture) → 0 < w → s.col ≤ w → list_all (list_all can_play) played ≡ true
    → cells_of (play_batches w played s) ≡ play_sized None false characters w tt (sized_at w played) (cells_of s)

-- on h rows
abbrev pub PlaysBatchesOn : Type 0
PlaysBatchesOn = (h w : ℕ) (played : List Batch) (s : Picture) → 0 < w → s.row < h → s.col ≤ w → list_all (list_all can_play) played ≡ true
    → cells_of (play_batches_on h w played s) ≡ play_sized (Some h) false characters w tt (sized_at w played) (cells_of s)

-- A painting of a plain scene that is fresh by its sheet of characters is fresh.
abbrev pub FreshCharacters : Type 0
FreshCharacters = (w s : ℕ) (scene : Scene) (t : Picture) → 2 ≤ w → IsPlain scene → sheets.IsFreshSheet w s blank (sheet_of characters w scene) (cells_of t) → IsFresh w s scene t
