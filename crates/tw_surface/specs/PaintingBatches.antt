-- The batches that show a list of paintings, and the batch that closes them.
use Rattle.std.specs.Prelude.{ℕ, ◌≡◌, Bool, if◌then◌else◌, Option, Some, None, List, [], ◌∷◌, ◌++◌, map}
use Rattle.std.specs.List.{list_any}
use Rattle.tw_surface.specs.ChangeView.{ClearScreen}
use Rattle.tw_surface.specs.ChangeView.{Batch}
use Rattle.tw_surface.specs.Pictures.{Picture, play_all}
use Rattle.tw_surface.specs.Scenes.{Scene, IsPlain}
use Rattle.tw_surface.specs.Paintings.{Painting, painting, Mark, mark_of, start_move, closing}
use Rattle.tw_surface.specs.Defaults.{default_color}

-- a painting of a run, and whether the screen is cleared just before it
pub record Shot : Type 0 where
  pub painting : Painting
  pub cleared : Bool

-- the batch that clears the screen
abbrev pub clear_batch : Batch
clear_batch = ClearScreen default_color ∷ []

-- that batch, where the screen is cleared
abbrev pub clearing : Bool → List Batch
clearing cleared = if cleared then clear_batch ∷ [] else []

-- the start move, where there is a painting before
abbrev pub start_of : Option Mark → Batch
start_of None = []
start_of (Some m) = start_move m ∷ []

-- the closing batch, where there was a painting
abbrev pub closing_if : Option Mark → List Batch
closing_if None = []
closing_if (Some m) = closing m ∷ []

-- the batches of a list of paintings, after an earlier one, if there was one
abbrev pub batches_after : Option Mark → List Shot → List Batch
batches_after mark [] = []
batches_after mark (shot ∷ more) =
    clearing shot.cleared ++ (start_of mark ++ shot.painting.changes) ∷ batches_after (Some (mark_of shot.painting)) more

-- the mark that a list of paintings leaves, after an earlier one, if there was one
abbrev pub mark_after : Option Mark → List Shot → Option Mark
mark_after mark [] = mark
mark_after mark (shot ∷ more) = mark_after (Some (mark_of shot.painting)) more

-- the batches of a list of paintings from the first one on
abbrev pub batches : List Shot → List Batch
batches shots = batches_after None shots

-- the batch that closes a list of paintings, where there is one
abbrev pub closing_batch : List Shot → List Batch
closing_batch shots = closing_if (mark_after None shots)

-- the paintings of a list of scenes at cols columns
abbrev pub shots : ℕ → List Scene → List Shot
shots cols scenes = map (λ scene. record { painting = painting cols scene; cleared = scene.cleared }) scenes

-- the batches that show a list of scenes, and the batch that closes them
abbrev pub shown_batches : ℕ → List Scene → List Batch
shown_batches cols scenes = batches (shots cols scenes)

abbrev pub closing_of : ℕ → List Scene → List Batch
closing_of cols scenes = closing_batch (shots cols scenes)

-- the batches of a whole run
abbrev pub run_batches : ℕ → List Scene → List Batch
run_batches cols scenes = shown_batches cols scenes ++ closing_of cols scenes

abbrev pub play_batches : ℕ → List Batch → Picture → Picture
play_batches width [] s = s
play_batches width (batch ∷ more) s = play_batches width more (play_all width batch s)

-- the last of the scenes of a run: the first one and those after it
abbrev pub last_of : Scene → List Scene → Scene
last_of scene [] = scene
last_of scene (next ∷ more) = last_of next more

-- the row from which a run that was entered in row e paints: 0 once the screen was cleared
abbrev pub start_row : ℕ → List Scene → ℕ
start_row e scenes = if list_any (λ scene. scene.cleared) scenes then 0 else e

-- a scene and the number of columns that it is painted for
pub record SizedScene : Type 0 where
  pub scene : Scene
  pub cols : ℕ

abbrev pub shot_of : SizedScene → Shot
shot_of station = record { painting = painting station.cols station.scene; cleared = station.scene.cleared }

abbrev pub scenes_of : List SizedScene → List Scene
scenes_of stations = map (λ station. station.scene) stations

-- a plain scene that is painted for w columns
abbrev pub IsPlainAt : ℕ → SizedScene → Type 0
IsPlainAt w station = (station.cols ≡ w) × IsPlain station.scene
