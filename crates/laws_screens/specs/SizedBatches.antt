-- Batches, each with the columns that the screen has when it comes.
use Rattle.std.specs.Prelude.{ℕ, ◌≡◌, Option, Some, None, List, [], ◌∷◌, ◌++◌, map}
use Rattle.tw_surface.specs.ChangeView.{Batch}
use Rattle.tw_surface.specs.Paintings.{Mark, mark_of}
use Rattle.tw_surface.specs.PaintingBatches.{SizedScene, shot_of, clearing, start_of, batches}

-- a batch, and the columns that the screen has when it comes
pub record SizedBatch : Type 0 where
  pub cols : ℕ
  pub batch : Batch

-- batches that come at w columns
abbrev pub sized_at : ℕ → List Batch → List SizedBatch
sized_at w played = map (λ batch. record { cols = w; batch = batch }) played

-- the batches of a list of stations, after an earlier painting, if there was one: each comes at the columns of its
-- station
abbrev pub sized_after : Option Mark → List SizedScene → List SizedBatch
sized_after mark [] = []
sized_after mark (station ∷ more) =
    let shot = shot_of station in
    sized_at station.cols (clearing shot.cleared ++ (start_of mark ++ shot.painting.changes) ∷ [])
    ++ sized_after (Some (mark_of shot.painting)) more

-- the batches of a list of stations from the first one on
abbrev pub sized_batches : List SizedScene → List SizedBatch
sized_batches stations = sized_after None stations

-- these are the batches of the list
abbrev pub SizedBatches : Type 0
SizedBatches = (stations : List SizedScene) → map (λ sized. sized.batch) (sized_batches stations) ≡ batches (map shot_of stations)
