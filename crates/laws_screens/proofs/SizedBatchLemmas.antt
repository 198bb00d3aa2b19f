-- The batches of stations, each with its columns.
use Rattle.std.proofs.Common.{◌≡◌, Option, Some, None, List, [], ◌∷◌, map, refl, arith}
use Rattle.std.proofs.lemmas.Bool.Decides.{nat_tests}
use Rattle.tw_surface.specs.Paintings.{Mark, painting, mark_of}
use Rattle.tw_surface.specs.PaintingBatches.{SizedScene, shot_of, batches_after}
use Rattle.laws_screens.specs.SizedBatches.{sized_after, SizedBatches}

pub sized_are : (earlier : Option Mark) (stations : List SizedScene) → map (λ sized. sized.batch) (sized_after earlier stations) ≡ batches_after earlier (map shot_of stations)
sized_are earlier [] = refl
sized_are earlier (station ∷ more) = grind (arith, nat_tests, sized_are (Some (mark_of (painting station.cols station.scene))) more)

pub sized_batches_are : SizedBatches
sized_batches_are stations = sized_are None stations
