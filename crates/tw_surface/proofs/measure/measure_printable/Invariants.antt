use Rattle.std.proofs.Common.{replicate}
use Rattle.tw_surface.specs.declared.measure.Piece.TheVariants.{Wide}
use Rattle.tw_surface.specs.Places.{places_after}
use Rattle.tw_surface.specs.Extents.{place_of}
use Rattle.tw_surface.proofs.ExtentLemmas.{IsUnderWay}
use Rattle.tw_surface.proofs.measure.measure_printable.Given as goal

abbrev pub decreases-loop-left : goal.decreases-loop-left
decreases-loop-left l = l.left

abbrev pub invariant-loop-left : goal.invariant-loop-left
invariant-loop-left l = IsUnderWay
    (places_after l.cols (replicate l.fn.count (Wide 1)) (place_of l.fn.start)) l.fn.start
    (places_after l.cols (replicate l.left (Wide 1)) (place_of l.extent)) l.extent
