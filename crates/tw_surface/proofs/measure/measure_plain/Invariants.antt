use Rattle.std.proofs.Common.{drop, map}
use Rattle.tw_surface.specs.Places.{plain_piece, places_after}
use Rattle.tw_surface.specs.Extents.{place_of}
use Rattle.tw_surface.proofs.ExtentLemmas.{IsUnderWay}
use Rattle.tw_surface.proofs.measure.measure_plain.Given as goal

abbrev pub invariant-loop-byte : goal.invariant-loop-byte
invariant-loop-byte l = IsUnderWay
    (places_after l.cols (map plain_piece l.text) (place_of l.fn.start)) l.fn.start
    (places_after l.cols (map plain_piece (drop l.byte-index l.text)) (place_of l.extent)) l.extent
