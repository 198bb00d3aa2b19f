use Rattle.std.proofs.Common.{map, true, length}
use Rattle.std.specs.Str.{IsUtf8}
use Rattle.unicode_segmentation.specs.Grapheme.{graphemes}
use Rattle.tw_surface.specs.Places.{cluster_piece, places_after}
use Rattle.tw_surface.specs.Extents.{place_of}
use Rattle.tw_surface.proofs.ExtentLemmas.{IsUnderWay}
use Rattle.tw_surface.proofs.measure.measure_clusters.Given as goal

abbrev pub invariant-loop-piece : goal.invariant-loop-piece
invariant-loop-piece l = record {
  utf8 : IsUtf8 l.rest;
  under_way : IsUnderWay
      (places_after l.cols (map cluster_piece (graphemes true l.fn.text)) (place_of l.fn.start)) l.fn.start
      (places_after l.cols (map cluster_piece (graphemes true l.rest)) (place_of l.extent)) l.extent;
}

abbrev pub decreases-loop-piece : goal.decreases-loop-piece
decreases-loop-piece l = length l.rest
