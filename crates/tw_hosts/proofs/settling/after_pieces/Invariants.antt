use Rattle.std.proofs.Common.{[], ◌+◌, length}
use Rattle.std.specs.Str.{IsUtf8}
use Rattle.tw_surface.specs.Places.{places_after}
use Rattle.tw_surface.specs.Extents.{place_of}
use Rattle.tw_surface.proofs.ExtentLemmas.{IsUnderWay}
use Rattle.tw_hosts.specs.Settling.{pieces_left}
use Rattle.tw_hosts.proofs.settling.after_pieces.Given as goal

abbrev pub invariant-loop-piece : goal.invariant-loop-piece
invariant-loop-piece l = record {
  utf8_parted : IsUtf8 l.parted;
  utf8_rest : IsUtf8 l.rest;
  under_way : IsUnderWay
      (places_after l.cols (pieces_left [] l.fn.text) (place_of l.fn.start)) l.fn.start
      (places_after l.cols (pieces_left l.parted l.rest) (place_of l.extent)) l.extent;
}

abbrev pub decreases-loop-piece : goal.decreases-loop-piece
decreases-loop-piece l = length l.parted + length l.rest
