use Rattle.std.proofs.Common.{length}
use Rattle.std.specs.Str.{IsUtf8}
use Rattle.tw_surface.specs.Openings.{ArePictures}
use Rattle.tw_surface.proofs.clusters.past_pictures.Given as goal

abbrev pub invariant-loop-behind : goal.invariant-loop-behind
invariant-loop-behind l = record {
  utf8 : IsUtf8 l.rest;
  past : ArePictures l.fn.text l.rest;
}

abbrev pub decreases-loop-behind : goal.decreases-loop-behind
decreases-loop-behind l = length l.rest
