-- What is shown so far, and what fits of the rest, is all that fits.
use Rattle.std.proofs.Common.{◌≡◌, ◌++◌, length, string_bytes, true}
use Rattle.std.specs.Str.{IsUtf8}
use Rattle.unicode_segmentation.specs.Grapheme.{graphemes}
use Rattle.tw_prompt_host.specs.AfterLine.{fitting_clusters}
use Rattle.tw_prompt_host.proofs.after_line.fitting_clusters.Given as goal

abbrev pub invariant-loop-cluster : goal.invariant-loop-cluster
invariant-loop-cluster l = record {
  utf8 : IsUtf8 l.rest;
  shown : string_bytes l.shown ++ fitting_clusters l.left (graphemes true l.rest) ≡ fitting_clusters l.columns (graphemes true l.fn.text);
}

abbrev pub decreases-loop-cluster : goal.decreases-loop-cluster
decreases-loop-cluster l = length l.rest
