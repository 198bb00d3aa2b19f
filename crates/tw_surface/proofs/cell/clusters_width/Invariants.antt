use Rattle.std.proofs.Common.{◌≡◌, ◌≤◌, ◌+◌, ◌*◌, length, true}
use Rattle.std.specs.List.{sum_by}
use Rattle.std.specs.Str.{IsUtf8}
use Rattle.unicode_segmentation.specs.Grapheme.{graphemes}
use Rattle.tw_surface.specs.Width.{cluster_width}
use Rattle.tw_surface.proofs.cell.clusters_width.Given as goal

abbrev pub invariant-loop-columns : goal.invariant-loop-columns
invariant-loop-columns l = record {
  utf8 : IsUtf8 l.rest;
  sums : l.total + sum_by cluster_width (graphemes true l.rest) ≡ sum_by cluster_width (graphemes true l.fn.text);
  room : l.total + 2 * length l.rest ≤ 2 * length l.fn.text;
}

abbrev pub decreases-loop-columns : goal.decreases-loop-columns
decreases-loop-columns l = length l.rest
