-- Steps over legacy grapheme clusters.
use Rattle.std.specs.Prelude.{ℕ, ◌+◌, ◌-◌, Bool, false, ◌&&◌, List, length, unwrap_or}
use Rattle.unicode_segmentation.specs.Grapheme.{is_grapheme_break}
use Rattle.unicode_segmentation.specs.Segments.{breaks_at}
use Rattle.tw_line.specs.Boundaries.{is_boundary}
use Rattle.tw_line.specs.Extremes.{least_from, greatest_below}

-- a cluster that is not extended begins or ends at the offset
unfoldable pub is_cluster_boundary : List ℕ → ℕ → Bool
is_cluster_boundary text at = is_boundary text at && breaks_at (is_grapheme_break false) text at

-- the least cluster boundary above the offset, or the offset where there is none
unfoldable pub cluster_after : List ℕ → ℕ → ℕ
cluster_after text at = unwrap_or (least_from (is_cluster_boundary text) (at + 1) (length text - at)) at

-- the greatest cluster boundary below the offset, or the offset where there is none
unfoldable pub cluster_before : List ℕ → ℕ → ℕ
cluster_before text at = unwrap_or (greatest_below (is_cluster_boundary text) at) at
