-- The clusters so far and those that are left are those of the whole text, and those so far are played and can be sent.
use Rattle.std.proofs.Common.{◌≡◌, ℕ, true, List, ◌++◌, length}
use Rattle.std.specs.List.{list_all}
use Rattle.std.specs.Str.{IsUtf8}
use Rattle.unicode_segmentation.specs.Grapheme.{graphemes}
use Rattle.tw_ansi.specs.EcmaTexts.{is_sent_cluster}
use Rattle.tw_sparing.specs.StyledScreens.{AreDrawn, IsSameBut, cluster_strokes}
use Rattle.tw_sparing.proofs.screen.StyledScreen.write_clusters.Given as goal

abbrev pub invariant-loop-cluster : goal.invariant-loop-cluster
invariant-loop-cluster l = record {
  utf8 : IsUtf8 l.left;
  same : IsSameBut l.fn.self l.self;
  written : (done : List (List ℕ)) × (graphemes true l.text ≡ done ++ graphemes true l.left)
      × AreDrawn l.fn.self (cluster_strokes l.fn.self.kept done) l.self × (list_all (is_sent_cluster l.fn.self.width) done ≡ true);
}

abbrev pub decreases-loop-cluster : goal.decreases-loop-cluster
decreases-loop-cluster l = length l.left
