use Rattle.std.proofs.Common.{sym, ◌∙◌}
use Rattle.tw_surface.proofs.ClusterCuts.{IsFirstCluster-from, some_cluster}
use Rattle.tw_surface.proofs.clusters.ruled_len.Goals as goal

pub unreachable-requires : goal.unreachable-requires
unreachable-requires c = some_cluster c.args.text.now c.utf8.text c.requires (sym c.graphemes.ensures.left ∙ c.in-None.ensures.steps.0)

pub returns : goal.returns
returns c = IsFirstCluster-from c.args.text.now c.utf8.text c.in-Some.cluster.now _ (sym c.graphemes.ensures.left ∙ c.in-Some.ensures.steps)
