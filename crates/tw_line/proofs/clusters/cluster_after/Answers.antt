use Rattle.tw_line.specs.Extremes.{iterate}
use Rattle.tw_line.proofs.clusters.cluster_after.Goals as goal

pub returns-clause-value : goal.returns-clause-value
unfolding iterate
returns-clause-value c = c.clusters_after.ensures.value
