use Rattle.std.proofs.Common.{◌≡◌, ◌-◌}
use Rattle.std.specs.Str.{IsCharBoundary}
use Rattle.tw_line.specs.Clusters.{cluster_before}
use Rattle.tw_line.specs.Extremes.{iterate}
use Rattle.tw_line.proofs.ClusterLemmas.{StandsAt}
use Rattle.tw_line.proofs.clusters.clusters_before.Given as goal

abbrev pub invariant-loop-round : goal.invariant-loop-round
invariant-loop-round l = record {
  stands : StandsAt l.cursor l.line l.start;
  boundary : IsCharBoundary l.line l.start;
  rest : iterate (cluster_before l.line) (l.count - l._round) l.start ≡ iterate (cluster_before l.line) l.count l.at;
}
