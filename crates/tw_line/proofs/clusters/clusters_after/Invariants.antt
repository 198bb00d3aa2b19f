use Rattle.std.proofs.Common.{◌≡◌, ◌-◌}
use Rattle.std.specs.Str.{IsCharBoundary}
use Rattle.tw_line.specs.Clusters.{cluster_after}
use Rattle.tw_line.specs.Extremes.{iterate}
use Rattle.tw_line.proofs.ClusterLemmas.{StandsAt}
use Rattle.tw_line.proofs.clusters.clusters_after.Given as goal

abbrev pub invariant-loop-round : goal.invariant-loop-round
invariant-loop-round l = record {
  stands : StandsAt l.cursor l.line l.end;
  boundary : IsCharBoundary l.line l.end;
  rest : iterate (cluster_after l.line) (l.count - l._round) l.end ≡ iterate (cluster_after l.line) l.count l.at;
}
