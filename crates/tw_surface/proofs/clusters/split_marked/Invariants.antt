use Rattle.std.specs.Prelude.{◌≡◌, false}
use Rattle.std.specs.Str.{chars}
use Rattle.std.specs.Str.Iter.{chars_rest}
use Rattle.tw_surface.specs.Clusters.{starts_apart}
use Rattle.tw_surface.specs.Openings.{IsPastAdded}
use Rattle.tw_surface.proofs.clusters.split_marked.Given as goal

abbrev pub invariant-loop-first : goal.invariant-loop-first
invariant-loop-first l =
    IsPastAdded l.columns l.behind l.sum (chars_rest l.chars) × (starts_apart (chars (chars_rest l.chars)) ≡ false)
