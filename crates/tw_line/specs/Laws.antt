-- Laws over the definitions alone.
use Rattle.std.specs.Prelude.{◌≡◌, ℕ, ◌+◌, ◌↔◌, true, List, length}
use Rattle.std.specs.Str.{IsCharBoundary}
use Rattle.tw_line.specs.Cut.{Cut, IsCut}
use Rattle.tw_line.specs.Boundaries.{is_boundary, boundary_below}
use Rattle.tw_line.specs.Clusters.{is_cluster_boundary, cluster_after, cluster_before}
use Rattle.tw_line.specs.Extremes.{IsLeastOr, IsGreatestOr}
use Rattle.tw_line.specs.Movements.{destination, after_move}
use Rattle.tw_line.specs.Words.{is_space, is_no_space, follows_space, space_from, word_from, word_before}
use Rattle.tw_line.specs.declared.movements.Movement.{Movement}

-- a steps and then b steps lead where a + b steps lead
abbrev pub CountsAddUp : (ℕ → Movement) → Type 0
CountsAddUp m = (c : Cut) (a b : ℕ) → IsCut c → destination (m (a + b)) c ≡ destination (m b) (after_move (m a) c)

-- the boundaries are those of std, and each step and the clamp lead to the extreme of a set of them
pub record OffsetsAreExtremes (text : List ℕ) (at : ℕ) : Type 0 where
  pub boundary : (is_boundary text at ≡ true) ↔ IsCharBoundary text at
  pub cluster_after : IsLeastOr (is_cluster_boundary text) (at + 1) (length text + 1) at (cluster_after text at)
  pub cluster_before : IsGreatestOr (is_cluster_boundary text) at at (cluster_before text at)
  pub boundary_below : IsGreatestOr (is_boundary text) (at + 1) 0 (boundary_below text at)

-- each part of a step over words leads to the extreme of a set of indices
pub record WordsAreExtremes (cs : List ℕ) (q : ℕ) : Type 0 where
  pub word_before : IsGreatestOr (follows_space cs) q 0 (word_before cs q)
  pub space_from : IsLeastOr (is_space cs) q (length cs) (length cs) (space_from cs q)
  pub word_from : IsLeastOr (is_no_space cs) q (length cs) (length cs) (word_from cs q)
