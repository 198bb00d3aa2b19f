-- Steps over clusters.
use Rattle.std.proofs.Common.{◌≡◌, ℕ, ◌+◌, ◌-◌, ◌<◌, ◌≤◌, true, false, List, length, unwrap_or, ap, arith, ⊎_elim}
use Rattle.std.proofs.lemmas.Bool.{cases_Bool, and_from, and_left, and_right}
use Rattle.std.specs.Prelude.{IsNone}
use Rattle.std.specs.Str.{IsCharBoundary}
use Rattle.unicode_segmentation.specs.Cursor.{IsCursorOn, IsNextBoundary, IsPrevBoundary, cursor_offset, cursor_is_extended, cursor_is_resuming, cursor_awaits}
use Rattle.unicode_segmentation.specs.declared.grapheme.cursor.GraphemeCursor.{GraphemeCursor}
use Rattle.unicode_segmentation.specs.Grapheme.{is_grapheme_break}
use Rattle.unicode_segmentation.specs.Segments.{breaks_at}
use Rattle.tw_line.specs.Boundaries.{is_boundary}
use Rattle.tw_line.specs.Clusters.{is_cluster_boundary, cluster_after, cluster_before}
use Rattle.tw_line.specs.Extremes.{NonePasses}
use Rattle.tw_line.proofs.BoundaryLemmas.{is_boundary-from, IsCharBoundary-from, is_boundary-false}
use Rattle.tw_line.proofs.ExtremesLemmas.{least_from-is, least_from-none, greatest_below-is, greatest_below-none}

-- no cluster begins or ends in between
abbrev pub NoneBetween : List ℕ → ℕ → ℕ → Type 0
NoneBetween text from to = (k : ℕ) → from ≤ k → k < to → IsCharBoundary text k → breaks_at (is_grapheme_break false) text k ≡ false

-- then the test fails in between
none_passes : (text : List ℕ) (from to : ℕ) → NoneBetween text from to → NonePasses (is_cluster_boundary text) from to
unfolding is_cluster_boundary
none_passes text from to none k low high =
    ⊎_elim (λ passes. and_right _ _ (none k low high (IsCharBoundary-from text k passes))) (λ fails. and_left _ _ fails) (cases_Bool (is_boundary text k))

-- the test passes where a character and a cluster begin
cluster_boundary : (text : List ℕ) (at : ℕ) → IsCharBoundary text at → breaks_at (is_grapheme_break false) text at ≡ true → is_cluster_boundary text at ≡ true
unfolding is_cluster_boundary
cluster_boundary text at h passes = and_from _ _ (is_boundary-from text at h) passes

-- the next cluster boundary is the step ahead
pub cluster_after-is : (text : List ℕ) (at next : ℕ) → at + 1 ≤ next → IsCharBoundary text next → breaks_at (is_grapheme_break false) text next ≡ true
    → NoneBetween text (at + 1) next → cluster_after text at ≡ next
unfolding cluster_after
cluster_after-is text at next low cut passes none =
    let fits : next ≤ length text = cut.0 in
    ap (λ o. unwrap_or o at) (least_from-is (is_cluster_boundary text) (length text - at) (at + 1) next low (omega arith) (cluster_boundary text next cut passes)
    (none_passes text (at + 1) next none))

-- the test fails past the end
past_end : (text : List ℕ) (k : ℕ) → length text < k → is_cluster_boundary text k ≡ false
unfolding is_cluster_boundary
past_end text k far = and_left _ _ (is_boundary-false text k (λ h. let fits : k ≤ length text = h.0 in absurd (omega arith)))

-- at the end the step ahead stays
pub cluster_after-end : (text : List ℕ) (at : ℕ) → at ≡ length text → cluster_after text at ≡ at
unfolding cluster_after
cluster_after-end text at e =
    ap (λ o. unwrap_or o at) (least_from-none (is_cluster_boundary text) (length text - at) (at + 1) (λ k a b. past_end text k (omega arith)))

-- the cluster boundary before is the step back
pub cluster_before-is : (text : List ℕ) (at next : ℕ) → next < at → IsCharBoundary text next → breaks_at (is_grapheme_break false) text next ≡ true
    → NoneBetween text (next + 1) at → cluster_before text at ≡ next
unfolding cluster_before
cluster_before-is text at next high cut passes none =
    ap (λ o. unwrap_or o at) (greatest_below-is (is_cluster_boundary text) at next high (cluster_boundary text next cut passes) (none_passes text (next + 1) at none))

-- at the start the step back stays
pub cluster_before-start : (text : List ℕ) (at : ℕ) → at ≡ 0 → cluster_before text at ≡ at
unfolding cluster_before
cluster_before-start text at e =
    ap (λ o. unwrap_or o at) (greatest_below-none (is_cluster_boundary text) at (λ k a b. absurd (omega arith)))

-- a cursor that stands at an offset of the text, and waits for nothing
pub record StandsAt (cursor : GraphemeCursor) (text : List ℕ) (at : ℕ) : Type 0 where
  pub on : IsCursorOn cursor text
  pub offset : cursor_offset cursor ≡ at
  pub kind : cursor_is_extended cursor ≡ false
  pub done : cursor_is_resuming cursor ≡ false
  pub awaits : IsNone (cursor_awaits cursor)

-- where it goes ahead is the step ahead
pub StandsAt-next : (old new : GraphemeCursor) (text : List ℕ) (at next : ℕ) → StandsAt old text at → IsCursorOn new text → IsNextBoundary old new text next → cluster_after text at ≡ next
StandsAt-next old new text at next h on found =
    cluster_after-is text at next (rw (h.done, h.offset) at found.ahead) (rw found.moved at on.boundary) (rw h.kind at found.boundary) (rw (h.done, h.offset, h.kind) at found.first)

-- where it goes back is the step back
pub StandsAt-previous : (old new : GraphemeCursor) (text : List ℕ) (at next : ℕ) → StandsAt old text at → IsCursorOn new text → IsPrevBoundary old new text next → cluster_before text at ≡ next
StandsAt-previous old new text at next h on found =
    cluster_before-is text at next (rw (h.done, h.offset) at found.behind) (rw found.moved at on.boundary) (rw h.kind at found.boundary) (rw (h.done, h.offset, h.kind) at found.last)
