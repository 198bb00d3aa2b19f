use Rattle.std.proofs.Common.{◌≡◌, ◌-◌, length, refl, sym, subst, ◌∙◌, arith, rules, false}
use Rattle.std.proofs.lemmas.Str.{IsCharBoundary-from_rest}
use Rattle.std.specs.Str.{IsCharBoundary}
use Rattle.unicode_segmentation.specs.Cursor.{IsCursorOn, IsNextBoundary}
use Rattle.unicode_segmentation.specs.Grapheme.{is_grapheme_break}
use Rattle.unicode_segmentation.specs.Segments.{breaks_at}
use Rattle.unicode_segmentation.proofs.CursorLemmas.{IsChunkOf-whole}
use Rattle.tw_line.proofs.ClusterLemmas.{StandsAt, cluster_after-end}
use Rattle.tw_line.proofs.SeamLemmas.{IsCharBoundary-part, begins-part, cluster_after-part, cluster_boundary_is}
use Rattle.tw_line.proofs.clusters.cluster_from.Goals.{After-is_boundary, In-Ok, In-Ok-Some}
use Rattle.tw_line.proofs.clusters.cluster_from.Goals as goal

-- the cursor stands at the place in the part
made_on : (c : After-is_boundary) → IsCursorOn c.new-cursor.result c.range_from-part.result.now
made_on c =
    let line = c.args.line.now in
    let begins = sym (cluster_boundary_is line c.args.from c.requires.start) ∙ c.requires.begins in
    let cut = subst (λ s. IsCharBoundary s (c.args.at - c.args.from)) (sym c.range_from-part.ensures.value) (IsCharBoundary-part line c.utf8.line c.args.from c.requires.start begins c.args.at c.requires.order c.requires.boundary) in
    c.new-cursor.ensures.on _ c.range_from-part.utf8 refl cut

stands : (c : In-Ok) (on : IsCursorOn c.new-cursor.result c.range_from-part.result.now) → StandsAt c.is_boundary.new.self c.range_from-part.result.now (c.args.at - c.args.from)
stands c on =
    let made = c.new-cursor.ensures in
    let kept = c.in-Ok.ensures.place in
    record {
      on = c.in-Ok.ensures.on _ on (IsChunkOf-whole _ c.range_from-part.utf8);
      offset = kept.offset ∙ made.offset;
      kind = kept.kind.is_extended ∙ made.is_extended;
      done = kept.is_resuming ∙ made.fresh.0;
      awaits = c.in-Ok.ensures.settled;
    }

begins : (c : In-Ok) (on : IsCursorOn c.new-cursor.result c.range_from-part.result.now) → c.in-Ok.begins ≡ breaks_at (is_grapheme_break false) c.range_from-part.result.now (c.args.at - c.args.from)
begins c on = rw (c.new-cursor.ensures.is_extended, c.new-cursor.ensures.offset) at (c.in-Ok.ensures.ok _ on (IsChunkOf-whole _ c.range_from-part.utf8))

pub unreachable-requires : goal.unreachable-requires
unreachable-requires c =
    let on = made_on (goal.at.unreachable-requires c).After-is_boundary in
    let ok = c.is_boundary.ensures.whole _ on (IsChunkOf-whole _ c.range_from-part.utf8) refl refl c.new-cursor.ensures.fresh.1 in
    search (rules, arith)

-- the next boundary in the part, where one is found
next_found : (c : In-Ok-Some) (h : StandsAt c.is_boundary.new.self c.range_from-part.result.now (c.args.at - c.args.from))
    → (IsCharBoundary c.range_from-part.result.now c.in-Ok-Some.next) × IsNextBoundary c.is_boundary.new.self c.next_boundary.new.self c.range_from-part.result.now c.in-Ok-Some.next
next_found c h =
    let whole = IsChunkOf-whole _ c.range_from-part.utf8 in
    let on = c.in-Ok-Some.ensures.on _ h.on whole in
    let found = rw c.in-Ok-Some.field-0-is at (c.in-Ok-Some.ensures.found _ h.on whole) in
    (rw found.moved at on.boundary, found)

pub overflow_add-result : goal.overflow_add-result
overflow_add-result c =
    let on = made_on (goal.at.overflow_add-result c).After-is_boundary in
    let found = next_found c (stands (goal.at.overflow_add-result c).In-Ok on) in
    omega (arith, found.0.0, c.range_from-part.ensures.len)

pub unreachable-requires-in-Err : goal.unreachable-requires-in-Err
unreachable-requires-in-Err c =
    let on = made_on (goal.at.unreachable-requires-in-Err c).After-is_boundary in
    let h = stands (goal.at.unreachable-requires-in-Err c).In-Ok on in
    let ok = c.next_boundary.ensures.whole _ h.on (IsChunkOf-whole _ c.range_from-part.utf8) refl refl h.awaits in
    search (rules, arith)

pub returns-in-Ok-Some : goal.returns-in-Ok-Some
returns-in-Ok-Some c =
    let line = c.args.line.now in
    let from = c.args.from in
    let on = made_on (goal.at.returns-in-Ok-Some c).After-is_boundary in
    let h = stands (goal.at.returns-in-Ok-Some c).In-Ok on in
    let start = sym (cluster_boundary_is line from c.requires.start) ∙ c.requires.begins in
    let known = next_found c h in
    let part = c.range_from-part.ensures.value in
    let cut = rw part at known.0 in
    let found = rw part at known.1 in
    let ahead = rw (h.done, h.offset) at known.1.ahead in
    record {
      begins = rw part at (begins (goal.at.returns-in-Ok-Some c).In-Ok on) ∙ begins-part line c.utf8.line from c.requires.start start c.args.at c.requires.order c.requires.boundary;
      value =
          sym (cluster_after-part line c.utf8.line from c.requires.start start c.args.at c.in-Ok-Some.next c.requires.order ahead cut
          (rw h.kind at found.boundary) (rw (h.done, h.offset, h.kind) at found.first));
      boundary = IsCharBoundary-from_rest line from c.in-Ok-Some.next c.requires.start.0 cut;
      ahead = λ inside. omega (arith, ahead);
    }

pub returns-in-Ok-None : goal.returns-in-Ok-None
returns-in-Ok-None c =
    let line = c.args.line.now in
    let from = c.args.from in
    let on = made_on (goal.at.returns-in-Ok-None c).After-is_boundary in
    let h = stands (goal.at.returns-in-Ok-None c).In-Ok on in
    let start = sym (cluster_boundary_is line from c.requires.start) ∙ c.requires.begins in
    let last = c.next_boundary.ensures.end.0 (rw c.in-Ok-None.field-0-is at c.in-Ok-None.is) in
    let end : c.args.at ≡ length line = omega (arith, h.offset, last, h.on.len, c.range_from-part.ensures.len) in
    record {
      begins = rw c.range_from-part.ensures.value at (begins (goal.at.returns-in-Ok-None c).In-Ok on) ∙ begins-part line c.utf8.line from c.requires.start start c.args.at c.requires.order c.requires.boundary;
      value = sym (cluster_after-end line c.args.at end);
      boundary = c.requires.boundary;
      ahead = λ inside. absurd (omega arith);
    }
