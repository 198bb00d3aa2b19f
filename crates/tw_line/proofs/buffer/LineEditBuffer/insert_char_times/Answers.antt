use Rattle.std.proofs.Common.{◌≡◌, ◌-◌, ◌*◌, ◌<◌, length, ap, sym, subst, ◌∙◌, arith, rules, ⊎_elim, ◌≤◌}
use Rattle.std.proofs.lemmas.Grind.{common_steps}
use Rattle.std.proofs.lemmas.Str.{IsUtf8-string_bytes}
use Rattle.std.proofs.Math.Nat.{le-mul_of_pos_right, mul-zero}
use Rattle.tw_line.proofs.TextLemmas.{room-enough, places-enough}
use Rattle.std.specs.Prelude.{encode_utf8}
use Rattle.std.specs.Str.{IsCharBoundary, IsUtf8}
use Rattle.tw_line.specs.Clusters.{cluster_after, is_cluster_boundary}
use Rattle.tw_line.specs.Cut.{cut_at}
use Rattle.tw_line.specs.Edits.{with_char}
use Rattle.tw_line.specs.Text.{bytes_of, room_of}
use Rattle.tw_line.proofs.BoundaryLemmas.{IsCharBoundary-insert}
use Rattle.tw_line.proofs.EditLemmas.{length-insert_slice, room_step}
use Rattle.tw_line.proofs.ExtremesLemmas.{repeated_once, repeated_none}
use Rattle.tw_line.proofs.SeamLemmas.{KnownBoundary-start, begins-insert}
use Rattle.unicode_segmentation.proofs.TextLemmas.{encode_utf8_nonempty}
use Rattle.tw_line.proofs.buffer.LineEditBuffer.insert_char_times.Goals.{then-begins, else-begins}
use Rattle.tw_line.proofs.buffer.LineEditBuffer.insert_char_times.Goals as goal

pub cluster_from-begins-requires : goal.cluster_from-begins-requires
cluster_from-begins-requires c =
    let line = c.loop-round.self-inside.line in
    let inv = c.loop-round.invariant in
    let utf8 = IsUtf8-string_bytes line.line in
    let now = c.as_str.ensures ∙ c.in-Ok.ensures.ok in
    let new_utf8 = subst IsUtf8 now c.as_str.utf8 in
    let kept = begins-insert (bytes_of line) _ c.loop-round.from _ utf8 inv.known.boundary inv.boundary inv.known.before new_utf8 inv.known.begins in
    record {
      start = subst (λ s. IsCharBoundary s c.loop-round.from) (sym now) kept.0;
      begins = ap (λ s. is_cluster_boundary s c.loop-round.from) now ∙ kept.1;
      order = inv.known.order;
      boundary = subst (λ s. IsCharBoundary s c.loop-round.self-inside.cursor) (sym now) (IsCharBoundary-insert _ _ _ utf8 inv.boundary new_utf8);
    }

pub returns-in_err-reserve-clause-nothing : goal.returns-in_err-reserve-clause-nothing
returns-in_err-reserve-clause-nothing c none =
    let text = c.self.inside.line in
    let more : c.in-Some.more ≡ 0 = c.in-Some.ensures.1 ∙ ap (λ n. c.len_utf8.result * n) none ∙ mul-zero c.len_utf8.result in
    absurd (⊎_elim (λ full. omega (arith, room-enough text)) (λ full. omega (arith, places-enough text)) c.in_err-reserve.ensures.err)

pub loop-round-init : goal.loop-round-init
loop-round-init c = record {
  boundary = search rules;
  known = KnownBoundary-start _ _ (IsUtf8-string_bytes c.reserve.new.self.line);
  rest = search rules;
  room = grind (arith, common_steps);
  places = search rules;
}

pub unreachable-requires : goal.unreachable-requires
unreachable-requires c =
    let text = c.loop-round.self-inside.line in
    let inv = c.loop-round.invariant in
    let left : 0 < c.args.count - c.loop-round._round = omega (arith, c.loop-round-test.true) in
    let one = le-mul_of_pos_right {m = c.args.count - c.loop-round._round} (length (encode_utf8 c.args.c)) left in
    ⊎_elim (λ full. omega (arith, inv.room)) (λ full. omega (arith, inv.places)) c.in_default-insert_char.ensures.full

pub loop-round-preserved : goal.loop-round-preserved
loop-round-preserved c =
    let line = bytes_of c.loop-round.self-inside.line in
    let room = room_of c.loop-round.self-inside.line in
    let cursor = c.loop-round.self-inside.cursor in
    let bytes = c.in-Ok.ensures.ok in
    let after = c.cluster_from-begins.ensures in
    let inv = c.loop-round.invariant in
    let utf8 = IsUtf8-string_bytes c.loop-round.self-inside.line.line in
    let now = c.as_str.ensures ∙ bytes in
    let new_utf8 = subst IsUtf8 now c.as_str.utf8 in
    let kept = begins-insert line _ c.loop-round.from _ utf8 inv.known.boundary inv.boundary inv.known.before new_utf8 inv.known.begins in
    let cut = subst (λ s. IsCharBoundary s cursor) (sym now) (IsCharBoundary-insert _ _ _ utf8 inv.boundary new_utf8) in
    let longer = length-insert_slice line _ _ cursor bytes in
    let some = encode_utf8_nonempty c.args.c in
    let inside : cursor ≤ length line = inv.boundary.0 in
    let ahead = after.ahead (omega (arith, longer, ap length c.as_str.ensures)) in
    record {
      boundary = rw c.as_str.ensures at after.boundary;
      known =
          elim c.if-begins.branch [
            | then-begins w ↦
                rw w.from-is (record {
                  boundary = subst (λ s. IsCharBoundary s cursor) c.as_str.ensures cut;
                  begins = ap (λ s. is_cluster_boundary s cursor) (sym c.as_str.ensures) ∙ sym after.begins ∙ w.if-begins.true;
                  order = omega (arith, ahead);
                  before = λ some. ahead;
                })
            | else-begins w ↦
                rw w.from-is (record {
                  boundary = rw (sym bytes) at kept.0;
                  begins = ap (λ s. is_cluster_boundary s c.loop-round.from) bytes ∙ kept.1;
                  order = omega (arith, ahead, inv.known.order);
                  before = λ some. omega (arith, ahead, inv.known.order);
                })
          ];
      rest =
          repeated_once (with_char c.args.c) c.args.count c.loop-round._round (cut_at line cursor) _ c.loop-round-test.true
          (ap (cut_at (bytes_of c.insert_char.new.self)) (after.value ∙ ap (λ b. cluster_after b cursor) c.as_str.ensures)
          ∙ ap (λ b. cut_at b (cluster_after b cursor)) bytes)
          ∙ c.loop-round.invariant.rest;
      room =
          let longer = length-insert_slice line _ _ cursor bytes in
          let next =
          room_step (length line) _ (length (encode_utf8 c.args.c)) c.args.count c.loop-round._round room c.loop-round.invariant.room c.loop-round-test.true longer in
          omega (arith, c.in-Ok.ensures.room);
      places = omega (arith, c.in-Ok.ensures.count, c.in-Ok.ensures.places, c.loop-round.invariant.places);
    }

pub returns-clause-ok : goal.returns-clause-ok
returns-clause-ok c =
    sym (repeated_none (with_char c.args.c) (c.args.count - c.loop-round._round) _ (omega arith)) ∙ c.loop-round.invariant.rest
