use Rattle.std.proofs.Common.{◌≡◌, ◌+◌, ◌-◌, ◌++◌, ◌≤◌, length, take, replicate, ap, ◌∙◌, arith}
use Rattle.std.specs.Prelude.{string_bytes}
use Rattle.std.proofs.Math.Nat.{min-le_left, min-le_right}
use Rattle.std.proofs.lemmas.List.{append_assoc, replicate-append-replicate, take-replicate}
use Rattle.tw_surface.specs.Pictures.{blank}
use Rattle.tw_surface.proofs.screen.row.push_blanks.Goals as goal

pub loop-left-preserved : goal.loop-left-preserved
loop-left-preserved c =
    let here = c.loop-left in
    let part = c.min-part.result in
    let most : part ≤ 64 = omega (arith, c.min-part.ensures, min-le_right here.left 64) in
    let within : part ≤ here.left = omega (arith, c.min-part.ensures, min-le_left here.left 64) in
    let blanks : take part (replicate 64 blank) ≡ replicate part blank = take-replicate part 64 blank most in
    let count : c.args.count - here.left + part ≡ c.args.count - (here.left - part) = omega (arith, here.invariant.in_range) in
    record {
      in_range = omega (arith, here.invariant.in_range);
      bytes = c.in_ok-push_ascii.ensures.bytes ∙ rw (blanks, here.invariant.bytes) (append_assoc (string_bytes c.args.shown.now) (replicate (c.args.count - here.left) blank) (replicate part blank)
          ∙ ap (λ l. string_bytes c.args.shown.now ++ l) (replicate-append-replicate (c.args.count - here.left) part blank ∙ ap (λ n. replicate n blank) count));
      room = omega (arith, c.in_ok-push_ascii.ensures.len, c.in_ok-push_ascii.ensures.capacity, here.invariant.room, ap length blanks);
    }
