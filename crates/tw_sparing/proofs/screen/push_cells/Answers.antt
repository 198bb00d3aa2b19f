use Rattle.std.proofs.Common.{◌≡◌, false, not, is_ok, ap, ◌∙◌, arith, Result, Ok, Err, OnErr, sym}
use Rattle.std.proofs.lemmas.Bool.{false≢true}
use Rattle.tw_sparing.proofs.screen.push_cells.Goals as goal

refused : {X E P : Type 0} (r : Result X E) → is_ok r ≡ false → OnErr r P → P
refused (Ok x) is h = absurd (false≢true (sym is))
refused (Err e) is h = h

pub returns-then-is_err-2-clause-err : goal.returns-then-is_err-2-clause-err
returns-then-is_err-2-clause-err c =
    let full = refused c.push.result (c.is_err-in-loop-byte.ensures.negation ∙ ap not c.if-is_err-2.true) c.push.ensures.full in
    absurd (omega (arith, full, c.loop-byte.invariant.3, c.loop-byte-test.true))
