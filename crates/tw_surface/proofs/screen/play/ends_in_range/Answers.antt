use Rattle.std.proofs.Common.{◌+◌, ◌∙◌, drop, arith}
use Rattle.std.proofs.lemmas.Bool.{false≢true}
use Rattle.tw_surface.specs.Pictures.{cursor_at}
use Rattle.tw_surface.proofs.TextCursor.{end_step, text-row}
use Rattle.tw_surface.proofs.screen.play.ends_in_range.Goals as goal

pub loop-byte-preserved : goal.loop-byte-preserved
loop-byte-preserved c = record {
  ends = end_step c.args.width c.args.text.now c.loop-byte.byte-index c.loop-byte.row c.loop-byte.col _ _ (omega arith) c.next_cursor.ensures.row c.next_cursor.ensures.col
      ∙ c.loop-byte.invariant.ends;
  row = omega arith;
  col = c.next_cursor.ensures.within;
}

-- a text never leads up, so it ends no higher than here
pub returns-then-row-gt-LAST_ROW : goal.returns-then-row-gt-LAST_ROW
returns-then-row-gt-LAST_ROW c =
    let rest = text-row c.args.width (drop (c.loop-byte.byte-index + 1) c.args.text.now) (cursor_at c.next_cursor.result.0 c.next_cursor.result.1) in
    let step = end_step c.args.width c.args.text.now c.loop-byte.byte-index c.loop-byte.row c.loop-byte.col _ _ (omega arith) c.next_cursor.ensures.row c.next_cursor.ensures.col in
    (λ e. absurd (false≢true e), λ ends. absurd (omega (arith, rest, step, c.loop-byte.invariant.ends, ends)))
