use Rattle.std.proofs.Common.{string_bytes}
use Rattle.tw_ansi.specs.Encoding.{terse_batch}
use Rattle.tw_sparing.specs.Redrawings.{left_of, row_redrawn, rows_redrawn}
use Rattle.tw_sparing.specs.Sending.{screen_cells}
use Rattle.tw_sparing.proofs.AddedChanges.{rows_step, extends_more}
use Rattle.tw_sparing.proofs.redrawer.Redrawer.draw_rows.Goals as goal

pub loop-row-preserved : goal.loop-row-preserved
loop-row-preserved c =
    let w = c.args.new.now.width in
    let left = left_of c.args.old.now.width c.args.from (screen_cells c.args.old.now) in
    let new = screen_cells c.args.new.now in
    let all = rows_redrawn w left new 0 c.args.rows c.args.self.now.hand in
    let added = c.in_ok-draw_row.ensures.ok in
    record {
      same = rows_step w left new c.loop-row.row c.args.rows c.loop-row.self c.draw_row.new.self c.args.self.now (string_bytes c.loop-row.out) (string_bytes c.draw_row.new.out) (string_bytes c.args.out.now) all
          c.loop-row-test.true c.loop-row.invariant.same added;
      held = c.in_ok-draw_row.ensures.held;
      extends = extends_more (string_bytes c.args.out.now) (string_bytes c.loop-row.out) (string_bytes c.draw_row.new.out)
          (terse_batch (row_redrawn w left new c.loop-row.row c.loop-row.self.hand).changes c.loop-row.self.encoder).bytes c.loop-row.invariant.extends added.bytes;
    }
