use Rattle.std.proofs.Common.{◌<◌, ◌-◌, ◌/◌, arith, string_bytes}
use Rattle.std.proofs.Math.Nat.{div-lt_iff_lt-mul}
use Rattle.tw_ansi.specs.Encoding.{terse_batch}
use Rattle.tw_sparing.specs.Redrawings.{cell_redrawn, cells_redrawn}
use Rattle.tw_sparing.specs.Sending.{screen_cells}
use Rattle.tw_sparing.proofs.AddedChanges.{cells_step, extends_more}
use Rattle.tw_sparing.proofs.redrawer.Redrawer.write_cells.Goals as goal

pub loop-index-preserved : goal.loop-index-preserved
loop-index-preserved c =
    let w = c.args.screen.now.width in
    let cells = screen_cells c.args.screen.now in
    let all = cells_redrawn w cells c.args.from (c.args.to - c.args.from) c.args.self.now.hand in
    let added = c.in_ok-write_cell.ensures.ok in
    let wide : 0 < w = omega (arith, c.loop-index-test.true, c.requires.to) in
    let low : c.loop-index.index / w < 4294967296 = (div-lt_iff_lt-mul wide).1 (omega (arith, c.loop-index-test.true, c.requires.to)) in
    record {
      same = cells_step w c.loop-index.index c.args.to cells c.loop-index.self c.write_cell.new.self c.args.self.now (string_bytes c.loop-index.out) (string_bytes c.write_cell.new.out) (string_bytes c.args.out.now) all
          c.loop-index-test.true c.loop-index.invariant.same added;
      held = omega (arith, c.in_ok-write_cell.ensures.row, low);
      low = omega (arith, c.loop-index.invariant.low);
      extends = extends_more (string_bytes c.args.out.now) (string_bytes c.loop-index.out) (string_bytes c.write_cell.new.out)
          (terse_batch (cell_redrawn w cells c.loop-index.index c.loop-index.self.hand).changes c.loop-index.self.encoder).bytes c.loop-index.invariant.extends added.bytes;
    }
