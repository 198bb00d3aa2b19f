use Rattle.std.proofs.Common.{◌*◌, sym, ◌∙◌, arith}
use Rattle.tw_sparing.specs.Differences.{is_used}
use Rattle.tw_sparing.specs.Sending.{screen_cells}
use Rattle.tw_sparing.proofs.FoundColumns.{none_below, ends_behind, ends_nowhere}
use Rattle.tw_sparing.proofs.difference.end_of.Goals as goal

pub returns-then-is_used-clause-value : goal.returns-then-is_used-clause-value
returns-then-is_used-clause-value c =
    ends_behind c.args.screen.now.width c.args.rows c.loop-end.end (screen_cells c.args.screen.now) (omega (arith, c.loop-end-test.true)) c.loop-end.invariant.0 (sym c.is_used.ensures ∙ c.if-is_used.true) c.loop-end.invariant.1

pub loop-end-preserved : goal.loop-end-preserved
loop-end-preserved c =
    let within = c.loop-end.invariant.0 in
    (omega (arith, within), none_below (is_used c.args.screen.now.width (screen_cells c.args.screen.now)) c.loop-end.end (c.args.rows * c.args.screen.now.width) c.loop-end.invariant.1 (sym c.is_used.ensures ∙ c.if-is_used.false))

pub returns-clause-value : goal.returns-clause-value
returns-clause-value c = ends_nowhere c.args.screen.now.width c.args.rows c.loop-end.end (screen_cells c.args.screen.now) (omega (arith, c.loop-end-test.false)) c.loop-end.invariant.1
