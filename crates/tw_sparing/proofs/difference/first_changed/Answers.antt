use Rattle.std.proofs.Common.{sym, ◌∙◌, arith}
use Rattle.tw_line.proofs.ExtremesLemmas.{least_from-is, least_from-none}
use Rattle.tw_sparing.specs.Differences.{differ_in}
use Rattle.tw_sparing.specs.Redrawings.{left_of}
use Rattle.tw_sparing.specs.Sending.{screen_cells}
use Rattle.tw_sparing.proofs.FoundColumns.{none_above}
use Rattle.tw_sparing.proofs.difference.first_changed.Goals as goal

pub returns-then-differ_at-clause-value : goal.returns-then-differ_at-clause-value
returns-then-differ_at-clause-value c =
    let p = differ_in (left_of c.args.old.now.width c.args.from (screen_cells c.args.old.now) c.args.row) (screen_cells c.args.new.now c.args.row) in
    sym (least_from-is p c.args.new.now.width 0 c.loop-col.col (omega arith) (omega (arith, c.loop-col-test.true, c.width-col-end.ensures.value)) (sym c.differ_at.ensures ∙ c.if-differ_at.true) c.loop-col.invariant)

pub loop-col-preserved : goal.loop-col-preserved
loop-col-preserved c =
    let p = differ_in (left_of c.args.old.now.width c.args.from (screen_cells c.args.old.now) c.args.row) (screen_cells c.args.new.now c.args.row) in
    none_above p 0 c.loop-col.col c.loop-col.invariant (sym c.differ_at.ensures ∙ c.if-differ_at.false)

pub returns-clause-value : goal.returns-clause-value
returns-clause-value c =
    let p = differ_in (left_of c.args.old.now.width c.args.from (screen_cells c.args.old.now) c.args.row) (screen_cells c.args.new.now c.args.row) in
    sym (least_from-none p c.args.new.now.width 0 (λ k low high. c.loop-col.invariant k low (omega (arith, high, c.loop-col-test.false, c.width-col-end.ensures.value))))
