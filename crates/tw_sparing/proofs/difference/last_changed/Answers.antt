use Rattle.std.proofs.Common.{◌-◌, sym, ◌∙◌, arith}
use Rattle.tw_line.proofs.ExtremesLemmas.{greatest_below-is, greatest_below-none}
use Rattle.tw_sparing.specs.Differences.{differ_in}
use Rattle.tw_sparing.specs.Redrawings.{left_of}
use Rattle.tw_sparing.specs.Sending.{screen_cells}
use Rattle.tw_sparing.proofs.FoundColumns.{none_below}
use Rattle.tw_sparing.proofs.difference.last_changed.Goals as goal

pub returns-then-differ_at-clause-value : goal.returns-then-differ_at-clause-value
returns-then-differ_at-clause-value c =
    let p = differ_in (left_of c.args.old.now.width c.args.from (screen_cells c.args.old.now) c.args.row) (screen_cells c.args.new.now c.args.row) in
    let within = c.loop-end.invariant.0 in
    sym (greatest_below-is p c.args.new.now.width (c.loop-end.end - 1) (omega (arith, within, c.loop-end-test.true)) (sym c.differ_at.ensures ∙ c.if-differ_at.true)
    (λ k low high. c.loop-end.invariant.1 k (omega (arith, low)) high))

pub loop-end-preserved : goal.loop-end-preserved
loop-end-preserved c =
    let p = differ_in (left_of c.args.old.now.width c.args.from (screen_cells c.args.old.now) c.args.row) (screen_cells c.args.new.now c.args.row) in
    let within = c.loop-end.invariant.0 in
    (omega (arith, within), none_below p c.loop-end.end c.args.new.now.width c.loop-end.invariant.1 (sym c.differ_at.ensures ∙ c.if-differ_at.false))

pub returns-clause-value : goal.returns-clause-value
returns-clause-value c =
    let p = differ_in (left_of c.args.old.now.width c.args.from (screen_cells c.args.old.now) c.args.row) (screen_cells c.args.new.now c.args.row) in
    sym (greatest_below-none p c.args.new.now.width (λ k low high. c.loop-end.invariant.1 k (omega (arith, c.loop-end-test.false)) high))
