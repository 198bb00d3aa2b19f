use Rattle.std.proofs.Common.{◌-◌, is_none, ap, sym, ◌∙◌, arith}
use Rattle.tw_line.proofs.ExtremesLemmas.{least_from-is, least_from-none}
use Rattle.tw_sparing.specs.Redrawings.{ends_blank}
use Rattle.tw_sparing.specs.Sending.{screen_cells}
use Rattle.tw_sparing.proofs.FoundColumns.{none_above}
use Rattle.tw_sparing.proofs.difference.are_full.Goals as goal

pub returns-then-ends_blank : goal.returns-then-ends_blank
returns-then-ends_blank c =
    let p = ends_blank c.args.screen.now.width (screen_cells c.args.screen.now) in
    sym (ap is_none (least_from-is p (c.args.to - c.args.from) c.args.from c.loop-row.row c.loop-row.auto.row (omega (arith, c.loop-row-test.true, c.loop-row.auto.row))
    (sym c.ends_blank.ensures ∙ c.if-ends_blank.true) c.loop-row.invariant))

pub loop-row-preserved : goal.loop-row-preserved
loop-row-preserved c =
    let p = ends_blank c.args.screen.now.width (screen_cells c.args.screen.now) in
    none_above p c.args.from c.loop-row.row c.loop-row.invariant (sym c.ends_blank.ensures ∙ c.if-ends_blank.false)

pub returns : goal.returns
returns c =
    let p = ends_blank c.args.screen.now.width (screen_cells c.args.screen.now) in
    sym (ap is_none (least_from-none p (c.args.to - c.args.from) c.args.from (λ k low high. c.loop-row.invariant k low (omega (arith, low, high, c.loop-row-test.false)))))
