use Rattle.std.proofs.Common.{sym, ◌∙◌, arith}
use Rattle.tw_line.proofs.ExtremesLemmas.{repeated_stays, repeated_once, repeated_none}
use Rattle.tw_line.proofs.movements.steps_from.Goals as goal

pub returns-then-next-at-clause-value : goal.returns-then-next-at-clause-value
returns-then-next-at-clause-value c =
    sym (repeated_stays _ _ c.loop-round.at (sym c.step_from-next.ensures.value ∙ c.if-next-at.true)) ∙ c.loop-round.invariant.rest

pub loop-round-preserved : goal.loop-round-preserved
loop-round-preserved c = record {
  boundary = c.step_from-next.ensures.boundary;
  rest = repeated_once _ c.args.count c.loop-round._round c.loop-round.at _ c.loop-round-test.true c.step_from-next.ensures.value ∙ c.loop-round.invariant.rest;
}

pub returns-clause-value : goal.returns-clause-value
returns-clause-value c = sym (repeated_none _ _ c.loop-round.at (omega arith)) ∙ c.loop-round.invariant.rest
