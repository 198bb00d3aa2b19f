use Rattle.std.proofs.Common.{rules}
use Rattle.tw_session.specs.Completion.{FailsToAdvance}
use Rattle.tw_session.proofs.AdvanceLemmas.{advances, fails_to_advance}
use Rattle.tw_session.proofs.session.completion.Cycle.advance.Goals as goal

pub returns-in_err-line-clause-err : goal.returns-in_err-line-clause-err
returns-in_err-line-clause-err c =
    let misfit = c.in_err-line.ensures in
    let fails : FailsToAdvance c.args.self.now c.args.self.now c.in_err-line.field-0.0 =
    rw (← c.self.view_is) (fails_to_advance c.self.inside.candidates.items c.self.inside.index _ c.self.inside.original c.index.result.now c.self.invariant (search rules) c.index.ensures _ misfit.err) in
    search (rules, fails, c.from_residual.ensures)

pub returns-clause-ok : goal.returns-clause-ok
returns-clause-ok c =
    let fits = c.in_ok-line.ensures in
    rw (← c.self.view_is) (advances c.self.inside.candidates.items c.self.inside.index _ c.self.inside.original c.index.result.now c.self.invariant (search rules) c.index.ensures _ fits.ok)
