use Rattle.std.proofs.Common.{refl}
use Rattle.std.proofs.lemmas.Result.{err_from_is_err_and}
use Rattle.tw_session.specs.declared.error.Error.TheVariants.{Memory}
use Rattle.tw_lineedit.proofs.ClosingLemmas.{finish_unclosed, finish_given_up}
use Rattle.tw_lineedit.proofs.editor.feeding.LineEditor+T.end_line.Goals as goal
use Rattle.tw_lineedit.specs.Frame.{own_frame}

pub returns-in_err-close-in-Ok-clause-err : goal.returns-in_err-close-in-Ok-clause-err
returns-in_err-close-in-Ok-clause-err g c =
    let p = err_from_is_err_and c.from_residual.result c.from_residual.ensures.1 in
    rw (p.1, p.2)
    (finish_unclosed (own_frame g.T.Terminal.state c.args.self.now) _ _ c.in_err-close-in-Ok.field-0.0 refl c.in_err-close-in-Ok.ensures.err)

pub returns-in-Err-clause-err : goal.returns-in-Err-clause-err
returns-in-Err-clause-err g c = finish_given_up (own_frame g.T.Terminal.state c.args.self.now) _ _ (Memory c.in-Err.refusal) c.give_up.result refl tt c.in-Err.ensures.err c.give_up.ensures.gives_up
