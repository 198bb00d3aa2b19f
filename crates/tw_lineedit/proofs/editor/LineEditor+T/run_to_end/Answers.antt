use Rattle.std.proofs.Common.{refl, rules}
use Rattle.std.proofs.lemmas.Result.{err_from_is_err_and}
use Rattle.tw_lineedit.proofs.TurnLemmas.{turned_down_later, not_copied, ended_later}
use Rattle.tw_lineedit.proofs.UseLemmas.{used_then}
use Rattle.tw_lineedit.proofs.editor.LineEditor+T.run_to_end.Goals as goal
use Rattle.tw_lineedit.specs.Frame.{frame}

pub returns-in_err-turn-clause-err : goal.returns-in_err-turn-clause-err
returns-in_err-turn-clause-err g c =
    let p = err_from_is_err_and c.from_residual.result c.from_residual.ensures.1 in
    rw (p.1, p.2)
    (turned_down_later g.H.LineEditorHost.rules g.H.LineEditorHost.OVERRIDES (frame g.T.Terminal.state g.H.LineEditorHost.value c.args.self.now c.args.host.now) (frame g.T.Terminal.state g.H.LineEditorHost.value c.loop.self c.loop.host) (frame g.T.Terminal.state g.H.LineEditorHost.value c.turn.new.self c.turn.new.host)
    c.in_err-turn.field-0.0 c.loop.invariant.follows c.in_err-turn.ensures.err)

pub returns-in_err-answer-clause-err : goal.returns-in_err-answer-clause-err
returns-in_err-answer-clause-err g c =
    let p = err_from_is_err_and c.from_residual-in_err-answer.result c.from_residual-in_err-answer.ensures.1 in
    rw (p.1, p.2)
    (not_copied g.H.LineEditorHost.rules g.H.LineEditorHost.OVERRIDES (frame g.T.Terminal.state g.H.LineEditorHost.value c.args.self.now c.args.host.now)
    (frame g.T.Terminal.state g.H.LineEditorHost.value c.turn.new.self c.turn.new.host) _ c.in_err-answer.field-0.0
    (ended_later g.H.LineEditorHost.rules g.H.LineEditorHost.OVERRIDES _ _ _ c.loop.invariant.follows (rw c.if-branch.false at c.in_ok-turn.ensures.ok)) refl c.in_err-answer.ensures.err)

pub returns-in_err-answer-clause-terminal : goal.returns-in_err-answer-clause-terminal
returns-in_err-answer-clause-terminal g c = (search rules, used_then g.T.Terminal.follows _ _ _ c.loop.invariant.used c.in_ok-turn.ensures.terminal.1)

pub loop-preserved : goal.loop-preserved
loop-preserved g c = record {
  same_reference = search rules;
  follows = search rules;
  used = used_then g.T.Terminal.follows _ _ _ c.loop.invariant.used c.turn.ensures.terminal.1;
}

pub returns-in_err-turn-clause-terminal : goal.returns-in_err-turn-clause-terminal
returns-in_err-turn-clause-terminal g c = (search rules, used_then g.T.Terminal.follows _ _ _ c.loop.invariant.used c.in_err-turn.ensures.terminal.1)

pub returns-clause-terminal : goal.returns-clause-terminal
returns-clause-terminal g c = (search rules, used_then g.T.Terminal.follows _ _ _ c.loop.invariant.used c.in_ok-turn.ensures.terminal.1)
