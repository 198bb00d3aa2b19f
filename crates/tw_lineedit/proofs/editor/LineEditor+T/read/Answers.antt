use Rattle.std.proofs.Common.{ℕ, List, option_map, Bor, rules}
use Rattle.std.proofs.lemmas.Result.{err_from_is_err_and}
use Rattle.tw_lineedit.proofs.ClosingLemmas.{answered_unclosed, call_given_up, fails_with, gives_up_with}
use Rattle.tw_lineedit.proofs.UseLemmas.{used_then}
use Rattle.tw_lineedit.proofs.editor.LineEditor+T.read.Goals as goal
use Rattle.tw_lineedit.specs.Frame.{frame}

pub returns-in_err-close-in-Ok-clause-err : goal.returns-in_err-close-in-Ok-clause-err
returns-in_err-close-in-Ok-clause-err g c =
    let p = err_from_is_err_and c.from_residual.result c.from_residual.ensures.1 in
    rw (p.1, p.2)
    (answered_unclosed g.H.LineEditorHost.rules g.H.LineEditorHost.OVERRIDES (option_map {T = Bor (List ℕ)} {U = List ℕ} (λ s. s.now) c.args.initial) (frame g.T.Terminal.state g.H.LineEditorHost.value c.args.self.now c.args.host.now) _ _ _ c.in_err-close-in-Ok.field-0.0 c.in-Ok.ensures.ok (fails_with (g.H.LineEditorHost.value c.read_open.new.host) _ _ c.in_err-close-in-Ok.field-0.0 c.in_err-close-in-Ok.ensures.err))

pub returns-in-Err-clause-err : goal.returns-in-Err-clause-err
returns-in-Err-clause-err g c = call_given_up g.H.LineEditorHost.rules g.H.LineEditorHost.OVERRIDES (option_map {T = Bor (List ℕ)} {U = List ℕ} (λ s. s.now) c.args.initial) (frame g.T.Terminal.state g.H.LineEditorHost.value c.args.self.now c.args.host.now) _ _ c.in-Err.refusal c.give_up.result c.in-Err.ensures.err (gives_up_with (g.H.LineEditorHost.value c.read_open.new.host) c.in-Err.refusal _ _ c.give_up.result c.give_up.ensures.gives_up)

pub returns-in_err-close-in-Ok-clause-terminal : goal.returns-in_err-close-in-Ok-clause-terminal
returns-in_err-close-in-Ok-clause-terminal g c = (search rules, used_then g.T.Terminal.follows _ _ _ c.in-Ok.ensures.terminal.1 c.in_err-close-in-Ok.ensures.terminal.1)

pub returns-in_ok-close-in-Ok-clause-terminal : goal.returns-in_ok-close-in-Ok-clause-terminal
returns-in_ok-close-in-Ok-clause-terminal g c = (search rules, used_then g.T.Terminal.follows _ _ _ c.in-Ok.ensures.terminal.1 c.in_ok-close-in-Ok.ensures.terminal.1)

pub returns-in-Err-clause-terminal : goal.returns-in-Err-clause-terminal
returns-in-Err-clause-terminal g c = (search rules, used_then g.T.Terminal.follows _ _ _ c.in-Err.ensures.terminal.1 c.give_up.ensures.terminal.1)
