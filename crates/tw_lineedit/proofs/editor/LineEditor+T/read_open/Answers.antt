use Rattle.std.proofs.Common.{ℕ, List, option_map, Bor, rules}
use Rattle.std.proofs.lemmas.Result.{IfErr-weaker, err_from_is_err_and}
use Rattle.tw_lineedit.proofs.FeedingLemmas.{turned_down}
use Rattle.tw_lineedit.proofs.TurnLemmas.{refused_begun}
use Rattle.tw_lineedit.proofs.UseLemmas.{used_then}
use Rattle.tw_lineedit.proofs.editor.LineEditor+T.read_open.Goals as goal
use Rattle.tw_lineedit.specs.Frame.{frame}

pub returns-in_err-start_line-clause-err : goal.returns-in_err-start_line-clause-err
returns-in_err-start_line-clause-err g c =
    let p = err_from_is_err_and c.from_residual.result c.from_residual.ensures.1 in
    rw (p.1, p.2)
    (turned_down g.H.LineEditorHost.rules g.H.LineEditorHost.OVERRIDES (option_map {T = Bor (List ℕ)} {U = List ℕ} (λ s. s.now) c.args.initial) (frame g.T.Terminal.state g.H.LineEditorHost.value c.args.self.now c.args.host.now) _ c.in_err-start_line.field-0.0 c.in_err-start_line.ensures.err)

pub returns-clause-err : goal.returns-clause-err
returns-clause-err g c = IfErr-weaker c.run_to_end.result _ _ (refused_begun g.H.LineEditorHost.rules g.H.LineEditorHost.OVERRIDES (option_map {T = Bor (List ℕ)} {U = List ℕ} (λ s. s.now) c.args.initial) (frame g.T.Terminal.state g.H.LineEditorHost.value c.args.self.now c.args.host.now) _ _ c.in_ok-start_line.ensures.ok) c.run_to_end.ensures.err

pub returns-clause-terminal : goal.returns-clause-terminal
returns-clause-terminal g c = (search rules, used_then g.T.Terminal.follows _ _ _ c.in_ok-start_line.ensures.terminal.1 c.run_to_end.ensures.terminal.1)
