use Rattle.std.proofs.Common.{ℕ, List, option_map, Bor, rules}
use Rattle.tw_lineedit.proofs.ClosingLemmas.{begun_given_up, gives_up_with}
use Rattle.tw_lineedit.proofs.UseLemmas.{used_then}
use Rattle.tw_lineedit.proofs.editor.feeding.LineEditor+T.open.Goals as goal
use Rattle.tw_lineedit.specs.Frame.{frame}

pub returns-in-Err-clause-err : goal.returns-in-Err-clause-err
returns-in-Err-clause-err g c = begun_given_up g.H.LineEditorHost.rules (option_map {T = Bor (List ℕ)} {U = List ℕ} (λ s. s.now) c.args.initial) (frame g.T.Terminal.state g.H.LineEditorHost.value c.args.self.now c.args.host.now) _ _ c.in-Err.refusal c.give_up.result c.in-Err.ensures.err (gives_up_with (g.H.LineEditorHost.value c.args.host.now) c.in-Err.refusal _ _ c.give_up.result c.give_up.ensures.gives_up)

pub returns-in-Err-clause-terminal : goal.returns-in-Err-clause-terminal
returns-in-Err-clause-terminal g c = (search rules, used_then g.T.Terminal.follows _ _ _ c.in-Err.ensures.terminal.1 c.give_up.ensures.terminal.1)
