use Rattle.std.proofs.Common.{refl}
use Rattle.tw_terminal.specs.Uses.Call.{Refused}
use Rattle.tw_lineedit.proofs.UseLemmas.{used_once}
use Rattle.tw_lineedit.proofs.editor.LineEditor+T.apply_action.Goals as goal

pub returns-in_err-render-in-Repaint-clause-terminal : goal.returns-in_err-render-in-Repaint-clause-terminal
returns-in_err-render-in-Repaint-clause-terminal g c = (refl, used_once g.T.Terminal.follows Refused _ _ c.in_err-render-in-Repaint.ensures.refused)

pub returns-in_ok-render-in-Repaint-clause-terminal : goal.returns-in_ok-render-in-Repaint-clause-terminal
returns-in_ok-render-in-Repaint-clause-terminal g c = (refl, used_once g.T.Terminal.follows _ _ _ c.in_ok-render-in-Repaint.ensures.took)
