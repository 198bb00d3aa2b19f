use Rattle.std.proofs.Common.{rules}
use Rattle.tw_lineedit.proofs.FeedingLemmas.{stays_if}
use Rattle.tw_lineedit.proofs.UseLemmas.{used_then}
use Rattle.tw_lineedit.proofs.editor.LineEditor+T.advance.Goals as goal

pub returns-clause-err : goal.returns-clause-err
returns-clause-err g c = stays_if g.H.LineEditorHost.rules g.H.LineEditorHost.OVERRIDES _ c.paint.result _ _ _ _ c.in_ok-handle.ensures.ok c.paint.ensures.err

pub returns-clause-terminal : goal.returns-clause-terminal
returns-clause-terminal g c = (search rules, used_then g.T.Terminal.follows _ _ _ c.in_ok-handle.ensures.terminal.1 c.paint.ensures.terminal.1)
