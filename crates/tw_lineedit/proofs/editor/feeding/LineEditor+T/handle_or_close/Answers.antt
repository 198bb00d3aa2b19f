use Rattle.std.proofs.Common.{rules}
use Rattle.tw_lineedit.proofs.ClosingLemmas.{gives_up_with}
use Rattle.tw_lineedit.proofs.UseLemmas.{used_then}
use Rattle.tw_lineedit.proofs.editor.feeding.LineEditor+T.handle_or_close.Goals as goal

pub returns-in-Err-clause-err : goal.returns-in-Err-clause-err
returns-in-Err-clause-err g c = (_, c.in-Err.refusal, c.in-Err.ensures.err, gives_up_with (g.H.LineEditorHost.value c.handle.new.host) c.in-Err.refusal _ _ c.give_up.result c.give_up.ensures.gives_up)

pub returns-in-Err-clause-terminal : goal.returns-in-Err-clause-terminal
returns-in-Err-clause-terminal g c = (search rules, used_then g.T.Terminal.follows _ _ _ c.in-Err.ensures.terminal.1 c.give_up.ensures.terminal.1)
