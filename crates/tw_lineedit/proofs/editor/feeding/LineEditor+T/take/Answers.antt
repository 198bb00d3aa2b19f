use Rattle.std.proofs.Common.{rules}
use Rattle.tw_lineedit.proofs.ClosingLemmas.{gives_up_with}
use Rattle.tw_lineedit.proofs.FeedingLemmas.{fed, fed_given_up}
use Rattle.tw_lineedit.proofs.UseLemmas.{used_then}
use Rattle.tw_lineedit.proofs.editor.feeding.LineEditor+T.take.Goals as goal
use Rattle.tw_lineedit.specs.Frame.{frame}

pub returns-in-Ok-clause-ok : goal.returns-in-Ok-clause-ok
returns-in-Ok-clause-ok g c = fed g.H.LineEditorHost.rules g.H.LineEditorHost.OVERRIDES _ _ _ c.requires.told c.requires.open c.in-Ok.ensures.ok

pub returns-in-Err-clause-err : goal.returns-in-Err-clause-err
returns-in-Err-clause-err g c = fed_given_up g.H.LineEditorHost.rules g.H.LineEditorHost.OVERRIDES _ (frame g.T.Terminal.state g.H.LineEditorHost.value c.args.self.now c.args.host.now) _ _ c.in-Err.refusal c.give_up.result c.requires.told c.in-Err.ensures.err (gives_up_with (g.H.LineEditorHost.value c.advance.new.host) c.in-Err.refusal _ _ c.give_up.result c.give_up.ensures.gives_up)

pub returns-in-Err-clause-terminal : goal.returns-in-Err-clause-terminal
returns-in-Err-clause-terminal g c = (search rules, used_then g.T.Terminal.follows _ _ _ c.in-Err.ensures.terminal.1 c.give_up.ensures.terminal.1)
