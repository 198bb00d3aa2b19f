use Rattle.std.proofs.Common.{◌≡◌, length}
use Rattle.tw_terminal.specs.Uses.{IsUsed}
use Rattle.tw_lineedit.specs.Frame.{frame}
use Rattle.tw_lineedit.specs.Feeding.{Follows}
use Rattle.tw_lineedit.proofs.editor.LineEditor+T.run_to_end.Given as goal

abbrev pub invariant-loop : goal.invariant-loop
invariant-loop g l = record {
  same_reference : l.self.terminal.ghost_name ≡ l.fn.self.terminal.ghost_name;
  follows : Follows g.H.LineEditorHost.rules g.H.LineEditorHost.OVERRIDES (frame g.T.Terminal.state g.H.LineEditorHost.value l.fn.self l.fn.host) (frame g.T.Terminal.state g.H.LineEditorHost.value l.self l.host);
  used : IsUsed g.T.Terminal.follows l.fn.self.terminal.now l.self.terminal.now;
}

abbrev pub decreases-loop : goal.decreases-loop
decreases-loop g l = length (g.T.Terminal.state l.self.terminal.now).events
