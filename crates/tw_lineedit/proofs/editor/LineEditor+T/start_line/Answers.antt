use Rattle.std.proofs.Common.{ℕ, List, option_map, Bor, ap}
use Rattle.tw_lineedit.proofs.ClosingLemmas.{not_begun}
use Rattle.tw_lineedit.proofs.FeedingLemmas.{not_begun_if}
use Rattle.tw_lineedit.proofs.editor.LineEditor+T.start_line.Goals as goal
use Rattle.tw_lineedit.specs.Frame.{frame, with_value}

pub returns-in-Ok-clause-err : goal.returns-in-Ok-clause-err
returns-in-Ok-clause-err g c = not_begun_if g.H.LineEditorHost.rules _ c.paint.result (option_map {T = Bor (List ℕ)} {U = List ℕ} (λ s. s.now) c.args.initial) (frame g.T.Terminal.state g.H.LineEditorHost.value c.args.self.now c.args.host.now) _ _ (ap (with_value (g.H.LineEditorHost.value c.args.host.now)) c.in-Ok.ensures.ok) c.paint.ensures.err

pub returns-in-Err-clause-err : goal.returns-in-Err-clause-err
returns-in-Err-clause-err g c = not_begun g.H.LineEditorHost.rules (option_map {T = Bor (List ℕ)} {U = List ℕ} (λ s. s.now) c.args.initial) (frame g.T.Terminal.state g.H.LineEditorHost.value c.args.self.now c.args.host.now) (frame g.T.Terminal.state g.H.LineEditorHost.value c.begin.new.self c.args.host.now) (ap (with_value (g.H.LineEditorHost.value c.args.host.now)) c.in-Err.ensures.err) c.in-Err.ensures.initial
