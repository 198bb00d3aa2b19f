use Rattle.std.proofs.Common.{ℕ, List, option_map, Bor}
use Rattle.tw_lineedit.proofs.ScreenRunLemmas.{run_shows}
use Rattle.tw_lineedit.proofs.ShownLemmas.{shows_call}
use Rattle.tw_lineedit.proofs.StopsLemmas.{stops_call}
use Rattle.tw_lineedit.proofs.editor.LineEditor+T.read_line_with_optional_initial_value.Goals as goal
use Rattle.tw_lineedit.specs.Frame.{frame}

pub returns-clause-shows : goal.returns-clause-shows
returns-clause-shows g c = λ inactive. shows_call g.H.LineEditorHost.rules g.H.LineEditorHost.OVERRIDES (option_map {T = Bor (List ℕ)} {U = List ℕ} (λ s. s.now) c.args.initial_value) (frame g.T.Terminal.state g.H.LineEditorHost.value c.args.self.now c.args.host.now) _ _ c.read.result c.read.ensures.ok c.read.ensures.err

pub returns-clause-stopped : goal.returns-clause-stopped
returns-clause-stopped g c = λ inactive. stops_call g.H.LineEditorHost.rules g.H.LineEditorHost.OVERRIDES (option_map {T = Bor (List ℕ)} {U = List ℕ} (λ s. s.now) c.args.initial_value) (frame g.T.Terminal.state g.H.LineEditorHost.value c.args.self.now c.args.host.now) _ c.read.result c.read.ensures.err

pub returns-clause-run : goal.returns-clause-run
returns-clause-run g c = run_shows g.H.LineEditorHost.rules _

pub returns-then-not-is_inactive-clause-run : goal.returns-then-not-is_inactive-clause-run
returns-then-not-is_inactive-clause-run g c = run_shows g.H.LineEditorHost.rules _
