use Rattle.tw_lineedit.proofs.ScreenRunLemmas.{run_is_fresh, closes_below}
use Rattle.laws_runs.proofs.plain_runs.Goals as goal

pub returns-clause-painting : goal.returns-clause-painting
returns-clause-painting g c = run_is_fresh g.H.LineEditorHost.rules

pub returns-clause-closing_batch : goal.returns-clause-closing_batch
returns-clause-closing_batch g c = closes_below g.H.LineEditorHost.rules
