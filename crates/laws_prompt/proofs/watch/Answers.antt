use Rattle.laws_prompt.proofs.SearchRunLemmas.{off_behind_lines, tells_readings, tells_runs}
use Rattle.laws_prompt.proofs.watch.Goals as goal

pub returns-clause-runs : goal.returns-clause-runs
returns-clause-runs g c = tells_runs g.H.LineEditorHost.rules

pub returns-clause-readings : goal.returns-clause-readings
returns-clause-readings g c = tells_readings g.H.LineEditorHost.rules

pub returns-clause-off : goal.returns-clause-off
returns-clause-off g c = off_behind_lines g.H.LineEditorHost.rules
