use Rattle.laws_runs.proofs.DrawnRunLemmas.{calls_stack}
use Rattle.laws_runs.proofs.stacking.Goals as goal

pub returns : goal.returns
returns g c = calls_stack g.H.LineEditorHost.rules
