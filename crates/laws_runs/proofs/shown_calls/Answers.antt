use Rattle.std.proofs.Common.{ℕ, List, Option}
use Rattle.laws_runs.proofs.DrawnRunLemmas.{paints_nothing}
use Rattle.laws_runs.proofs.shown_calls.Goals as goal

pub returns : goal.returns
returns g c = paints_nothing g.H.LineEditorHost.rules (Option (List ℕ))
