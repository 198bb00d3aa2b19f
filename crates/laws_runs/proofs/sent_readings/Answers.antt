use Rattle.laws_runs.proofs.ReadingLemmas.{readings_are_sent}
use Rattle.laws_runs.proofs.sent_readings.Goals as goal

pub returns : goal.returns
returns g c = readings_are_sent g.H.LineEditorHost.rules g.W.Write.contents
