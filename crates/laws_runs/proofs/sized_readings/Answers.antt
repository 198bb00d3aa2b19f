use Rattle.laws_runs.proofs.ReadingLemmas.{readings_are_sized, since_is_sent, since_is_sent_whole}
use Rattle.laws_runs.proofs.sized_readings.Goals as goal

pub returns-clause-sized : goal.returns-clause-sized
returns-clause-sized g c = readings_are_sized g.H.LineEditorHost.rules g.W.Write.contents

pub returns-clause-since : goal.returns-clause-since
returns-clause-since g c = since_is_sent g.H.LineEditorHost.rules g.W.Write.contents

pub returns-clause-whole : goal.returns-clause-whole
returns-clause-whole g c = since_is_sent_whole g.H.LineEditorHost.rules g.W.Write.contents
