use Rattle.laws_runs.proofs.SentRunLemmas.{closings_are_shown, healed_closings_are_shown, healings_are_shown, paintings_are_shown}
use Rattle.laws_runs.proofs.sent_runs.Goals as goal

pub returns-clause-paintings : goal.returns-clause-paintings
returns-clause-paintings g c = λ pen. paintings_are_shown pen g.H.LineEditorHost.rules

pub returns-clause-closings : goal.returns-clause-closings
returns-clause-closings g c = λ pen. closings_are_shown pen g.H.LineEditorHost.rules

pub returns-clause-healings : goal.returns-clause-healings
returns-clause-healings g c = λ pen. healings_are_shown pen g.H.LineEditorHost.rules

pub returns-clause-healed_closings : goal.returns-clause-healed_closings
returns-clause-healed_closings g c = λ pen. healed_closings_are_shown pen g.H.LineEditorHost.rules
