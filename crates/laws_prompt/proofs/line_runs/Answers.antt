use Rattle.laws_prompt.proofs.LineRunLemmas.{lines_close_below, lines_stand_in_rows}
use Rattle.laws_prompt.proofs.line_runs.Goals as goal

pub returns-clause-standing : goal.returns-clause-standing
returns-clause-standing g c = lines_stand_in_rows g.H.LineEditorHost.rules

pub returns-clause-closing : goal.returns-clause-closing
returns-clause-closing g c = lines_close_below g.H.LineEditorHost.rules
