use Rattle.laws_prompt.proofs.SearchRunLemmas.{brings_found, completes_found}
use Rattle.laws_prompt.proofs.search_ends.Goals as goal

pub returns-clause-brought : goal.returns-clause-brought
returns-clause-brought g c = brings_found g.H.LineEditorHost.rules

pub returns-clause-completed : goal.returns-clause-completed
returns-clause-completed g c = completes_found g.H.LineEditorHost.rules
