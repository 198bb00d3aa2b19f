use Rattle.laws_prompt.proofs.SettledCursorLemmas.{settled_stands_on, settled_stands_on_blank}
use Rattle.laws_prompt.proofs.cursors.Goals as goal

pub returns-clause-cell : goal.returns-clause-cell
returns-clause-cell g c pen = settled_stands_on g.H.LineEditorHost.rules pen

pub returns-clause-blank : goal.returns-clause-blank
returns-clause-blank g c pen = settled_stands_on_blank g.H.LineEditorHost.rules pen
