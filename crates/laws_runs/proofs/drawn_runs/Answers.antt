use Rattle.laws_runs.proofs.DrawnRunLemmas.{drawn_paintings, drawn_closings, drawn_calls_stack, drawn_healings, healed_closings}
use Rattle.laws_runs.proofs.drawn_runs.Goals as goal

pub returns-clause-painting : goal.returns-clause-painting
returns-clause-painting g c pen = drawn_paintings g.H.LineEditorHost.rules pen

pub returns-clause-closing : goal.returns-clause-closing
returns-clause-closing g c pen = drawn_closings g.H.LineEditorHost.rules pen

pub returns-clause-stacking : goal.returns-clause-stacking
returns-clause-stacking g c pen = drawn_calls_stack pen

pub returns-clause-healing : goal.returns-clause-healing
returns-clause-healing g c pen = drawn_healings g.H.LineEditorHost.rules pen

pub returns-clause-healed_closing : goal.returns-clause-healed_closing
returns-clause-healed_closing g c pen = healed_closings g.H.LineEditorHost.rules pen
