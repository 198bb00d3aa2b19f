use Rattle.tw_lineedit.proofs.StationLemmas.{tells_scenes}
use Rattle.tw_lineedit.proofs.laws.tells_scenes.Goals as goal

pub returns : goal.returns
returns g c = tells_scenes g.H.LineEditorHost.rules
