use Rattle.tw_prompt.proofs.PlaceLemmas.{hooked_from}
use Rattle.tw_prompt.proofs.prompt.TerminalPlace.read_with.Goals as goal

pub returns-in-Ok-clause-ok : goal.returns-in-Ok-clause-ok
returns-in-Ok-clause-ok g c = record { read = hooked_from _ _ _ _ _ _ _ _ _ _ _ c.begin.ensures c.in-Ok.ensures.ok }
