use Rattle.tw_ansi.proofs.laws.malformed.Goals as goal
use Rattle.tw_ansi.proofs.LostBytes.{waits_for_character}

pub returns-clause-waits : goal.returns-clause-waits
returns-clause-waits c = waits_for_character
