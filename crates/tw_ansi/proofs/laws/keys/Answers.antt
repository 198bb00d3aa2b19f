use Rattle.tw_ansi.proofs.StringLemmas.{alt_openings}
use Rattle.tw_ansi.proofs.laws.keys.Goals as goal

pub returns-clause-alt_openings : goal.returns-clause-alt_openings
returns-clause-alt_openings c = alt_openings
