use Rattle.tw_ansi.proofs.EqualityLemmas.{encoders_equal, scanned_equal, tokens_equal}
use Rattle.tw_ansi.proofs.laws.equality.Goals as goal

pub returns-clause-tokens : goal.returns-clause-tokens
returns-clause-tokens c = tokens_equal

pub returns-clause-scanned : goal.returns-clause-scanned
returns-clause-scanned c = scanned_equal

pub returns-clause-encoders : goal.returns-clause-encoders
returns-clause-encoders c = encoders_equal
