use Rattle.tw_line.proofs.SearchLemmas.{first-finds, nearest_match-finds}
use Rattle.tw_line.proofs.laws.searches.Goals as goal

pub returns-clause-first : goal.returns-clause-first
returns-clause-first c = first-finds

pub returns-clause-nearest : goal.returns-clause-nearest
returns-clause-nearest c = nearest_match-finds
