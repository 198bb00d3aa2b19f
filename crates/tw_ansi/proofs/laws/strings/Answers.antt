use Rattle.tw_ansi.proofs.StringLemmas.{ended_strings, cut_strings, open_strings}
use Rattle.tw_ansi.proofs.laws.strings.Goals as goal

pub returns-clause-ended : goal.returns-clause-ended
returns-clause-ended c = ended_strings

pub returns-clause-cut : goal.returns-clause-cut
returns-clause-cut c = cut_strings

pub returns-clause-open : goal.returns-clause-open
returns-clause-open c = open_strings
