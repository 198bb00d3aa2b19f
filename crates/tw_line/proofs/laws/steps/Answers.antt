use Rattle.tw_line.proofs.StepLawLemmas.{offsets_are_extremes, words_are_extremes}
use Rattle.tw_line.proofs.laws.steps.Goals as goal

pub returns-clause-offsets : goal.returns-clause-offsets
returns-clause-offsets c = offsets_are_extremes

pub returns-clause-words : goal.returns-clause-words
returns-clause-words c = words_are_extremes
