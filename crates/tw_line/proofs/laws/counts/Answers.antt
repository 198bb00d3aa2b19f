use Rattle.tw_line.proofs.CountLawLemmas as by
use Rattle.tw_line.proofs.laws.counts.Goals as goal

pub returns-clause-backward_char : goal.returns-clause-backward_char
returns-clause-backward_char c = by.backward_char

pub returns-clause-backward_word : goal.returns-clause-backward_word
returns-clause-backward_word c = by.backward_word

pub returns-clause-forward_char : goal.returns-clause-forward_char
returns-clause-forward_char c = by.forward_char

pub returns-clause-forward_word : goal.returns-clause-forward_word
returns-clause-forward_word c = by.forward_word
