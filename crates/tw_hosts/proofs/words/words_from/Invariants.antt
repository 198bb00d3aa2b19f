-- What was offered so far are the candidates among the words so far.
use Rattle.std.proofs.Common.{◌≡◌, map, take}
use Rattle.tw_host.specs.CandidateView.{candidate_view}
use Rattle.tw_hosts.specs.Words.{words_from, texts_of}
use Rattle.tw_hosts.proofs.words.words_from.Given as goal

abbrev pub invariant-loop-word : goal.invariant-loop-word
invariant-loop-word l =
    map candidate_view l.candidates.items ≡ words_from l.ignores_case (texts_of (take l.word-index l.words)) l.text l.cursor
