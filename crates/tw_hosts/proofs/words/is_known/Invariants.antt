-- No word so far is the one: it is known by the words that are left, or not at all.
use Rattle.std.proofs.Common.{◌≡◌, drop}
use Rattle.tw_hosts.specs.Words.{is_known, texts_of}
use Rattle.tw_hosts.proofs.words.is_known.Given as goal

abbrev pub invariant-loop-known : goal.invariant-loop-known
invariant-loop-known l = is_known (texts_of (drop l.known-index l.words)) l.word ≡ is_known (texts_of l.words) l.word
