use Rattle.std.proofs.Common.{◌≡◌, ◌+◌, ◌≤◌, length}
use Rattle.tw_line.specs.Words.{word_before}
use Rattle.tw_line.specs.Text.{chars_of}
use Rattle.tw_line.proofs.words.word_before.Given as goal

abbrev pub invariant-loop-start : goal.invariant-loop-start
invariant-loop-start l = record {
  within : l.start ≤ length (chars_of l.line);
  rest : word_before (chars_of l.line) (l.start + 1) ≡ word_before (chars_of l.line) l.index;
}

abbrev pub decreases-loop-start : goal.decreases-loop-start
decreases-loop-start l = l.start
