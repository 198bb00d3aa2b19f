use Rattle.std.proofs.Common.{◌≡◌, ◌-◌, ◌≤◌, length}
use Rattle.tw_line.specs.Words.{kind_from}
use Rattle.tw_line.specs.Text.{chars_of}
use Rattle.tw_line.proofs.words.find_from.Given as goal

abbrev pub invariant-loop-index : goal.invariant-loop-index
invariant-loop-index l = record {
  within : l.index ≤ length (chars_of l.line);
  rest : kind_from l.space (chars_of l.line) l.index ≡ kind_from l.space (chars_of l.line) l.start;
}

abbrev pub decreases-loop-index : goal.decreases-loop-index
decreases-loop-index l = length (chars_of l.line) - l.index
