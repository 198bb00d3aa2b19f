-- What was read, and what is left to be read, are all lines; so are the texts that are lost.
use Rattle.std.proofs.Common.{◌≡◌, ◌++◌, ◌+◌, ◌≤◌, length, map, string_bytes}
use Rattle.tw_history_parts.specs.HistoryFile.{lines_in, lost_lines}
use Rattle.tw_history_parts.proofs.file.read_lines.Given as goal

abbrev pub invariant-loop-text : goal.invariant-loop-text
invariant-loop-text l = record {
  read : map string_bytes l.lines.items ++ lines_in l.rest ≡ lines_in l.bytes;
  lost : l.lost + lost_lines l.rest ≡ lost_lines l.bytes;
  few : l.lost + length l.rest ≤ length l.bytes;
}

abbrev pub decreases-loop-text : goal.decreases-loop-text
decreases-loop-text l = length l.rest
