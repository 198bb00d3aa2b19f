-- What is written and what is left are the whole line.
use Rattle.std.proofs.Common.{◌≡◌, ◌++◌, drop}
use Rattle.std.specs.List.{flat_map}
use Rattle.tw_history_parts.specs.HistoryFile.{escaped_byte}
use Rattle.tw_history_parts.proofs.file.written_line.Given as goal

abbrev pub invariant-loop-byte : goal.invariant-loop-byte
invariant-loop-byte l = l.written.items ++ flat_map escaped_byte (drop l.byte-index l.bytes) ≡ flat_map escaped_byte l.bytes
