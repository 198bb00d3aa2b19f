-- What is written and what is left are all lines.
use Rattle.std.proofs.Common.{◌≡◌, ◌++◌, drop, map, string_bytes}
use Rattle.tw_history_parts.specs.HistoryFile.{written_lines}
use Rattle.tw_history_parts.proofs.recent.RecentHistory.written.Given as goal

abbrev pub invariant-loop-at : goal.invariant-loop-at
invariant-loop-at l = l.bytes.items ++ written_lines (map string_bytes (drop l.at l.self-inside.entries.items)) ≡ written_lines (map string_bytes l.self-inside.entries.items)
