-- What comes of the lines that are left comes of all lines.
use Rattle.std.proofs.Common.{drop, map, string_bytes}
use Rattle.tw_history_parts.proofs.ReadingLemmas.{Passes}
use Rattle.tw_history_parts.proofs.file.add_lines.Given as goal

abbrev pub invariant-loop-line : goal.invariant-loop-line
invariant-loop-line g l = Passes g.L.History.lines g.L.History.add_gives (map string_bytes l.lines) (map string_bytes (drop l.line-index l.lines)) l.fn.history l.history
