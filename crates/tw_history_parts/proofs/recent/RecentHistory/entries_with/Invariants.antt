-- The texts so far, and those that are left, are all texts.
use Rattle.std.proofs.Common.{◌≡◌, ◌++◌, drop, map, string_bytes}
use Rattle.tw_history_parts.proofs.recent.RecentHistory.entries_with.Given as goal

abbrev pub invariant-loop-at : goal.invariant-loop-at
invariant-loop-at l = map (λ line. line.now) l.all.items ++ map string_bytes (drop l.at l.self-inside.entries.items) ≡ map string_bytes l.self-inside.entries.items

abbrev pub invariant-loop-line : goal.invariant-loop-line
invariant-loop-line l =
    map (λ line. line.now) l.all.items ++ map string_bytes (drop l.line-index l.lines) ≡ map string_bytes l.self-inside.entries.items ++ map string_bytes l.lines
