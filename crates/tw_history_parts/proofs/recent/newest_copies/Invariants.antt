-- The lines from here on are walked: their newest copies are kept, and, until there is no room for more, seen.
use Rattle.std.proofs.Common.{◌≡◌, ◌<◌, ◌≤◌, ℕ, List, drop, length, map}
use Rattle.std.specs.HashSet.{contains_by}
use Rattle.std.specs.Str.{bytes_eq}
use Rattle.tw_history_parts.specs.Recent.{lines_of_entries, newest}
use Rattle.tw_history_parts.proofs.CopiesLemmas.{among, copies}
use Rattle.tw_history_parts.proofs.recent.newest_copies.Given as goal

abbrev pub invariant-loop-at : goal.invariant-loop-at
invariant-loop-at l = record {
  within : l.at ≤ length l.lines;
  kept : lines_of_entries l.kept.items ≡ newest l.limit (copies (map (λ line. line.now) (drop l.at l.lines)));
  seen : length l.kept.items < l.limit → (line : List ℕ) → contains_by (λ key. bytes_eq line key.now) l.seen ≡ among line (map (λ line. line.now) (drop l.at l.lines));
}

abbrev pub decreases-loop-at : goal.decreases-loop-at
decreases-loop-at l = l.at
