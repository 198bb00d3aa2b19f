-- What was understood, and what is left stands for.
use Rattle.std.proofs.Common.{◌≡◌, ◌++◌, length}
use Rattle.std.specs.Prelude.{option_map}
use Rattle.tw_history_parts.specs.HistoryFile.{unescaped}
use Rattle.tw_history_parts.proofs.file.unescape.Given as goal

abbrev pub invariant-loop-byte : goal.invariant-loop-byte
invariant-loop-byte l = option_map (λ more. l.bytes.items ++ more) (unescaped l.rest) ≡ unescaped l.text

abbrev pub decreases-loop-byte : goal.decreases-loop-byte
decreases-loop-byte l = length l.rest
