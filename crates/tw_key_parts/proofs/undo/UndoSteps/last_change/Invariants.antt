-- The last change is the last one below the index.
use Rattle.std.proofs.Common.{◌≡◌}
use Rattle.tw_line.specs.Extremes.{greatest_below}
use Rattle.tw_key_parts.specs.Undo.{differs_at, last_change}
use Rattle.tw_key_parts.proofs.undo.UndoSteps.last_change.Given as goal

abbrev pub invariant-loop-at : goal.invariant-loop-at
invariant-loop-at l = let before = l.self.before.items in last_change l.line.line before ≡ greatest_below (differs_at l.line.line before) l.at
