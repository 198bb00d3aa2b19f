-- The newest line up to the first index that is the same is that up to this one.
use Rattle.std.proofs.Common.{◌≡◌}
use Rattle.tw_key_parts.specs.EditedLines.{newest_up_to}
use Rattle.tw_key_parts.proofs.edited_lines.newest_up_to.Given as goal

abbrev pub invariant-loop-index : goal.invariant-loop-index
invariant-loop-index g l = let lines = g.L.History.lines l.lines in newest_up_to lines l.line l.from ≡ newest_up_to lines l.line l.index
