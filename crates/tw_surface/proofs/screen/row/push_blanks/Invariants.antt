use Rattle.std.proofs.Common.{◌≡◌, ◌+◌, ◌-◌, ◌≤◌, ◌++◌, replicate}
use Rattle.std.specs.Prelude.{string_bytes, string_len, string_capacity}
use Rattle.tw_surface.specs.Pictures.{blank}
use Rattle.tw_surface.proofs.screen.row.push_blanks.Given as goal

abbrev pub decreases-loop-left : goal.decreases-loop-left
decreases-loop-left l = l.left

-- the blanks that are not left are there, and room for the others
abbrev pub invariant-loop-left : goal.invariant-loop-left
invariant-loop-left l = record {
  in_range : l.left ≤ l.count;
  bytes : string_bytes l.shown ≡ string_bytes l.fn.shown ++ replicate (l.count - l.left) blank;
  room : string_len l.shown + l.left ≤ string_capacity l.shown;
}
