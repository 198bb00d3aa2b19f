use Rattle.std.proofs.Common.{◌≡◌, ℕ, ◌<◌, ◌≤◌, length, get_or}
use Rattle.tw_surface.specs.Pictures.{blank}
use Rattle.tw_surface.proofs.screen.near.trim.Given as goal

abbrev pub decreases-loop-end : goal.decreases-loop-end
decreases-loop-end l = l.end

-- what was passed is blank
abbrev pub invariant-loop-end : goal.invariant-loop-end
invariant-loop-end l = record {
  in_range : l.end ≤ length l.near.items;
  blanks : (k : ℕ) → l.end ≤ k → k < length l.near.items → get_or l.near.items k 0 ≡ blank;
}
