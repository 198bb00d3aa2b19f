use Rattle.std.proofs.Common.{◌≡◌, ◌≤◌, ◌-◌, true, length, take}
use Rattle.std.specs.List.{list_all}
use Rattle.tw_surface.specs.Characters.{is_printable}
use Rattle.tw_surface.proofs.screen.near.printable_run.Given as goal

abbrev pub decreases-loop-end : goal.decreases-loop-end
decreases-loop-end l = length l.text - l.end

-- what was passed is printable
abbrev pub invariant-loop-end : goal.invariant-loop-end
invariant-loop-end l = record {
  in_range : l.end ≤ length l.text;
  printable : list_all is_printable (take l.end l.text) ≡ true;
}
