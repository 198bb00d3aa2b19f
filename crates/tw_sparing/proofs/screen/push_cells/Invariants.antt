-- The cells so far and those that are left are those of the whole text, and there is room for the latter.
use Rattle.std.proofs.Common.{◌≡◌, ◌+◌, ◌-◌, ◌≤◌, List, ◌++◌, drop, length, map}
use Rattle.std.specs.Vec.{vec_capacity, vec_len}
use Rattle.tw_sparing.specs.declared.cell.ScreenCell.{ScreenCell}
use Rattle.tw_sparing.specs.StyledScreens.{cell_under}
use Rattle.tw_sparing.proofs.screen.push_cells.Given as goal

abbrev pub invariant-loop-byte : goal.invariant-loop-byte
invariant-loop-byte l =
    (done : List ScreenCell) × (l.cells.items ≡ l.fn.cells.items ++ done)
    × (done ++ map (cell_under l.attributes) (drop l.byte-index l.text) ≡ map (cell_under l.attributes) l.text)
    × (vec_len l.cells + (length l.text - l.byte-index) ≤ vec_capacity l.cells)
