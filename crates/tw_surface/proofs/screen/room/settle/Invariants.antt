use Rattle.std.proofs.Common.{◌≡◌, ◌<◌, ◌≤◌, All, drop, length, vec_capacity}
use Rattle.tw_surface.specs.Cells.{shown_at, IsSparse}
use Rattle.tw_surface.proofs.screen.room.settle.Given as goal

-- the cells that were passed are near, and show what they showed
abbrev pub invariant-loop-cell : goal.invariant-loop-cell
invariant-loop-cell l = record {
  shown : shown_at l.width l.near.items (drop l.cell-index l.cell-items) ≡ shown_at l.width l.fn.near.items l.cell-items;
  sparse : IsSparse l.width (length l.near.items) (drop l.cell-index l.cell-items);
  ascii : All (λ b. b < 128) l.near.items;
  capacity : vec_capacity l.fn.near ≤ vec_capacity l.near;
}
