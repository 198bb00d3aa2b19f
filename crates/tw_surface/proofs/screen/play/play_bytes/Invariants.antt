use Rattle.std.proofs.Common.{◌≡◌, ◌<◌, ◌≤◌, ◌+◌, ◌-◌, ◌*◌, All, drop, length, vec_len, vec_capacity}
use Rattle.tw_surface.specs.Pictures.{play_text}
use Rattle.tw_surface.specs.Cells.{picture_of, reach_of, IsSparse}
use Rattle.tw_surface.proofs.screen.play.play_bytes.Given as goal

abbrev pub decreases-loop-at : goal.decreases-loop-at
decreases-loop-at l = length l.text - l.at

-- the rest of the text leads where the whole text leads, and has room
abbrev pub invariant-loop-at : goal.invariant-loop-at
invariant-loop-at l = record {
  in_range : l.at ≤ length l.text;
  ends : play_text l.width (drop l.at l.text) (picture_of l.width l.near l.far.items l.row l.col) ≡ play_text l.width l.text (picture_of l.width l.fn.near l.fn.far.items l.start_row l.start_col);
  room : length l.near < l.row * l.width + l.col + reach_of l.width (drop l.at l.text) → vec_len l.far + length (drop l.at l.text) ≤ vec_capacity l.far;
  col : l.col ≤ l.width;
  ascii : All (λ b. b < 128) l.near;
  sparse : IsSparse l.width (length l.near) l.far.items;
}
