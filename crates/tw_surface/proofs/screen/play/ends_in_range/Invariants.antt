use Rattle.std.proofs.Common.{◌≡◌, ◌≤◌, drop}
use Rattle.tw_surface.specs.Pictures.{play_text}
use Rattle.tw_surface.specs.Pictures.{cursor_at}
use Rattle.tw_surface.proofs.screen.play.ends_in_range.Given as goal

-- the rest of the text ends in the row that the whole text ends in
abbrev pub invariant-loop-byte : goal.invariant-loop-byte
invariant-loop-byte l = record {
  ends : (play_text l.width (drop l.byte-index l.text) (cursor_at l.row l.col)).row ≡ (play_text l.width l.text (cursor_at l.start_row l.start_col)).row;
  row : l.row ≤ 4294967295;
  col : l.col ≤ l.width;
}
