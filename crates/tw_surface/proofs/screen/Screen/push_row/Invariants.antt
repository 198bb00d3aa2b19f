use Rattle.std.proofs.Common.{◌≡◌, ◌+◌, ◌-◌, ◌≤◌, ◌++◌}
use Rattle.std.specs.Prelude.{string_bytes, string_len, string_capacity}
use Rattle.tw_surface.specs.Cells.{picture, row_of}
use Rattle.tw_surface.proofs.screen.Screen.push_row.Given as goal

-- the characters before the column are there, and room for the others
abbrev pub invariant-loop-col : goal.invariant-loop-col
invariant-loop-col l = record {
  bytes : string_bytes l.shown ≡ string_bytes l.fn.shown ++ row_of (picture l.self).cell l.row l.col;
  room : string_len l.shown + (l.cols - l.col) ≤ string_capacity l.shown;
  in_range : l.col ≤ l.end;
}
