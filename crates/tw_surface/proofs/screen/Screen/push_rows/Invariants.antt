use Rattle.std.proofs.Common.{◌≡◌, ◌++◌}
use Rattle.std.specs.Prelude.{string_bytes}
use Rattle.std.specs.Slice.Iter.{chunks_exact_rest, chunks_exact_size}
use Rattle.tw_surface.specs.Cells.{ended_rows, picture}
use Rattle.tw_surface.proofs.NearCells.{AreLeft}
use Rattle.tw_surface.proofs.screen.Screen.push_rows.Given as goal

-- the rows before this one are there
abbrev pub invariant-loop-row : goal.invariant-loop-row
invariant-loop-row l = record {
  bytes : string_bytes l.shown ≡ string_bytes l.fn.shown ++ ended_rows (picture l.self).cell l.self.width l.end l.row;
  size : chunks_exact_size l.near ≡ l.self.width;
  left : AreLeft l.self.width l.row l.self.near (chunks_exact_rest l.near);
}
