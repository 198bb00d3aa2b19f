-- The columns before this one hold characters of one column, under colours by bytes.
use Rattle.std.proofs.Common.{◌<◌, ℕ}
use Rattle.tw_sparing.specs.ChangedScreens.{AreByBytes}
use Rattle.tw_sparing.specs.Sending.{AreSingle, screen_cells}
use Rattle.tw_sparing.proofs.difference.is_typable_row.Given as goal

abbrev pub invariant-loop-col : goal.invariant-loop-col
invariant-loop-col l = record {
  single : AreSingle l.col (screen_cells l.screen l.row);
  colors : (j : ℕ) → j < l.col → AreByBytes (screen_cells l.screen l.row j).attributes;
}
