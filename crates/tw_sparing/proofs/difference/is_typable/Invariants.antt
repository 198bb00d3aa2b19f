-- The rows before this one hold characters of one column, under colours by bytes.
use Rattle.tw_sparing.specs.ChangedScreens.{AreAllByBytes}
use Rattle.tw_sparing.specs.Sending.{IsTypable, screen_cells}
use Rattle.tw_sparing.proofs.difference.is_typable.Given as goal

abbrev pub invariant-loop-row : goal.invariant-loop-row
invariant-loop-row l = record {
  typable : IsTypable l.row l.screen;
  colors : AreAllByBytes l.screen.width l.row (screen_cells l.screen);
}
