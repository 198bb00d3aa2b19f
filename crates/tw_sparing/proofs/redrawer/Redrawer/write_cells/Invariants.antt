-- What is left of the cells ends where all of them do.
use Rattle.std.proofs.Common.{◌≤◌, ◌-◌, string_bytes}
use Rattle.tw_ansi.specs.Encoding.{ExtendsBytes}
use Rattle.tw_sparing.specs.Redrawings.{cells_redrawn}
use Rattle.tw_sparing.specs.Sending.{screen_cells}
use Rattle.tw_sparing.proofs.AddedChanges.{SameEnd}
use Rattle.tw_sparing.proofs.redrawer.Redrawer.write_cells.Given as goal

abbrev pub invariant-loop-index : goal.invariant-loop-index
invariant-loop-index l = record {
  same : SameEnd (cells_redrawn l.screen.width (screen_cells l.screen) l.index (l.to - l.index) l.self.hand) l.self (string_bytes l.out)
      (cells_redrawn l.screen.width (screen_cells l.screen) l.from (l.to - l.from) l.fn.self.hand) l.fn.self (string_bytes l.fn.out);
  held : l.self.hand.row ≤ 4294967295;
  low : l.from ≤ l.index;
  extends : ExtendsBytes (string_bytes l.fn.out) (string_bytes l.out);
}
