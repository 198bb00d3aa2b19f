-- What is left of the rows ends where all of them do.
use Rattle.std.proofs.Common.{◌≤◌, ◌-◌, string_bytes}
use Rattle.tw_ansi.specs.Encoding.{ExtendsBytes}
use Rattle.tw_sparing.specs.Redrawings.{left_of, rows_redrawn}
use Rattle.tw_sparing.specs.Sending.{screen_cells}
use Rattle.tw_sparing.proofs.AddedChanges.{SameEnd}
use Rattle.tw_sparing.proofs.redrawer.Redrawer.draw_rows.Given as goal

abbrev pub invariant-loop-row : goal.invariant-loop-row
invariant-loop-row l =
    let left = left_of l.old.width l.from (screen_cells l.old) in
    record {
      same : SameEnd (rows_redrawn l.new.width left (screen_cells l.new) l.row (l.rows - l.row) l.self.hand) l.self (string_bytes l.out)
          (rows_redrawn l.new.width left (screen_cells l.new) 0 l.rows l.fn.self.hand) l.fn.self (string_bytes l.fn.out);
      held : l.self.hand.row ≤ 4294967295;
      extends : ExtendsBytes (string_bytes l.fn.out) (string_bytes l.out);
    }
