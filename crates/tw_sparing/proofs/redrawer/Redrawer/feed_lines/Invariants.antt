-- What is left of the line feeds ends where all of them do.
use Rattle.std.proofs.Common.{◌≡◌, ◌+◌, ◌-◌, string_bytes}
use Rattle.tw_ansi.specs.Encoding.{ExtendsBytes}
use Rattle.tw_sparing.specs.Redrawings.{fed}
use Rattle.tw_sparing.proofs.AddedChanges.{SameEnd}
use Rattle.tw_sparing.proofs.redrawer.Redrawer.feed_lines.Given as goal

abbrev pub invariant-loop-line : goal.invariant-loop-line
invariant-loop-line l = record {
  same : SameEnd (fed (l.count - l._line) l.self.hand) l.self (string_bytes l.out) (fed l.count l.fn.self.hand) l.fn.self (string_bytes l.fn.out);
  row : l.self.hand.row ≡ l.fn.self.hand.row + l._line;
  extends : ExtendsBytes (string_bytes l.fn.out) (string_bytes l.out);
}
