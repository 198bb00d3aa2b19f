use Rattle.std.proofs.Common.{◌+◌, ◌*◌, ap, string_bytes}
use Rattle.std.proofs.lemmas.Result.{on_ok_weaker}
use Rattle.tw_sparing.specs.Sending.{screen_cells}
use Rattle.tw_sparing.proofs.AddedChanges.{going_added}
use Rattle.tw_sparing.proofs.redrawer.Redrawer.go_on.Goals as goal

pub returns-clause-ok : goal.returns-clause-ok
returns-clause-ok c =
    let hand = c.args.self.now.hand in
    on_ok_weaker c.hand_over.result
    (going_added c.args.new.now.width c.args.reached (hand.row * c.width.result + hand.col) c.args.end (screen_cells c.args.new.now) c.args.to
    c.args.self.now c.write_cells.new.self c.hand_over.new.self (string_bytes c.args.out.now) (string_bytes c.write_cells.new.out) (string_bytes c.hand_over.new.out)
    (ap (λ w. hand.row * w + hand.col) c.width.ensures.value) c.in_ok-write_cells.ensures.ok)
    c.hand_over.ensures.ok
