use Rattle.std.proofs.Common.{string_bytes}
use Rattle.std.proofs.lemmas.Result.{on_ok_weaker}
use Rattle.tw_sparing.specs.Redrawings.{sunk_to, under}
use Rattle.tw_sparing.proofs.AddedChanges.{added_both}
use Rattle.tw_sparing.proofs.redrawer.Redrawer.hand_over.Goals as goal

pub returns-clause-ok : goal.returns-clause-ok
returns-clause-ok c =
    on_ok_weaker c.select.result
    (λ last. added_both (sunk_to c.args.reached c.args.to.row c.args.to.col c.args.self.now.hand) (under c.args.to.attributes)
    c.args.self.now c.sink_to.new.self c.select.new.self (string_bytes c.args.out.now) (string_bytes c.sink_to.new.out) (string_bytes c.select.new.out) c.in_ok-sink_to.ensures.ok last)
    c.select.ensures.ok
