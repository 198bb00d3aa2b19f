use Rattle.std.proofs.Common.{◌∙◌, ap, max, string_bytes}
use Rattle.std.proofs.lemmas.Result.{on_ok_weaker}
use Rattle.tw_sparing.proofs.AddedChanges.{sunk_long}
use Rattle.tw_sparing.proofs.redrawer.Redrawer.sink_to.Goals as goal

pub returns-clause-ok : goal.returns-clause-ok
returns-clause-ok c =
    on_ok_weaker c.lead_to-3.result
    (λ last. sunk_long c.args.reached c.args.row c.args.col c.max-last.result c.args.self.now (string_bytes c.args.out.now) (c.max-last.ensures ∙ ap (λ n. max n c.args.self.now.hand.row) c.saturating_sub.ensures)
    c.lead_to-2.new.self c.feed_lines.new.self c.lead_to-3.new.self (string_bytes c.lead_to-2.new.out) (string_bytes c.feed_lines.new.out) (string_bytes c.lead_to-3.new.out) c.if-row-last.false
    c.in_ok-lead_to.ensures.ok c.in_ok-feed_lines.ensures.ok last)
    c.lead_to-3.ensures.ok
