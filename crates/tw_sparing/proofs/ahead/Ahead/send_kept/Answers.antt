use Rattle.std.proofs.Common.{◌≡◌, ◌++◌, OnOk, IfOk, string_bytes, subst, sym}
use Rattle.tw_sparing.specs.Ahead.{all_changes}
use Rattle.tw_sparing.proofs.AheadLemmas.{drawn_ahead, kept_sent}
use Rattle.tw_sparing.proofs.PlayedBatches.{drawn_row, drawn_width}
use Rattle.tw_sparing.proofs.ahead.Ahead.send_kept.Goals as goal

pub send_known-requires-clause-width : goal.send_known-requires-clause-width
send_known-requires-clause-width c =
    drawn_width c.self.inside.size.rows (all_changes c.self.inside.kept) c.in-Some-Some.shown c.in-Some-Some.drawn
    (drawn_ahead c.self.inside.size c.self.inside.shown c.self.inside.drawn (all_changes c.self.inside.kept) c.in-Some-Some.shown c.in-Some-Some.drawn
    c.in-Some-Some.is-0 c.in-Some-Some.is-1 c.self.invariant)

pub send_known-requires-clause-row : goal.send_known-requires-clause-row
send_known-requires-clause-row c =
    drawn_row c.self.inside.size.rows (all_changes c.self.inside.kept) c.in-Some-Some.shown c.in-Some-Some.drawn
    (drawn_ahead c.self.inside.size c.self.inside.shown c.self.inside.drawn (all_changes c.self.inside.kept) c.in-Some-Some.shown c.in-Some-Some.drawn
    c.in-Some-Some.is-0 c.in-Some-Some.is-1 c.self.invariant)

pub returns-in-Some-Some-clause-bytes : goal.returns-in-Some-Some-clause-bytes
returns-in-Some-Some-clause-bytes c =
    subst (λ bytes. OnOk c.send_known.result (string_bytes c.send_known.new.out ≡ string_bytes c.args.out.now ++ bytes))
    (sym (kept_sent c.self.inside.size c.args.self.now c.self.inside.shown c.self.inside.drawn (all_changes c.self.inside.kept) c.in-Some-Some.shown c.in-Some-Some.drawn c.args.encoder
    c.self.view_is c.in-Some-Some.is-0 c.in-Some-Some.is-1).0)
    c.send_known.ensures.bytes

pub returns-in-Some-Some-clause-next : goal.returns-in-Some-Some-clause-next
returns-in-Some-Some-clause-next c =
    subst (λ end. IfOk c.send_known.result (λ next. next ≡ end))
    (sym (kept_sent c.self.inside.size c.args.self.now c.self.inside.shown c.self.inside.drawn (all_changes c.self.inside.kept) c.in-Some-Some.shown c.in-Some-Some.drawn c.args.encoder
    c.self.view_is c.in-Some-Some.is-0 c.in-Some-Some.is-1).1)
    c.send_known.ensures.next
