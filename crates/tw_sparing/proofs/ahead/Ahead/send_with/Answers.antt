use Rattle.std.proofs.Common.{◌≡◌, ◌++◌, ◌⊎◌, inl, inr, None, false, Bool, List, OnOk, IfOk, string_bytes, subst, sym}
use Rattle.tw_surface.specs.ChangeView.{batch_view}
use Rattle.tw_sparing.specs.Ahead.{all_changes, groups_with}
use Rattle.tw_sparing.specs.KnownRuns.{KnownBatch, sent_for_all}
use Rattle.tw_sparing.proofs.AheadLemmas.{joined_fits, joined_sent, not_joined}
use Rattle.tw_sparing.proofs.ahead.Ahead.send_with.Goals as goal

pub send_known-requires-clause-width : goal.send_known-requires-clause-width
send_known-requires-clause-width c =
    (joined_fits c.self.inside.size c.args.self.now c.self.inside.shown c.self.inside.drawn c.args.next.now (all_changes c.self.inside.kept) (batch_view c.args.changes.now)
    c.in-Some-Some.shown c.in-Some-Some.next c.self.view_is c.in-Some-Some.is-0 c.in-Some-Some.is-1 (c.requires.joined c.if-is_joined.true)).0

pub send_known-requires-clause-row : goal.send_known-requires-clause-row
send_known-requires-clause-row c =
    (joined_fits c.self.inside.size c.args.self.now c.self.inside.shown c.self.inside.drawn c.args.next.now (all_changes c.self.inside.kept) (batch_view c.args.changes.now)
    c.in-Some-Some.shown c.in-Some-Some.next c.self.view_is c.in-Some-Some.is-0 c.in-Some-Some.is-1 (c.requires.joined c.if-is_joined.true)).1

pub returns-in-Some-Some-clause-bytes : goal.returns-in-Some-Some-clause-bytes
returns-in-Some-Some-clause-bytes c known =
    let now = c.args.self.now in
    let groups : Bool → List KnownBatch = λ joined. groups_with joined (batch_view c.args.changes.now) c.args.self.now c.args.next.now known in
    subst (λ joined. OnOk c.send_known.result (string_bytes c.send_known.new.out
    ≡ string_bytes c.args.out.now ++ (sent_for_all now.size.rows now.shown (groups joined) c.args.encoder).bytes)) (sym c.if-is_joined.true)
    (subst (λ bytes. OnOk c.send_known.result (string_bytes c.send_known.new.out ≡ string_bytes c.args.out.now ++ bytes))
    (sym (joined_sent c.self.inside.size c.args.self.now c.self.inside.shown c.self.inside.drawn c.args.next.now known (all_changes c.self.inside.kept) (batch_view c.args.changes.now)
    c.in-Some-Some.shown c.in-Some-Some.next c.args.encoder c.self.view_is c.in-Some-Some.is-0 c.in-Some-Some.is-1).0)
    c.send_known.ensures.bytes)

pub returns-in-Some-Some-clause-next : goal.returns-in-Some-Some-clause-next
returns-in-Some-Some-clause-next c known =
    let now = c.args.self.now in
    let groups : Bool → List KnownBatch = λ joined. groups_with joined (batch_view c.args.changes.now) c.args.self.now c.args.next.now known in
    subst (λ joined. IfOk c.send_known.result (λ known. known ≡ (sent_for_all now.size.rows now.shown (groups joined) c.args.encoder).next)) (sym c.if-is_joined.true)
    (subst (λ end. IfOk c.send_known.result (λ known. known ≡ end))
    (sym (joined_sent c.self.inside.size c.args.self.now c.self.inside.shown c.self.inside.drawn c.args.next.now known (all_changes c.self.inside.kept) (batch_view c.args.changes.now)
    c.in-Some-Some.shown c.in-Some-Some.next c.args.encoder c.self.view_is c.in-Some-Some.is-0 c.in-Some-Some.is-1).1)
    c.send_known.ensures.next)

pub returns-in_default-clause-next : goal.returns-in_default-clause-next
returns-in_default-clause-next c known =
    subst (λ joined. IfOk c.send_apart.result (λ next. next ≡ (sent_for_all c.args.self.now.size.rows c.args.self.now.shown
    (groups_with joined (batch_view c.args.changes.now) c.args.self.now c.args.next.now known) c.args.encoder).next)) (sym apart) (c.send_apart.ensures.next known)
  where
    none : (c.self.inside.shown ≡ None) ⊎ (c.args.next.now ≡ None) → c.args.is_joined ≡ false
    none is =
        not_joined c.self.inside.size c.args.is_joined c.args.self.now c.self.inside.shown c.self.inside.drawn c.args.next.now (all_changes c.self.inside.kept) (batch_view c.args.changes.now)
        c.self.view_is c.requires.joined is

    apart : c.args.is_joined ≡ false
    apart = elim c.in_default.branch [
      | goal.in_default-via-in-Some-Some+else-is_joined w ↦ w.if-is_joined.false
      | goal.in_default-via-in-Some+in_default w ↦ none (inr w.in_default.is-1)
      | goal.in_default-via-in_default w ↦ none (inl w.in_default.is-0)
    ]
