use Rattle.std.proofs.Common.{◌≡◌, ◌-◌, ◌++◌, OnOk, IfOk, string_bytes, subst, sym}
use Rattle.tw_sparing.specs.StyledScreens.{StyledView}
use Rattle.tw_ansi.specs.Encoding.{terse_batch}
use Rattle.tw_sparing.specs.Sending.{IsTypable}
use Rattle.tw_sparing.proofs.CutScreens.{cut_typable, same_changes, same_whole}
use Rattle.tw_sparing.proofs.shown.send_below.Goals as goal

pub send_changed-requires-2-clause-typable : goal.send_changed-requires-2-clause-typable
send_changed-requires-2-clause-typable c =
    let reached = c.args.new.now.reached in
    subst (λ n. IsTypable n c.in_ok-after.after) (sym c.saturating_sub-rows.ensures)
    (subst (λ (v : StyledView). IsTypable (c.args.new.now.reached - c.args.top) v) (sym c.in_ok-after.ensures)
    (cut_typable c.args.top c.args.new.now.reached c.args.new.now.screen c.requires.typable))

pub returns-clause-bytes : goal.returns-clause-bytes
returns-clause-bytes c =
    subst (λ changes. OnOk c.send_changed-2.result (string_bytes c.send_changed-2.new.out ≡ string_bytes c.args.out.now ++ (terse_batch changes c.args.encoder).bytes))
    (same_changes c.args.old.now c.args.new.now c.args.old_top c.args.top _ _ _ _ c.saturating_sub-reached.ensures c.saturating_sub-rows.ensures c.in_ok-before.ensures c.in_ok-after.ensures)
    c.send_changed-2.ensures.bytes

pub returns-clause-next : goal.returns-clause-next
returns-clause-next c =
    subst (λ changes. IfOk c.send_changed-2.result (λ next. next ≡ (terse_batch changes c.args.encoder).next))
    (same_changes c.args.old.now c.args.new.now c.args.old_top c.args.top _ _ _ _ c.saturating_sub-reached.ensures c.saturating_sub-rows.ensures c.in_ok-before.ensures c.in_ok-after.ensures)
    c.send_changed-2.ensures.next

pub returns-then-top-eq0-clause-bytes : goal.returns-then-top-eq0-clause-bytes
returns-then-top-eq0-clause-bytes c =
    subst (λ changes. OnOk c.send_changed.result (string_bytes c.send_changed.new.out ≡ string_bytes c.args.out.now ++ (terse_batch changes c.args.encoder).bytes))
    (same_whole c.args.old.now c.args.new.now c.args.old_top c.args.top c.if-old_top-eq0.true c.if-top-eq0.true) c.send_changed.ensures.bytes

pub returns-then-top-eq0-clause-next : goal.returns-then-top-eq0-clause-next
returns-then-top-eq0-clause-next c =
    subst (λ changes. IfOk c.send_changed.result (λ next. next ≡ (terse_batch changes c.args.encoder).next))
    (same_whole c.args.old.now c.args.new.now c.args.old_top c.args.top c.if-old_top-eq0.true c.if-top-eq0.true) c.send_changed.ensures.next
