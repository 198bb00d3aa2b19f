use Rattle.std.proofs.Common.{◌≡◌, ◌++◌, OnOk, IfOk, string_bytes, subst}
use Rattle.tw_ansi.specs.Encoding.{terse_batch}
use Rattle.tw_sparing.specs.Shown.{changes_below, gone_rows}
use Rattle.tw_sparing.proofs.sending.send_known.Goals as goal

pub returns-clause-bytes : goal.returns-clause-bytes
returns-clause-bytes c =
    let out = c.send_below.new.out in
    let gone = gone_rows c.args.rows c.args.old.now c.args.new.now in
    subst (λ top. OnOk c.send_below.result (string_bytes out ≡ string_bytes c.args.out.now ++ (terse_batch (changes_below gone top c.args.old.now c.args.new.now) c.args.encoder).bytes)) c.left_behind-top.ensures
    (subst (λ old_top. OnOk c.send_below.result (string_bytes out ≡ string_bytes c.args.out.now ++ (terse_batch (changes_below old_top c.left_behind-top.result c.args.old.now c.args.new.now) c.args.encoder).bytes)) c.gone_rows-old_top.ensures
    c.send_below.ensures.bytes)

pub returns-clause-next : goal.returns-clause-next
returns-clause-next c =
    let gone = gone_rows c.args.rows c.args.old.now c.args.new.now in
    subst (λ top. IfOk c.send_below.result (λ next. next ≡ (terse_batch (changes_below gone top c.args.old.now c.args.new.now) c.args.encoder).next)) c.left_behind-top.ensures
    (subst (λ old_top. IfOk c.send_below.result (λ next. next ≡ (terse_batch (changes_below old_top c.left_behind-top.result c.args.old.now c.args.new.now) c.args.encoder).next)) c.gone_rows-old_top.ensures
    c.send_below.ensures.next)
