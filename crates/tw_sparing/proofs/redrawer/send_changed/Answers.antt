use Rattle.std.proofs.Common.{◌++◌, ap, ◌∙◌, string_bytes}
use Rattle.tw_surface.specs.ChangeView.{Batch}
use Rattle.tw_ansi.specs.Encoding.{terse_batch}
use Rattle.tw_sparing.specs.declared.hand.Hand.{Hand}
use Rattle.tw_sparing.specs.Redrawings.{redrawn}
use Rattle.tw_sparing.specs.Sending.{screen_cells, hand_of}
use Rattle.tw_sparing.proofs.redrawer.send_changed.Goals as goal

pub returns-clause-bytes : goal.returns-clause-bytes
returns-clause-bytes c =
    let changes : Hand → Hand → Batch = λ to from. (redrawn c.args.new.now.width c.args.reached c.args.rows (screen_cells c.args.old.now) (screen_cells c.args.new.now) to from).changes in
    c.in_ok-redraw.ensures.ok.bytes
    ∙ ap (λ to. string_bytes c.args.out.now ++ (terse_batch (changes to c.hand_of.result) c.args.encoder).bytes) c.hand_of-2.ensures.value
    ∙ ap (λ from. string_bytes c.args.out.now ++ (terse_batch (changes (hand_of c.args.new.now) from) c.args.encoder).bytes) c.hand_of.ensures.value

pub returns-clause-next : goal.returns-clause-next
returns-clause-next c =
    let changes : Hand → Hand → Batch = λ to from. (redrawn c.args.new.now.width c.args.reached c.args.rows (screen_cells c.args.old.now) (screen_cells c.args.new.now) to from).changes in
    c.in_ok-redraw.ensures.ok.next
    ∙ ap (λ to. (terse_batch (changes to c.hand_of.result) c.args.encoder).next) c.hand_of-2.ensures.value
    ∙ ap (λ from. (terse_batch (changes (hand_of c.args.new.now) from) c.args.encoder).next) c.hand_of.ensures.value
