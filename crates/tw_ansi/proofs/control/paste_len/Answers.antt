use Rattle.std.proofs.Common.{◌∙◌, ap, sym, eqb, arith, length-drop}
use Rattle.std.specs.List.{starts_with}
use Rattle.std.proofs.lemmas.List.{take_rest}
use Rattle.tw_ansi.specs.KeyBytes.{paste_end}
use Rattle.tw_ansi.proofs.Pastes.{paste_step}
use Rattle.tw_ansi.proofs.control.paste_len.Goals as goal

pub loop-i-preserved : goal.loop-i-preserved
loop-i-preserved c =
    paste_step c.args.bytes.now c.loop-i.i _ (simp length-drop (omega arith))
    (ap (λ left. starts_with eqb left paste_end) (sym (take_rest c.args.bytes.now c.loop-i.i)) ∙ sym c.starts_with.ensures.value ∙ c.if-starts_with.false)
    c.loop-i.invariant
