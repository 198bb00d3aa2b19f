use Rattle.std.proofs.Common.{◌≡◌, ◌<◌, ◌^◌, ap, subst, ◌∙◌, arith}
use Rattle.std.proofs.lemmas.List.{take_all}
use Rattle.laws_screens.specs.StyledCells.{number_from}
use Rattle.ecma_terminal.proofs.cell.number_from.Goals as goal

pub returns : goal.returns
returns c =
    let same : c.loop-byte.sum ≡ number_from c.args.number c.args.bytes.now =
    c.loop-byte.invariant.0 ∙ ap (number_from c.args.number) (take_all c.loop-byte.byte-index c.args.bytes.now (omega arith)) in
    (subst (λ n. n < 2 ^ 128) same c.loop-byte.invariant.1, same)
