use Rattle.std.proofs.Common.{arith}
use Rattle.std.proofs.lemmas.Grind.{common_steps}
use Rattle.tw_typed.proofs.TypedLemmas.{next_of}
use Rattle.tw_typed.proofs.typed.Typed.take_next.Goals as goal

pub returns-clause-heard : goal.returns-clause-heard
returns-clause-heard g c =
    let it = c.args.self.now in
    let next = next_of it.ready.items it.sieve it.piece.items it.taken c.requires.some in grind (arith, common_steps, next)
