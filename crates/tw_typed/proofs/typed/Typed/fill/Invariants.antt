use Rattle.std.specs.Io.KnownBytes.{Keeps}
use Rattle.tw_typed.specs.Typed.{left_in}
use Rattle.tw_typed.proofs.typed.Typed.fill.Given as goal

abbrev pub invariant-loop : goal.invariant-loop
invariant-loop g l = Keeps (left_in g.R.Read.remaining l.fn.self) (left_in g.R.Read.remaining l.self)
