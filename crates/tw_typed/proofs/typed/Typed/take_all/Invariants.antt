use Rattle.std.proofs.Common.{◌≡◌, ◌-◌, length}
use Rattle.tw_typed.specs.Typed.{heard_by}
use Rattle.tw_typed.specs.declared.typed.Lull.TheVariants.{Busy}
use Rattle.tw_typed.proofs.typed.Typed.take_all.Given as goal

abbrev pub invariant-loop-self : goal.invariant-loop-self
invariant-loop-self g l = record {
  heard : heard_by l.self ≡ heard_by l.fn.self;
  busy : l.self.lull ≡ Busy;
  reader : l.self.reader ≡ l.fn.self.reader;
}

abbrev pub decreases-loop-self : goal.decreases-loop-self
decreases-loop-self g l = length l.self.piece.items - l.self.taken
