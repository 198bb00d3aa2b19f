use Rattle.std.proofs.Common.{◌≡◌, true, false, []}
use Rattle.std.specs.Io.KnownBytes.{IsAtEnd}
use Rattle.tw_device.specs.Keys.{held_by}
use Rattle.tw_device.specs.Typed.{TellsIn, is_at_hand}
use Rattle.tw_device.proofs.keys.KeyReader.find.Given as goal

abbrev pub invariant-loop-turn : goal.invariant-loop-turn
invariant-loop-turn g l =
    let remaining = g.R.Read.remaining in
    record {
      told : l.self.told ≡ l.fn.self.told;
      tells : TellsIn l.turn (held_by remaining l.fn.self) (held_by remaining l.self) [];
      at_end : l.is_last ≡ true → IsAtEnd (remaining l.self.reader);
      at_hand : is_at_hand (held_by remaining l.fn.self) ≡ true → (l.is_last ≡ false) × (held_by remaining l.self ≡ held_by remaining l.fn.self) × (l.self.reader ≡ l.fn.self.reader);
    }
