use Rattle.std.proofs.Common.{refl}
use Rattle.ecma_terminal.proofs.terminal.EcmaTerminal.receive_text.Goals as goal

pub returns-in-13 : goal.returns-in-13
returns-in-13 c = rw c.in-13.is (record { ok = c.return_to_start.ensures; err = tt; cause = tt; sure = λ e. refl })
