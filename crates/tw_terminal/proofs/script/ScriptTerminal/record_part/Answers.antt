use Rattle.std.proofs.Common.{arith}
use Rattle.std.proofs.lemmas.Grind.{common_steps}
use Rattle.tw_terminal.proofs.script.ScriptTerminal.record_part.Goals as goal

pub returns-in_err-record-clause-some : goal.returns-in_err-record-clause-some
returns-in_err-record-clause-some c = grind (arith, common_steps)
