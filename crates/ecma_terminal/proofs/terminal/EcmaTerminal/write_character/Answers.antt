use Rattle.std.proofs.Common.{arith}
use Rattle.ecma_terminal.proofs.TerminalSteps.{marks, on_ok}
use Rattle.ecma_terminal.proofs.terminal.EcmaTerminal.write_character.Goals as goal

pub returns-in-Some-eq0-clause-ok : goal.returns-in-Some-eq0-clause-ok
returns-in-Some-eq0-clause-ok c =
    on_ok c.join.result (marks _ _ _ _ _ (omega (arith, c.in-Some-eq0.ensures.columns, c.in-Some-eq0.field-0-is))) c.join.ensures.ok
