use Rattle.ecma_terminal.proofs.TerminalSteps.{HasReceived}
use Rattle.ecma_terminal.proofs.terminal.EcmaTerminal.receive_all.Given as goal

abbrev pub invariant-loop-byte : goal.invariant-loop-byte
invariant-loop-byte l = HasReceived l.fn.self l.bytes l.byte-index l.self
