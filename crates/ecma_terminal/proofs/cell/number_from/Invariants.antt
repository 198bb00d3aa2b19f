use Rattle.std.proofs.Common.{◌≡◌, ◌<◌, ◌^◌, take}
use Rattle.laws_screens.specs.StyledCells.{number_from}
use Rattle.ecma_terminal.proofs.cell.number_from.Given as goal

abbrev pub invariant-loop-byte : goal.invariant-loop-byte
invariant-loop-byte l = (l.sum ≡ number_from l.number (take l.byte-index l.bytes)) × (l.sum < 2 ^ 128)
