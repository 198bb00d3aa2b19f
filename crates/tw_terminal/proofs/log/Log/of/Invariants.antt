use Rattle.std.proofs.Common.{◌≡◌, take}
use Rattle.tw_terminal.proofs.log.Log.of.Given as goal

-- the items that were passed are in the log
abbrev pub invariant-loop-item : goal.invariant-loop-item
invariant-loop-item g l = record { log : l.log ≡ take l.item-index l.items }
