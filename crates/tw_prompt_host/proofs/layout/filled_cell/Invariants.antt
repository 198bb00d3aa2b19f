-- The text, and a space for each turn.
use Rattle.std.proofs.Common.{◌≡◌, ◌++◌, replicate, string_bytes}
use Rattle.tw_prompt_host.proofs.layout.filled_cell.Given as goal

abbrev pub invariant-loop : goal.invariant-loop
invariant-loop l = string_bytes l.all ≡ l.text ++ replicate l.counter 32
