-- No end so far, and the rest decides.
use Rattle.std.proofs.Common.{◌≡◌, ◌+◌, drop}
use Rattle.std.specs.Option.{option_map}
use Rattle.tw_ansi.specs.KeyBytes.{paste_len}
use Rattle.tw_ansi.proofs.control.paste_len.Given as goal

abbrev pub invariant-loop-i : goal.invariant-loop-i
invariant-loop-i l = option_map (λ n. n + l.i) (paste_len (drop l.i l.bytes)) ≡ paste_len l.bytes
