-- Those so far pass, and the rest decides.
use Rattle.std.proofs.Common.{◌≡◌, ◌+◌, drop}
use Rattle.std.specs.List.{prefix_len}
use Rattle.tw_ansi.specs.KeyBytes.{is_string_byte}
use Rattle.tw_ansi.proofs.strings.string_len.Given as goal

abbrev pub invariant-loop-i : goal.invariant-loop-i
invariant-loop-i l = l.i + prefix_len is_string_byte (drop l.i l.bytes) ≡ prefix_len is_string_byte l.bytes
