-- The bytes so far are shared.
use Rattle.std.proofs.Common.{◌≡◌, ◌+◌, ◌-◌, drop, eqb, length}
use Rattle.std.specs.List.{common_prefix_len}
use Rattle.tw_hosts.proofs.shared.shared_len.Given as goal

abbrev pub invariant-loop-len : goal.invariant-loop-len
invariant-loop-len l = l.len + common_prefix_len eqb (drop l.len l.text) (drop l.len l.other) ≡ common_prefix_len eqb l.text l.other

abbrev pub decreases-loop-len : goal.decreases-loop-len
decreases-loop-len l = length l.text - l.len
