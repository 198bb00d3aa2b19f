-- What is done and what is left are all the attributes.
use Rattle.std.proofs.Common.{◌≡◌, ℕ, List, ◌++◌, drop, string_bytes}
use Rattle.std.specs.List.{flat_map}
use Rattle.tw_ansi.specs.Sequences.{set_unless_off}
use Rattle.tw_ansi.proofs.sequence.send_those_on.Given as goal

abbrev pub invariant-loop-change : goal.invariant-loop-change
invariant-loop-change l =
    (done : List ℕ) × (string_bytes l.out ≡ string_bytes l.fn.out ++ done)
    × (done ++ flat_map set_unless_off (drop l.change-index l.changes) ≡ flat_map set_unless_off l.changes)
