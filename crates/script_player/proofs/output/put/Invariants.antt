-- What is gone from the text was written, and each write takes at least a byte of what is left.
use Rattle.std.proofs.Common.{◌≡◌, ℕ, List, ◌++◌, length}
use Rattle.std.specs.Io.KnownBytes.{Appends}
use Rattle.script_player.proofs.output.put.Given as goal

abbrev pub invariant-loop-rest : goal.invariant-loop-rest
invariant-loop-rest g l = (done : List ℕ) × Appends (g.W.Write.contents l.fn.writer) (g.W.Write.contents l.writer) done × (l.fn.text ≡ done ++ l.rest)

abbrev pub decreases-loop-rest : goal.decreases-loop-rest
decreases-loop-rest g l = length l.rest
