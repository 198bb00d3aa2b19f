-- What was read so far is the script.
use Rattle.std.specs.Io.KnownBytes.{Consumes}
use Rattle.script_player.proofs.input.read_script.Given as goal

abbrev pub invariant-loop : goal.invariant-loop
invariant-loop g l = Consumes (g.R.Read.remaining l.fn.reader) (g.R.Read.remaining l.reader) l.script.items
