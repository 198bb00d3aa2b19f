-- The lines so far were played and counted, and each of them takes at least a byte of what is left.
use Rattle.std.proofs.Common.{◌+◌, ◌≤◌, length}
use Rattle.script_player.specs.Lines.{script_lines}
use Rattle.script_player.specs.Playback.{stage_of}
use Rattle.script_player.specs.Playing.{PlaysUpTo}
use Rattle.script_player.specs.Written.{Extends}
use Rattle.script_player.proofs.player.play_script.Given as goal

abbrev pub invariant-loop-rest : goal.invariant-loop-rest
invariant-loop-rest g l =
    let old = g.W.Write.contents l.fn.writer in
    let now = g.W.Write.contents l.writer in
    record {
      kept : Extends old now;
      played : PlaysUpTo (script_lines l.script) (script_lines l.rest) (l.number + 1) (stage_of l.playback) old now;
      fits : l.number + length l.rest ≤ length l.script;
    }

abbrev pub decreases-loop-rest : goal.decreases-loop-rest
decreases-loop-rest g l = length l.rest
