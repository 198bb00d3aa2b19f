-- A line feed for each turn.
use Rattle.std.proofs.Common.{◌≡◌, ◌++◌, replicate, string_bytes}
use Rattle.tw_surface.specs.Characters.{lf}
use Rattle.tw_ansi.proofs.sequence.feed_lines.Given as goal

abbrev pub invariant-loop-row : goal.invariant-loop-row
invariant-loop-row l = string_bytes l.out ≡ string_bytes l.fn.out ++ replicate l._row lf
