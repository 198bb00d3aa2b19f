use Rattle.std.proofs.Common.{◌≡◌, ◌+◌, ◌-◌, ◌*◌, ◌≤◌, length}
use Rattle.std.specs.Prelude.{encode_utf8}
use Rattle.std.specs.Str.{chars, IsCharBoundary}
use Rattle.tw_line.specs.Cut.{cut_at}
use Rattle.tw_line.specs.Edits.{with_char}
use Rattle.tw_line.specs.Extremes.{iterate}
use Rattle.tw_line.specs.Text.{bytes_of, room_of, places_of}
use Rattle.tw_line.proofs.SeamLemmas.{KnownBoundary}
use Rattle.tw_line.proofs.buffer.LineEditBuffer.insert_char_times.Given as goal

abbrev pub invariant-loop-round : goal.invariant-loop-round
invariant-loop-round l =
    let line = bytes_of l.self-inside.line in
    record {
      boundary : IsCharBoundary line l.self-inside.cursor;
      known : KnownBoundary line l.from l.self-inside.cursor;
      rest : iterate (with_char l.c) (l.count - l._round) (cut_at line l.self-inside.cursor) ≡ iterate (with_char l.c) l.count l.fn.self;
      room : length line + length (encode_utf8 l.c) * (l.count - l._round) ≤ room_of l.self-inside.line;
      places : length (chars line) + (l.count - l._round) ≤ places_of l.self-inside.line;
    }
