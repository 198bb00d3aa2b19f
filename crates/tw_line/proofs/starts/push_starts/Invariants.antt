use Rattle.std.proofs.Common.{◌≡◌, ◌+◌, ◌≤◌, ◌++◌, length, vec_len}
use Rattle.std.specs.Str.{chars, IsUtf8}
use Rattle.std.specs.Str.Iter.{chars_rest}
use Rattle.std.specs.Vec.{vec_capacity}
use Rattle.tw_line.specs.Starts.{starts_from}
use Rattle.tw_line.proofs.starts.push_starts.Given as goal

abbrev pub invariant-loop-c : goal.invariant-loop-c
invariant-loop-c l =
    let rest = chars_rest l.c-iterator in
    record {
      utf8 : IsUtf8 rest;
      start : l.start + length rest ≡ l.at + length l.text;
      room : vec_len l.starts + length (chars rest) ≤ vec_capacity l.starts;
      capacity : vec_capacity l.fn.starts ≤ vec_capacity l.starts;
      items : l.starts.items ++ starts_from l.start (chars rest) ≡ l.fn.starts.items ++ starts_from l.at (chars l.text);
    }
