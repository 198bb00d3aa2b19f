use Rattle.std.proofs.Common.{◌≡◌, ◌≤◌, length}
use Rattle.std.specs.Str.{chars, IsUtf8}
use Rattle.std.specs.Str.Iter.{chars_rest}
use Rattle.tw_hosts.specs.Settling.{character_pieces}
use Rattle.tw_hosts.proofs.settling.split_wide.Given as goal

abbrev pub invariant-loop-c : goal.invariant-loop-c
invariant-loop-c l =
    let rest = chars_rest l.chars in
    record {
      utf8 : IsUtf8 rest;
      pieces : character_pieces (chars l.text) ≡ character_pieces (chars rest);
      shorter : length rest ≤ length l.text;
    }

abbrev pub decreases-loop-c : goal.decreases-loop-c
decreases-loop-c l = length (chars_rest l.chars)
