-- What is told so far and what the characters that are left are told as, are what the whole text is told as.
use Rattle.std.proofs.Common.{◌≡◌, ◌++◌, string_bytes}
use Rattle.std.specs.Str.{IsUtf8}
use Rattle.std.specs.Str.Iter.{chars_rest}
use Rattle.tw_device.specs.Told.{pasted_characters, pasted_text}
use Rattle.tw_device.proofs.pasted.pasted_text.Given as goal

abbrev pub invariant-loop-character : goal.invariant-loop-character
invariant-loop-character l =
    let rest = chars_rest l.character-iterator in
    record {
      utf8 : IsUtf8 rest;
      text : string_bytes l.told ++ pasted_characters l.rows l.before rest ≡ pasted_text l.rows l.bytes;
    }
