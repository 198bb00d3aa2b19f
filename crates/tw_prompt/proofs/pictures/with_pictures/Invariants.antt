-- What is shown so far, and then the pictures of the characters that are left, are the pictures of the whole text.
use Rattle.std.proofs.Common.{◌≡◌, ◌++◌, map, string_bytes}
use Rattle.std.specs.Prelude.{chars, encode_utf8_all}
use Rattle.std.specs.Str.{IsUtf8}
use Rattle.std.specs.Str.Iter.{chars_rest}
use Rattle.tw_prompt.specs.Pictures.{control_picture, with_pictures}
use Rattle.tw_prompt.proofs.pictures.with_pictures.Given as goal

abbrev pub invariant-loop-c : goal.invariant-loop-c
invariant-loop-c l =
    let rest = chars_rest l.c-iterator in
    record {
      utf8 : IsUtf8 rest;
      text : string_bytes l.shown ++ encode_utf8_all (map (control_picture l.keeps_rows) (chars rest)) ≡ with_pictures l.keeps_rows l.text;
    }
