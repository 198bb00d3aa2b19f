-- What was put down, and what the characters that are left put down, is what the name puts down behind the first quote.
use Rattle.std.proofs.Common.{◌≡◌, ◌++◌, ◌∷◌}
use Rattle.std.specs.Prelude.{string_bytes}
use Rattle.std.specs.List.{flat_map}
use Rattle.std.specs.Str.{IsUtf8, chars}
use Rattle.std.specs.Str.Iter.{chars_rest}
use Rattle.sql_language.specs.Names.{doubled}
use Rattle.sql_language.proofs.names.quoted_name.Given as goal

abbrev pub invariant-loop-character : goal.invariant-loop-character
invariant-loop-character l =
    let rest = chars_rest l.character-iterator in
    record {
      utf8 : IsUtf8 rest;
      put : string_bytes l.quoted ++ flat_map doubled (chars rest) ≡ 34 ∷ flat_map doubled (chars l.name);
    }
