use Rattle.std.proofs.Common.{◌++◌, ◌∷◌, [], sym, ap, ◌∙◌, append_assoc, append-nil}
use Rattle.std.specs.Prelude.{string_bytes}
use Rattle.std.specs.List.{flat_map}
use Rattle.std.proofs.lemmas.List.{nil_from_length}
use Rattle.std.proofs.lemmas.Str.{IsUtf8-past_char, chars_past_char, chars-nil}
use Rattle.std.specs.Str.{chars}
use Rattle.std.specs.Str.Iter.{chars_rest}
use Rattle.sql_language.specs.Names.{doubled}
use Rattle.sql_language.proofs.names.quoted_name.Goals as goal

pub loop-character-preserved : goal.loop-character-preserved
loop-character-preserved c =
    let inv = c.loop-character.invariant in
    let split = c.in-Some.ensures.steps.0 in
    let rest = chars_rest c.next.new.self in
    let before = string_bytes c.loop-character.quoted in
    record {
      utf8 = IsUtf8-past_char _ rest _ inv.utf8 split;
      put =
          ap (λ bytes. bytes ++ flat_map doubled (chars rest)) c.in_ok-push_doubled.ensures
          ∙ append_assoc before (doubled c.in-Some.character) (flat_map doubled (chars rest))
          ∙ ap (λ cs. before ++ flat_map doubled cs) (sym (chars_past_char _ rest _ inv.utf8 split))
          ∙ inv.put;
    }

pub returns : goal.returns
returns c =
    let inv = c.loop-character.invariant in
    let before = string_bytes c.loop-character.quoted in
    let none = ap chars (nil_from_length _ c.in-None.ensures.steps.0.0) ∙ chars-nil in
    c.in_ok-push_str.ensures.bytes
    ∙ ap (λ bytes. bytes ++ 34 ∷ []) (sym (append-nil before) ∙ ap (λ cs. before ++ flat_map doubled cs) (sym none) ∙ inv.put)
