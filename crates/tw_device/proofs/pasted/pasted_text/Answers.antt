use Rattle.std.proofs.Common.{◌++◌, string_bytes, sym, ap, ◌∙◌, append_assoc, append-nil}
use Rattle.std.proofs.lemmas.List.{nil_from_length}
use Rattle.std.proofs.lemmas.Str.{IsUtf8-past_char, chars_past_char, chars-nil}
use Rattle.std.specs.Prelude.{encode_utf8}
use Rattle.std.specs.Str.{chars, encode_utf8_all}
use Rattle.std.specs.Str.Iter.{chars_rest}
use Rattle.tw_device.specs.Told.{pasted_behind}
use Rattle.tw_device.proofs.pasted.pasted_text.Goals as goal

pub loop-character-preserved-in_ok-push-in-Some-told : goal.loop-character-preserved-in_ok-push-in-Some-told
loop-character-preserved-in_ok-push-in-Some-told c =
    let inv = c.loop-character.invariant in
    let split = c.in-Some.ensures.steps.0 in
    let rest = chars_rest c.next.new.self in
    let told = string_bytes c.loop-character.told in
    let tail = pasted_behind c.args.rows c.in-Some.character (chars rest) in
    record {
      utf8 = IsUtf8-past_char _ rest _ inv.utf8 split;
      text =
          ap (λ bytes. bytes ++ encode_utf8_all tail) c.in_ok-push-in-Some-told.ensures.bytes
          ∙ append_assoc told (encode_utf8 c.in-Some-told.c) (encode_utf8_all tail)
          ∙ ap (λ cs. told ++ encode_utf8_all (cs ++ tail)) (sym c.in-Some-told.ensures)
          ∙ ap (λ cs. told ++ encode_utf8_all (pasted_behind c.args.rows c.loop-character.before cs)) (sym (chars_past_char _ rest _ inv.utf8 split)) ∙ inv.text;
    }

pub loop-character-preserved : goal.loop-character-preserved
loop-character-preserved c =
    let inv = c.loop-character.invariant in
    let split = c.in-Some.ensures.steps.0 in
    let rest = chars_rest c.next.new.self in
    let told = string_bytes c.loop-character.told in
    let tail = pasted_behind c.args.rows c.in-Some.character (chars rest) in
    record {
      utf8 = IsUtf8-past_char _ rest _ inv.utf8 split;
      text =
          ap (λ cs. told ++ encode_utf8_all (cs ++ tail)) (sym c.in-None-told.ensures)
          ∙ ap (λ cs. told ++ encode_utf8_all (pasted_behind c.args.rows c.loop-character.before cs)) (sym (chars_past_char _ rest _ inv.utf8 split)) ∙ inv.text;
    }

pub returns : goal.returns
returns c =
    let inv = c.loop-character.invariant in
    let told = string_bytes c.loop-character.told in
    let none = ap chars (nil_from_length _ c.in-None.ensures.steps.0.0) ∙ chars-nil in
    sym (append-nil told) ∙ ap (λ cs. told ++ encode_utf8_all (pasted_behind c.args.rows c.loop-character.before cs)) (sym none) ∙ inv.text
