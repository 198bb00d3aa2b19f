use Rattle.std.proofs.Common.{◌++◌, ℕ, List, map, string_bytes, sym, ap, ◌∙◌, append_assoc, append-nil}
use Rattle.std.proofs.lemmas.List.{nil_from_length}
use Rattle.std.proofs.lemmas.Str.{IsUtf8-past_char, chars_past_char, chars-nil}
use Rattle.std.specs.Prelude.{chars, encode_utf8, encode_utf8_all}
use Rattle.std.specs.Str.Iter.{chars_rest}
use Rattle.tw_prompt.specs.Pictures.{control_picture}
use Rattle.tw_prompt.proofs.pictures.with_pictures.Goals as goal

pub loop-c-preserved : goal.loop-c-preserved
loop-c-preserved c =
    let inv = c.loop-c.invariant in
    let split = c.in-Some.ensures.steps.0 in
    let rest = chars_rest c.next.new.self in
    let shown = string_bytes c.loop-c.shown in
    let pictures : List ℕ → List ℕ = λ cs. encode_utf8_all (map (control_picture c.args.keeps_rows) cs) in
    record {
      utf8 = IsUtf8-past_char _ rest _ inv.utf8 split;
      text =
          ap (λ bytes. bytes ++ pictures (chars rest)) c.in_ok-push.ensures.bytes
          ∙ append_assoc shown (encode_utf8 c.picture.result) (pictures (chars rest))
          ∙ ap (λ one. shown ++ (encode_utf8 one ++ pictures (chars rest))) c.picture.ensures
          ∙ ap (λ cs. shown ++ pictures cs) (sym (chars_past_char _ rest _ inv.utf8 split))
          ∙ inv.text;
    }

pub returns : goal.returns
returns c =
    let inv = c.loop-c.invariant in
    let shown = string_bytes c.loop-c.shown in
    let none = ap chars (nil_from_length _ c.in-None.ensures.steps.0.0) ∙ chars-nil in
    sym (append-nil shown) ∙ ap (λ cs. shown ++ encode_utf8_all (map (control_picture c.args.keeps_rows) cs)) (sym none) ∙ inv.text
