use Rattle.std.proofs.Common.{◌≡◌, ◌∙◌, ◌++◌, IfOk, Some, None, arith, rules, string_bytes, subst, sym, take}
use Rattle.std.specs.Prelude.{encode_utf8}
use Rattle.std.proofs.lemmas.Str.Pattern.{find_char}
use Rattle.tw_key_parts.proofs.StepLemmas.{feed_found}
use Rattle.tw_prompt_host.proofs.HintLemmas.{cut_row, whole_row}
use Rattle.tw_prompt_host.proofs.hint.hint_row.Goals as goal

pub returns-in-None : goal.returns-in-None
returns-in-None c =
    let rest = c.args.rest.now in
    let found = find_char 10 rest None c.in-None.ensures.cases (omega arith) in
    subst (λ row. IfOk c.from_str.result (λ s. string_bytes s ≡ row)) (sym (whole_row rest (sym (feed_found rest None found)))) c.from_str.ensures.ok

pub returns-in_ok-push-in-Some : goal.returns-in_ok-push-in-Some
returns-in_ok-push-in-Some c =
    let rest = c.args.rest.now in
    let end = c.in-Some.end in
    let found = find_char 10 rest (Some end) c.in-Some.ensures.cases (omega arith) in
    let is : string_bytes c.push.new.self ≡ take end rest ++ encode_utf8 8230 = search rules in
    is ∙ sym (cut_row rest end (sym (feed_found rest (Some end) found)) found.0)
