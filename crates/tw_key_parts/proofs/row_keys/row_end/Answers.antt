use Rattle.std.proofs.Common.{Some, None, length, ap, ◌∙◌, ◌==◌, arith, length-drop}
use Rattle.std.proofs.lemmas.Str.Pattern.{find_char}
use Rattle.tw_surface.specs.Characters.{lf}
use Rattle.std.specs.List.{position_or_len}
use Rattle.tw_key_parts.proofs.StepLemmas.{feed_found}
use Rattle.tw_key_parts.proofs.row_keys.row_end.Goals as goal

pub returns-in-Some-clause-value : goal.returns-in-Some-clause-value
returns-in-Some-clause-value c =
    let text = c.range_from.result.now in
    let found = find_char 10 text (Some c.in-Some.feed) c.in-Some.ensures.cases (omega arith) in
    omega (arith, feed_found text (Some c.in-Some.feed) found ∙ ap (position_or_len (λ byte. byte == lf)) c.range_from.ensures.value, found.0, ap length c.range_from.ensures.value, length-drop c.args.at c.args.line.now)

pub returns-in-None-clause-value : goal.returns-in-None-clause-value
returns-in-None-clause-value c =
    let text = c.range_from.result.now in
    let found = find_char 10 text None c.in-None.ensures.cases (omega arith) in
    omega (arith, feed_found text None found ∙ ap (position_or_len (λ byte. byte == lf)) c.range_from.ensures.value, ap length c.range_from.ensures.value, length-drop c.args.at c.args.line.now, c.requires.0)
