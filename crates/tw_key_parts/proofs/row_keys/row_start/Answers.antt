use Rattle.std.proofs.Common.{◌≡◌, ◌+◌, ◌-◌, length, get_or, Some, None, ap, sym, ◌∙◌, arith}
use Rattle.std.proofs.lemmas.Str.Pattern.{rfind_char}
use Rattle.tw_hosts.specs.Words.{end_row}
use Rattle.tw_key_parts.proofs.StepLemmas.{last_row}
use Rattle.tw_key_parts.proofs.row_keys.row_start.Goals as goal

pub returns-in-Some-clause-value : goal.returns-in-Some-clause-value
returns-in-Some-clause-value c =
    let text = c.split_at.result.0.now in
    let feed = c.in-Some.feed in
    let (low, there, none) = rfind_char 10 text (Some feed) c.in-Some.ensures.cases (omega arith) in
    sym (last_row text (feed + 1) (omega (arith, low)) (λ i above below. none i (omega (arith, above)) below) (λ k e. let same : k ≡ feed = omega (arith, e) in ap (λ n. get_or text n 0) same ∙ there)) ∙ ap (λ t. length t - length (end_row t)) c.split_at.ensures.front

pub returns-in-None-clause-value : goal.returns-in-None-clause-value
returns-in-None-clause-value c =
    let text = c.split_at.result.0.now in
    let none = rfind_char 10 text None c.in-None.ensures.cases (omega arith) in
    sym (last_row text 0 (omega arith) (λ i above below. none i below) (λ k e. absurd (omega (arith, e)))) ∙ ap (λ t. length t - length (end_row t)) c.split_at.ensures.front
