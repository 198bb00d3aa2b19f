use Rattle.std.proofs.Common.{◌≤◌, ◌++◌, length, sym, ap, ◌∙◌, ⊎_elim, arith, rules}
use Rattle.std.proofs.lemmas.Bool.{cases_lt, true≢false}
use Rattle.tw_line.proofs.StartsLemmas.{later_rises, below_later, rest_later, rest_front, binary_digits-le, binary_digits-half}
use Rattle.tw_line.proofs.starts.+count_below.Goals as goal

pub count_below-count-requires : goal.count_below-count-requires
count_below-count-requires t c =
    let whole = c.split_at.ensures.by_index.0 ∙ ap (λ s. c.split_at.result.0.now ++ s) c.in-Some.ensures.cases.0 in
    let rises = later_rises _ _ _ _ c.args.at whole c.requires in
    (search (rules, c.in-Some.ensures, c.split_at.ensures), rises)

pub overflow_add-result-then-is_below-2 : goal.overflow_add-result-then-is_below-2
overflow_add-result-then-is_below-2 t c =
    let digits = binary_digits-le (length c.in-Some.later.now) 64 (omega (arith, c.split_at.ensures.back_len, c.in-Some.ensures.cases.1)) in
    omega (arith, c.count_below-count.ensures.few, c.is_below.ensures.counted)

pub overflow_add-result-else-is_below : goal.overflow_add-result-else-is_below
overflow_add-result-else-is_below t c =
    let digits = binary_digits-le (length c.split_at.result.0.now) 64 (omega (arith, c.split_at.ensures.front_len)) in
    omega (arith, c.count_below-count-else-is_below.ensures.few, c.is_below.ensures.counted)

pub returns-then-is_below-clause-below : goal.returns-then-is_below-clause-below
returns-then-is_below-clause-below t c =
    let whole = c.split_at.ensures.by_index.0 ∙ ap (λ s. c.split_at.result.0.now ++ s) c.in-Some.ensures.cases.0 in
    below_later _ _ _ _ c.args.at whole c.requires (c.is_below.ensures.answer.0 c.if-is_below.true) _ c.count_below-count.ensures.below

pub returns-then-is_below-clause-rest : goal.returns-then-is_below-clause-rest
returns-then-is_below-clause-rest t c =
    let whole = c.split_at.ensures.by_index.0 ∙ ap (λ s. c.split_at.result.0.now ++ s) c.in-Some.ensures.cases.0 in
    rest_later _ _ _ _ c.args.at whole c.requires _ c.count_below-count.ensures.rest

pub returns-then-is_below-clause-few : goal.returns-then-is_below-clause-few
returns-then-is_below-clause-few t c =
    let half = binary_digits-half (length c.in-Some.later.now) (length c.args.starts.now) (omega (arith, c.split_at.ensures.back_len, c.in-Some.ensures.cases.1)) (omega (arith, c.split_at.ensures.back_len, c.in-Some.ensures.cases.1)) in
    omega (arith, c.count_below-count.ensures.few, c.is_below.ensures.counted)

pub returns-else-is_below-clause-rest : goal.returns-else-is_below-clause-rest
returns-else-is_below-clause-rest t c =
    let whole = c.split_at.ensures.by_index.0 ∙ ap (λ s. c.split_at.result.0.now ++ s) c.in-Some.ensures.cases.0 in
    let high : c.args.at ≤ c.in-Some.middle.now =
    ⊎_elim (λ low. absurd (true≢false (sym (c.is_below.ensures.answer.1 low) ∙ c.if-is_below.false))) (λ at. at) (cases_lt c.in-Some.middle.now c.args.at) in
    rest_front _ _ _ _ c.args.at whole c.requires high _ c.count_below-count-else-is_below.ensures.rest

pub returns-else-is_below-clause-few : goal.returns-else-is_below-clause-few
returns-else-is_below-clause-few t c =
    let half = binary_digits-half (length c.split_at.result.0.now) (length c.args.starts.now) (omega (arith, c.split_at.ensures.front_len)) (omega (arith, c.split_at.ensures.back_len, c.in-Some.ensures.cases.1)) in
    omega (arith, c.count_below-count-else-is_below.ensures.few, c.is_below.ensures.counted)
