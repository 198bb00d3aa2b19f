use Rattle.std.proofs.Common.{◌≡◌, ◌-◌, ◌∷◌, length, ap, sym, ◌∙◌, map, min, string_bytes, take, arith, rules, eqb}
use Rattle.std.specs.List.{common_prefix_len}
use Rattle.std.proofs.lemmas.Iterator.{YieldsList-from_slice}
use Rattle.std.proofs.lemmas.Iterator.Consumers.{fold_from_yields_List}
use Rattle.tw_hosts.specs.SharedCandidate.{common_beginning}
use Rattle.tw_hosts.proofs.BeginningLemmas.{least_shared, shared_len-is}
use Rattle.tw_hosts.proofs.shared.common_beginning.Goals as goal

pub returns : goal.returns
returns c =
    let text = c.as_str-text.result.now in
    let others = c.in-Some.others.now in
    let n = c.floor_char_boundary.result in
    let end = fold_from_yields_List _ (λ end other. min end (common_prefix_len eqb text (string_bytes other))) _ c.fold-end.result c.fold-end.ensures.ran
    (YieldsList-from_slice others cc) (λ a x b q k. search rules) ∙ ap (λ whole. least_shared text whole others) (ap length c.as_bytes-bytes.ensures.value) in
    let found = shared_len-is text others n (omega (arith, end, c.floor_char_boundary.ensures.bound)) c.floor_char_boundary.ensures.boundary
    (λ k above within. c.floor_char_boundary.ensures.nearest k above (omega (arith, end, within))) in
    let whole : n - 0 ≡ n = omega arith in
    c.range.ensures.value ∙ ap (λ n. take n text) (whole ∙ sym found)
    ∙ ap (λ one. common_beginning (one ∷ map string_bytes others)) c.as_str-text.ensures.value
    ∙ ap (λ words. common_beginning (map string_bytes words)) (sym c.in-Some.ensures.cases.0)
