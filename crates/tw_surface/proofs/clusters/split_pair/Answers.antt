use Rattle.std.proofs.Common.{[], ◌∷◌, ◌++◌, sym, ap, ◌∙◌}
use Rattle.std.specs.Prelude.{encode_utf8}
use Rattle.tw_surface.proofs.LoneWidths.{front_split, some_with}
use Rattle.tw_surface.proofs.OpeningLemmas.{two}
use Rattle.tw_surface.proofs.clusters.split_pair.Goals as goal

pub returns-then-is_pair : goal.returns-then-is_pair
returns-then-is_pair c =
    let text = c.args.text.now in
    let first = c.in_ok-first.first in
    let second = c.in_ok-second.second in
    let behind = c.as_str.result.now in
    let whole = sym c.chars-chars.ensures.rest ∙ c.in_ok-first.ensures.steps.0 in
    let next = c.in_ok-second.ensures.steps.0 ∙ ap (λ t. encode_utf8 second ++ t) (sym c.as_str.ensures) in
    some_with c.split_joined.result
    (λ cut. front_split text behind cut.1.now (first ∷ second ∷ []) 2 cut.0 c.utf8.text (two text _ behind first second whole next) (c.is_pair.ensures c.if-is_pair.true))
    c.split_joined.ensures
