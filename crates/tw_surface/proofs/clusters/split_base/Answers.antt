use Rattle.std.proofs.Common.{[], ◌∷◌, ◌++◌, sym, ap, ◌∙◌}
use Rattle.std.specs.Prelude.{encode_utf8}
use Rattle.tw_surface.proofs.LoneWidths.{front_split, some_with}
use Rattle.tw_surface.proofs.OpeningLemmas.{one}
use Rattle.tw_surface.proofs.clusters.split_base.Goals as goal

pub returns : goal.returns
returns c =
    let text = c.args.text.now in
    let first = c.in_ok-next.field-0 in
    let behind = c.as_str.result.now in
    let whole = sym c.chars-chars.ensures.rest ∙ c.in_ok-next.ensures.steps.0 ∙ ap (λ t. encode_utf8 first ++ t) (sym c.as_str.ensures) in
    some_with c.split_joined.result
    (λ cut. front_split text behind cut.1.now (first ∷ []) c.in_ok-columns.columns cut.0 c.utf8.text (one text behind first whole) c.in_ok-columns.ensures)
    c.split_joined.ensures
