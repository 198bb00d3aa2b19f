use Rattle.std.proofs.Common.{◌≡◌, ◌∙◌, ◌∷◌, [], length, sym, ap, arith}
use Rattle.std.proofs.lemmas.List.{take_all}
use Rattle.tw_ansi.specs.Selections.{fields}
use Rattle.ecma_terminal.proofs.Fields.{fields_last, fields_more}
use Rattle.ecma_terminal.proofs.rendition.first_field.Goals as goal

pub returns-in-Some : goal.returns-in-Some
returns-in-Some c =
    let parts = c.in-Some.ensures.cases in
    let split = c.split_at.ensures in (
      fields_more c.args.parameters.now c.semicolon_at.result _ _ c.semicolon_at.ensures.value (sym split.back ∙ parts.0)
          ∙ ap (λ field. field ∷ fields c.in-Some.more.now) (sym split.front),
      omega (arith, parts.1, split.back_len),
    )

pub returns-in-None : goal.returns-in-None
returns-in-None c =
    let split = c.split_at.ensures in
    let all : length c.args.parameters.now ≡ c.semicolon_at.result = omega (arith, c.in-None.ensures.cases, split.back_len) in
    fields_last c.args.parameters.now (sym c.semicolon_at.ensures.value ∙ sym all)
    ∙ ap (λ field. field ∷ []) (sym (take_all c.semicolon_at.result c.args.parameters.now (omega (arith, all))) ∙ sym split.front)
