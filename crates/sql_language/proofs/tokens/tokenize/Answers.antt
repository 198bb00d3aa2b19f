use Rattle.std.proofs.Common.{◌≡◌, ◌++◌, ◌∷◌, ◌-◌, ◌+◌, length, map, ap, sym, ◌∙◌, arith, rules}
use Rattle.std.proofs.lemmas.List.{map-append, append_assoc}
use Rattle.sql_language.specs.Lexemes.{first_tokens, lexeme, token_view}
use Rattle.sql_language.proofs.TokenLemmas.{tokens-none, tokens-zero, tokens-step, none-left}
use Rattle.sql_language.proofs.tokens.tokenize.Goals.{else-loop-test, then-loop-test+then-is_empty}
use Rattle.sql_language.proofs.tokens.tokenize.Goals as goal

pub loop-preserved : goal.loop-preserved
loop-preserved c =
    let rest = c.loop.rest.now in
    let left = length c.args.text.now - c.loop.counter in
    let next = length c.args.text.now - (c.loop.counter + 1) in
    let step = tokens-step left next rest (omega arith) (search rules) in
    let token = c.first_token.result.0 in
    let after = first_tokens next c.first_token.result.1.now in
    let before = map token_view c.loop.found.items in
    let is : token_view token ≡ lexeme rest = cc in (
      search rules,
      ap (λ items. map token_view items ++ after) c.in_ok-push.ensures.items
          ∙ ap (λ tokens. tokens ++ after) (map-append token_view c.loop.found.items _)
          ∙ append_assoc before _ _
          ∙ ap (λ one. before ++ (one ∷ after)) is
          ∙ ap (λ s. before ++ (lexeme rest ∷ first_tokens next s)) c.first_token.ensures.rest
          ∙ ap (λ tokens. before ++ tokens) (sym step)
          ∙ c.loop.invariant.1,
    )

pub returns : goal.returns
returns c =
    elim c.loop-test.branch [
      | else-loop-test w ↦ none-left _ _ _ (tokens-zero _ c.loop.rest.now (omega arith)) c.loop.invariant.1
      | then-loop-test+then-is_empty w ↦ none-left _ _ _ (tokens-none _ c.loop.rest.now (search rules)) c.loop.invariant.1
    ]
