use Rattle.std.proofs.Common.{ℕ, ◌<◌, ◌++◌, ◌-◌, List, length, take, map, string_bytes, ap, sym, ◌∙◌, arith, rules}
use Rattle.tw_host.specs.ElementView.{ElementView, element_view}
use Rattle.tw_hosts.specs.Tokens.{text_before, joined_elements, styled_or_plain, style_of, styled_tokens, token_len}
use Rattle.tw_hosts.proofs.TokenLemmas.{tokens-none, tokens-step}
use Rattle.tw_hosts.proofs.tokens.highlight_tokens.Goals as goal

pub loop-rest-init : goal.loop-rest-init
loop-rest-init c = (search rules, (length c.args.line.now, omega arith, search rules))

pub loop-rest-preserved : goal.loop-rest-preserved
loop-rest-preserved c =
    let keywords = map string_bytes c.args.keywords.now in
    let rest = c.loop-rest.rest.now in
    let some : 0 < length rest = search rules in
    let (left, enough, so) = c.loop-rest.invariant.1 in
    let next = left - 1 in
    let tokens : List ℕ → List ElementView = λ text. styled_tokens next c.args.styles keywords text in
    let shown : List ElementView → List ElementView = λ more. map element_view c.loop-rest.elements.items ++ text_before (string_bytes c.loop-rest.plain) (joined_elements more) in
    let step = tokens-step left next c.args.styles keywords rest (omega (arith, enough, some)) some in (
      search rules,
      (
        next,
        omega (arith, enough, c.split_token.ensures.shorter),
        c.in_ok-push_token.ensures (tokens c.split_token.result.1.now)
            ∙ ap (λ style. shown (styled_or_plain style c.split_token.result.0.now ++ tokens c.split_token.result.1.now)) c.style_of-style.ensures
            ∙ ap (λ token. shown (styled_or_plain (style_of c.args.styles keywords token) token ++ tokens c.split_token.result.1.now)) c.split_token.ensures.token
            ∙ ap (λ after. shown (styled_or_plain (style_of c.args.styles keywords (take (token_len rest) rest)) (take (token_len rest) rest) ++ tokens after)) c.split_token.ensures.rest
            ∙ ap shown (sym step)
            ∙ so,
      ),
    )

pub returns : goal.returns
returns c =
    let shown : List ElementView → List ElementView = λ more. map element_view c.loop-rest.elements.items ++ text_before (string_bytes c.loop-rest.plain) (joined_elements more) in
    let (left, enough, so) = c.loop-rest.invariant.1 in
    c.in_ok-push_plain.ensures ∙ sym (ap shown (tokens-none left c.args.styles (map string_bytes c.args.keywords.now) c.loop-rest.rest.now (search rules))) ∙ so
