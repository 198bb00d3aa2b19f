use Rattle.std.proofs.Common.{◌≡◌, ◌∙◌, ◌+◌, ◌-◌, Some, None, length, drop, take, ap, sym, subst, arith, rules, drop-drop, length-drop}
use Rattle.std.specs.Str.{IsCharBoundary}
use Rattle.std.proofs.lemmas.List.{length-take-le}
use Rattle.std.proofs.lemmas.Str.{IsCharBoundary-from_rest}
use Rattle.sql_language.specs.Lexemes.{lexeme_kind, lexeme_len}
use Rattle.sql_language.specs.Statements.{len_in, part_after}
use Rattle.sql_language.proofs.StatementLemmas.{beyond, beyond-both, len-ends, len-on, len-over}
use Rattle.sql_language.proofs.statements.statement_len.Goals as goal

pub returns-in-None-clause-value : goal.returns-in-None-clause-value
returns-in-None-clause-value c =
    let rest = c.loop.rest.now in
    let left = length c.args.text.now - c.loop.counter in
    let next = length c.args.text.now - (c.loop.counter + 1) in
    let long = ap length c.first_token.ensures.token ∙ length-take-le (lexeme_len rest) rest c.first_token.ensures.boundary.0 in
    let ends : part_after c.loop.part (lexeme_kind rest) (take (lexeme_len rest) rest) ≡ None = cc in
    ap (λ n. Some (c.loop.len + n)) long
    ∙ sym (ap (beyond c.loop.len) (len-ends left next c.loop.part rest (omega arith) ends)) ∙ c.loop.invariant.3

pub returns-in-None-clause-boundary : goal.returns-in-None-clause-boundary
returns-in-None-clause-boundary c =
    let text = c.args.text.now in
    let rest = c.loop.rest.now in
    let long = ap length c.first_token.ensures.token ∙ length-take-le (lexeme_len rest) rest c.first_token.ensures.boundary.0 in
    let within = subst (λ s. IsCharBoundary s (lexeme_len rest)) c.loop.invariant.2 c.first_token.ensures.boundary in
    subst (λ n. IsCharBoundary text (c.loop.len + n)) (sym long) (IsCharBoundary-from_rest text c.loop.len (lexeme_len rest) c.loop.invariant.1 within)

pub loop-preserved : goal.loop-preserved
loop-preserved c =
    let text = c.args.text.now in
    let rest = c.loop.rest.now in
    let len = c.loop.len in
    let first = lexeme_len rest in
    let part = c.in-Some.next in
    let left = length text - c.loop.counter in
    let next = length text - (c.loop.counter + 1) in
    let long = ap length c.first_token.ensures.token ∙ length-take-le first rest c.first_token.ensures.boundary.0 in
    let goes : part_after c.loop.part (lexeme_kind rest) (take first rest) ≡ Some part = cc in (
      search rules,
      omega (arith, long, c.first_token.ensures.boundary.0, c.loop.invariant.1, length-drop len text, ap length c.loop.invariant.2),
      c.first_token.ensures.rest ∙ ap (drop first) c.loop.invariant.2 ∙ drop-drop first len text ∙ ap (λ n. drop (len + n) text) (sym long),
      ap (λ n. beyond (len + n) (len_in next part c.first_token.result.1.now)) long
          ∙ ap (λ s. beyond (len + first) (len_in next part s)) c.first_token.ensures.rest
          ∙ sym (beyond-both len first (len_in next part (drop first rest)))
          ∙ sym (ap (beyond len) (len-on left next c.loop.part rest (omega arith) part goes))
          ∙ c.loop.invariant.3,
    )

pub returns-clause-value : goal.returns-clause-value
returns-clause-value c = sym (ap (beyond c.loop.len) (len-over _ c.loop.part c.loop.rest.now (omega arith))) ∙ c.loop.invariant.3
