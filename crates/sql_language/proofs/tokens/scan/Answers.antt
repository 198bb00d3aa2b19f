use Rattle.std.proofs.Common.{◌≡◌, ◌∙◌, ◌+◌, ◌-◌, ◌<◌, ◌≤◌, length, get_or, ap, sym, subst, arith}
use Rattle.std.specs.Str.{IsCharBoundary}
use Rattle.sql_language.specs.Lexemes.{lexeme_len}
use Rattle.sql_language.proofs.LexerLemmas.{on-takes}
use Rattle.sql_language.proofs.LexemeLemmas.{rest-on, rest-off, rest-end, token-boundary}
use Rattle.sql_language.proofs.tokens.scan.Goals as goal

pub returns-in-None-clause-len : goal.returns-in-None-clause-len
returns-in-None-clause-len c =
    let text = c.as_bytes-bytes.result.now in
    let low : c.loop-at.at < length text = omega arith in
    sym (rest-off c.loop-at.inside text c.loop-at.at low (sym c.continued.ensures ∙ c.in-None.is)) ∙ c.loop-at.invariant.len ∙ ap lexeme_len c.as_bytes-bytes.ensures.value

pub returns-in-None-clause-boundary : goal.returns-in-None-clause-boundary
returns-in-None-clause-boundary c =
    let text = c.as_bytes-bytes.result.now in
    let low : c.loop-at.at < length text = omega arith in
    subst (λ bytes. IsCharBoundary bytes c.loop-at.at) c.as_bytes-bytes.ensures.value
    (token-boundary text c.loop-at.at c.loop-at.inside c.as_bytes-bytes.ensures.utf8 c.loop-at.invariant.some low c.loop-at.invariant.takes (sym c.continued.ensures ∙ c.in-None.is))

pub loop-at-preserved : goal.loop-at-preserved
loop-at-preserved c =
    let text = c.as_bytes-bytes.result.now in
    let at = c.loop-at.at in
    let low : at < length text = omega arith in
    let next = c.in-Some.next in
    let on = sym c.continued.ensures ∙ c.in-Some.is in
    let back : (at + 1) - 1 ≡ at = omega arith in
    record {
      len = sym (rest-on c.loop-at.inside text at low next on) ∙ c.loop-at.invariant.len;
      takes = λ h. on-takes c.loop-at.inside next (get_or text at 0) on (subst (λ n. 128 ≤ get_or text n 0) back h);
      some = omega arith;
      filled = c.loop-at.invariant.filled;
    }

pub returns-clause-len : goal.returns-clause-len
returns-clause-len c =
    let text = c.as_bytes-bytes.result.now in
    let end : c.loop-at.at ≡ length text = omega (arith, c.loop-at.auto.at-end c.loop-at.invariant.filled) in
    sym (rest-end c.loop-at.inside text c.loop-at.at end) ∙ c.loop-at.invariant.len ∙ ap lexeme_len c.as_bytes-bytes.ensures.value
