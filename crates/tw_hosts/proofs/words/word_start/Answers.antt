use Rattle.std.proofs.Common.{length, not, ap, sym, subst, arith, rules, tests}
use Rattle.std.proofs.lemmas.Bool.Decides.{nat_tests}
use Rattle.std.proofs.lemmas.Iterator.Adapters.{YieldsList-from_rev_slice}
use Rattle.std.proofs.lemmas.Iterator.Search.{position_from_yields_List}
use Rattle.std.proofs.lemmas.List.{length-reverse}
use Rattle.std.proofs.lemmas.List.Sums.{suffix_len-le-length}
use Rattle.std.specs.Str.{IsCharBoundary}
use Rattle.tw_hosts.specs.Words.{is_delimiter}
use Rattle.tw_hosts.proofs.WordLemmas.{start_boundary}
use Rattle.tw_hosts.proofs.words.word_start.Goals as goal

pub returns-clause-value : goal.returns-clause-value
returns-clause-value c =
    let text = c.args.text.now in
    let found = position_from_yields_List (is_delimiter c.args.delimiters.now) _ _ _ c.position-word.ensures.ran (YieldsList-from_rev_slice text cc) (λ x b q k. search (rules, tests)) in
    let low = suffix_len-le-length (λ byte. not (is_delimiter c.args.delimiters.now byte)) text in
    let size = length-reverse text in
    let len = ap length c.as_bytes-bytes.ensures.value in
    grind (arith, nat_tests)

pub returns-clause-boundary : goal.returns-clause-boundary
returns-clause-boundary c = subst (IsCharBoundary c.args.text.now) (sym (returns-clause-value c)) (start_boundary c.args.delimiters.now c.args.text.now c.utf8.text)
