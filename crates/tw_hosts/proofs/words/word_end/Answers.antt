use Rattle.std.proofs.Common.{not, arith, rules, tests}
use Rattle.std.proofs.lemmas.Bool.Decides.{nat_tests}
use Rattle.std.proofs.lemmas.Iterator.{YieldsList-from_slice}
use Rattle.std.proofs.lemmas.Iterator.Search.{position_from_yields_List}
use Rattle.std.proofs.lemmas.List.Sums.{prefix_len-le-length}
use Rattle.tw_hosts.specs.Words.{is_delimiter}
use Rattle.tw_hosts.proofs.words.word_end.Goals as goal

pub returns-clause-value : goal.returns-clause-value
returns-clause-value c =
    let test = is_delimiter c.args.delimiters.now in
    let found = position_from_yields_List test _ _ _ c.position-end.ensures.ran (YieldsList-from_slice c.args.text.now cc) (λ x b q k. search (rules, tests)) in
    let low = prefix_len-le-length (λ byte. not (test byte)) c.args.text.now in
    grind (arith, nat_tests)
