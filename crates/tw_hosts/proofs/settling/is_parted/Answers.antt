use Rattle.tw_surface.specs.Width.{char_columns}
use Rattle.std.proofs.Common.{◌==◌, ◌+◌, ◌^◌, ◌-◌, ◌<◌, ◌∙◌, length, min, not, arith, rules, tests}
use Rattle.std.specs.Str.{chars}
use Rattle.std.proofs.lemmas.Bool.Decides.{nat_tests}
use Rattle.std.proofs.lemmas.Iterator.{YieldsList-from_chars}
use Rattle.std.proofs.lemmas.Iterator.Consumers.{fold_from_yields_List}
use Rattle.std.proofs.lemmas.Iterator.Search.{all_from_yields_List}
use Rattle.tw_hosts.proofs.SettlingLemmas.{saturated}
use Rattle.tw_hosts.proofs.settling.is_parted.Goals as goal

pub returns-then-all : goal.returns-then-all
returns-then-all c =
    let text = c.args.cluster.now in
    let top = 2 ^ 64 - 1 in
    let apart =
    all_from_yields_List (λ ch. not (char_columns ch == c.cluster_width-width.result)) _ _ _ c.all.ensures.ran
    (YieldsList-from_chars text c.utf8.cluster c.chars.ensures.rest) (λ x b q k. search (rules, tests)) in
    let sum = fold_from_yields_List _ (λ sum ch. min (sum + char_columns ch) top) 0 c.fold.result c.fold.ensures.ran
    (YieldsList-from_chars text c.utf8.cluster c.chars-then-all.ensures.rest) (λ a x b q k. search rules) ∙ saturated (chars text) 0 top (omega arith) in
    let short : length text < 2 ^ 63 = search rules in
    grind (arith, nat_tests)

pub returns-else-all : goal.returns-else-all
returns-else-all c =
    let apart =
    all_from_yields_List (λ ch. not (char_columns ch == c.cluster_width-width.result)) _ _ _ c.all.ensures.ran
    (YieldsList-from_chars c.args.cluster.now c.utf8.cluster c.chars.ensures.rest) (λ x b q k. search (rules, tests)) in
    grind (arith, nat_tests)
