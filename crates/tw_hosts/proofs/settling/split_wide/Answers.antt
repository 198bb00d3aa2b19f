use Rattle.std.proofs.Common.{arith, rules}
use Rattle.std.proofs.lemmas.Bool.Decides.{nat_tests}
use Rattle.std.proofs.lemmas.Str.{IsUtf8-past_char}
use Rattle.tw_hosts.proofs.SettlingLemmas.{pieces_past}
use Rattle.tw_hosts.proofs.settling.split_wide.Goals as goal

pub returns-then-width-gt0-clause-pieces : goal.returns-then-width-gt0-clause-pieces
returns-then-width-gt0-clause-pieces c =
    let past = pieces_past _ _ _ c.loop-c.invariant.utf8 c.in-Some.ensures.steps.0 in
    grind (arith, nat_tests)

pub loop-c-preserved : goal.loop-c-preserved
loop-c-preserved c =
    let split = c.in-Some.ensures.steps.0 in
    let past = pieces_past _ _ _ c.loop-c.invariant.utf8 split in
    record {
      utf8 = IsUtf8-past_char _ _ _ c.loop-c.invariant.utf8 split;
      pieces = grind (arith, nat_tests);
      shorter = search rules;
    }
