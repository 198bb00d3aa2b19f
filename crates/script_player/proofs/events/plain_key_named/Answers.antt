use Rattle.std.proofs.Common.{None, arith}
use Rattle.std.proofs.lemmas.Str.Pattern.{strip_prefix_char}
use Rattle.script_player.proofs.events.plain_key_named.Goals as goal

pub returns-in_err-strip_prefix-in-Err-clause-function : goal.returns-in_err-strip_prefix-in-Err-clause-function
returns-in_err-strip_prefix-in-Err-clause-function c =
    let lacks = strip_prefix_char 70 _ None c.in_err-strip_prefix-in-Err.ensures.cases (omega arith) in
    λ n low named. absurd (lacks named.0 named.1)
