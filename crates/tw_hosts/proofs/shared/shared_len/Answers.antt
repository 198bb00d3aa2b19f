use Rattle.std.proofs.Common.{drop, eqb, arith}
use Rattle.std.proofs.lemmas.List.{length-drop}
use Rattle.std.proofs.lemmas.List.Sums.{common_prefix_len-le}
use Rattle.tw_hosts.proofs.shared.shared_len.Goals as goal

pub returns-else-len-other : goal.returns-else-len-other
returns-else-len-other c =
    let rest = common_prefix_len-le eqb (drop c.loop-len.len c.args.text.now) (drop c.loop-len.len c.args.other.now) in
    omega (arith, c.loop-len.invariant, rest.1, length-drop c.loop-len.len c.args.other.now)
