use Rattle.std.proofs.Common.{◌≡◌, ◌-◌, length, take, drop, take_all, length-drop, arith}
use Rattle.std.proofs.lemmas.Bool.Decides.{nat_tests}
use Rattle.tw_hosts.proofs.tokens.quote_len.Goals as goal

pub returns : goal.returns
returns c =
    let body = drop 1 c.args.text.now in
    let size = length-drop 1 c.args.text.now in
    let whole : take (length c.args.text.now - 1) body ≡ body = take_all (length c.args.text.now - 1) body (omega (arith, size)) in
    grind (arith, nat_tests)
