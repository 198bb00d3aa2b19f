use Rattle.std.proofs.Common.{◌+◌, ◌<◌, length, ap, arith, rules}
use Rattle.std.specs.Str.{chars}
use Rattle.tw_line.specs.Text.{chars_of, places_of}
use Rattle.tw_line.proofs.TextLemmas.{starts-count}
use Rattle.tw_line.proofs.text.Text.reserve.Goals as goal

pub returns-clause-places : goal.returns-clause-places
returns-clause-places c =
    let same = ap (λ t. length (chars t)) c.in_ok-reserve.ensures.bytes in
    omega (arith, same, starts-count c.args.self.now, c.in_ok-reserve-2.ensures.ok, c.in_ok-reserve-2.ensures.len)

pub returns-in_err-reserve-2-clause-err : goal.returns-in_err-reserve-2-clause-err
returns-in_err-reserve-2-clause-err c =
    let text = c.args.self.now in
    let full : places_of text < length (chars_of text) + c.args.characters = omega (arith, starts-count text, c.in_err-reserve-2.ensures.full) in
    search (rules, full)
