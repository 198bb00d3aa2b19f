use Rattle.std.proofs.Common.{◌≡◌, length, sym, ap, ◌∙◌, arith, rules}
use Rattle.std.proofs.lemmas.Str.{chars_from_encodes}
use Rattle.std.specs.Str.{chars}
use Rattle.tw_line.specs.Starts.{starts_of}
use Rattle.tw_line.specs.Text.{bytes_of, LacksRoom}
use Rattle.tw_line.proofs.StartsLemmas.{starts_of-insert}
use Rattle.tw_line.proofs.TextLemmas.{bytes_utf8, lacks-some, starts-count, starts-fit}
use Rattle.tw_line.proofs.text.Text.insert_text.Goals as goal

pub returns-in_err-reserve-clause-full : goal.returns-in_err-reserve-clause-full
returns-in_err-reserve-clause-full c =
    let count : c.count.result ≡ length (chars c.args.text.now) = search (rules, chars_from_encodes) in
    let full = rw count at c.in_err-reserve.ensures.err in
    search (rules, full)

pub returns-in_err-reserve-clause-empty : goal.returns-in_err-reserve-clause-empty
returns-in_err-reserve-clause-empty c empty =
    let text = c.args.text.now in
    let count : c.count.result ≡ length (chars text) = search (rules, chars_from_encodes) in
    let full = rw count at c.in_err-reserve.ensures.err in
    let lacks : LacksRoom (length text) (length (chars text)) c.args.self.now = search (rules, full) in
    absurd (lacks-some c.args.self.now text lacks empty)

pub insert_starts-requires-clause-inside : goal.insert_starts-requires-clause-inside
insert_starts-requires-clause-inside c = omega (arith, starts-count c.reserve.new.self, c.index_of-index.ensures.within)

pub insert_starts-requires-clause-later_fit : goal.insert_starts-requires-clause-later_fit
insert_starts-requires-clause-later_fit c = starts-fit c.reserve.new.self _ (omega (arith, c.in_ok-reserve.ensures.room, c.in_ok-reserve.ensures.limit)) _

pub insert_starts-requires-clause-room : goal.insert_starts-requires-clause-room
insert_starts-requires-clause-room c =
    let count : c.count.result ≡ length (chars c.args.text.now) = search (rules, chars_from_encodes) in
    omega (arith, starts-count c.reserve.new.self, c.in_ok-reserve.ensures.places, count)

pub invariant_of-self : goal.invariant_of-self
invariant_of-self c =
    let text = c.reserve.new.self in
    let cut = rw (sym c.in_ok-reserve.ensures.bytes) at c.requires in
    let whole = starts_of-insert (bytes_of text) (bytes_utf8 text) c.args.text.now c.args.at c.utf8.text cut in
    let items = rw (c.index_of-index.ensures.index, text.listed) at c.insert_starts.ensures.items in
    record { listed = items ∙ whole ∙ ap starts_of (sym c.in-Ok.ensures.bytes) }
