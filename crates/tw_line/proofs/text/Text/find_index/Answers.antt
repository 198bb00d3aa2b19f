use Rattle.std.proofs.Common.{◌≡◌, length, sym, ap, subst, ◌∙◌, arith}
use Rattle.std.specs.List.Sorted.{IsStrictlyIncreasing}
use Rattle.tw_line.specs.Text.{bytes_of, chars_of}
use Rattle.tw_line.proofs.StartsLemmas.{index_of-from_starts, length-starts_from}
use Rattle.tw_line.proofs.TextLemmas.{bytes_utf8, starts-rise}
use Rattle.tw_line.proofs.text.Text.find_index.Goals as goal

pub count_below-requires : goal.count_below-requires
count_below-requires c = subst IsStrictlyIncreasing (sym c.deref.ensures.value) (starts-rise c.args.self.now)

pub returns : goal.returns
returns c =
    let text = c.args.self.now in
    let count : length c.deref.result.now ≡ length (chars_of text) = ap length (c.deref.ensures.value ∙ text.listed) ∙ length-starts_from 0 (chars_of text) in
    let found = rw (c.deref.ensures.value, text.listed) at c.count_below.ensures in
    record {
      index = index_of-from_starts (bytes_of text) (bytes_utf8 text) _ _ c.requires (omega (arith, count, c.count_below.ensures.within)) found.below found.rest;
      some = λ h. c.count_below.ensures.some (rw count h);
      few = rw count at c.count_below.ensures.few;
    }
