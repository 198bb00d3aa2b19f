use Rattle.std.proofs.Common.{◌-◌, ◌<◌, ◌≤◌, length, sym, subst, ◌∙◌, arith}
use Rattle.std.proofs.lemmas.Str.{IsCharBoundary-end}
use Rattle.std.specs.List.Sorted.{IsStrictlyIncreasing}
use Rattle.std.specs.Str.{IsCharBoundary}
use Rattle.tw_line.specs.Text.{bytes_of, chars_of}
use Rattle.tw_line.proofs.BoundaryLemmas.{boundary_below-is}
use Rattle.tw_line.proofs.StartsLemmas.{IsCharBoundary-offset_of, boundary_below-from_starts, length-starts_from, some_below, start_is}
use Rattle.tw_line.proofs.TextLemmas.{bytes_utf8, start-read, starts-count, starts-rise}
use Rattle.tw_line.proofs.text.Text.boundary_below.Goals as goal

pub returns-then-limit-len-clause-value : goal.returns-then-limit-len-clause-value
returns-then-limit-len-clause-value c =
    let text = c.args.self.now in
    c.len-len.ensures
    ∙ sym (boundary_below-is (bytes_of text) c.args.limit _ (omega (arith, c.len-len.ensures, c.if-limit-len.true)) (IsCharBoundary-end (bytes_of text)) (λ at above low cut. absurd (omega (arith, cut.0))))

pub count_below-after-requires : goal.count_below-after-requires
count_below-after-requires c = subst IsStrictlyIncreasing (sym c.deref.ensures.value) (starts-rise c.args.self.now)

pub overflow_sub-after : goal.overflow_sub-after
overflow_sub-after c =
    let text = c.args.self.now in
    let found = rw (c.deref.ensures.value, text.listed) at c.count_below-after.ensures in
    some_below (bytes_of text) (bytes_utf8 text) c.args.limit _ (omega (arith, c.len-len.ensures, c.if-limit-len.false)) found.rest

pub index-requires : goal.index-requires
index-requires c =
    let text = c.args.self.now in
    let found = rw (c.deref.ensures.value, text.listed) at c.count_below-after.ensures in
    let some = some_below (bytes_of text) (bytes_utf8 text) c.args.limit _ (omega (arith, c.len-len.ensures, c.if-limit-len.false)) found.rest in
    omega (arith, found.within, length-starts_from 0 (chars_of text), starts-count text)

pub returns : goal.returns
returns c =
    let text = c.args.self.now in
    let inside : c.args.limit < length (bytes_of text) = omega (arith, c.len-len.ensures, c.if-limit-len.false) in
    let found = rw (c.deref.ensures.value, text.listed) at c.count_below-after.ensures in
    let after = c.count_below-after.result.0 in
    let within : after ≤ length (chars_of text) = omega (arith, found.within, length-starts_from 0 (chars_of text)) in
    let some = some_below (bytes_of text) (bytes_utf8 text) c.args.limit after inside found.rest in
    let last : after - 1 < length (chars_of text) = omega arith in
    let start = start-read text (after - 1) _ last c.index.ensures in
    record {
      value =
          start ∙ sym (start_is (bytes_of text) (bytes_utf8 text) (after - 1) last)
          ∙ boundary_below-from_starts (bytes_of text) (bytes_utf8 text) c.args.limit after inside within found.below found.rest some;
      boundary = subst (IsCharBoundary (bytes_of text)) (sym start) (IsCharBoundary-offset_of (bytes_of text) (bytes_utf8 text) (after - 1));
    }
