use Rattle.std.proofs.Common.{◌≡◌, ◌<◌, length, sym, ap, subst, ◌∙◌, arith}
use Rattle.std.specs.Str.{IsCharBoundary}
use Rattle.tw_line.specs.Text.{bytes_of, chars_of, index_in}
use Rattle.tw_line.proofs.IndexLemmas.{index_of-offset, offset_of-whole, index_of-end}
use Rattle.tw_line.proofs.StartsLemmas.{IsCharBoundary-offset_of}
use Rattle.tw_line.proofs.TextLemmas.{bytes_utf8, start-read, starts-count}
use Rattle.tw_line.proofs.text.Text.offset_of.Goals as goal

pub returns-then-index-len : goal.returns-then-index-len
returns-then-index-len c =
    let text = c.args.self.now in
    let inside : c.args.index < length (chars_of text) = omega (arith, starts-count text, c.len.ensures, c.if-index-len.true) in
    let start = start-read text c.args.index _ inside c.index.ensures in
    record {
      value = start;
      boundary = subst (IsCharBoundary (bytes_of text)) (sym start) (IsCharBoundary-offset_of (bytes_of text) (bytes_utf8 text) c.args.index);
      index = ap (index_in text) start ∙ index_of-offset (bytes_of text) (bytes_utf8 text) c.args.index c.requires;
    }

pub returns-else-index-len-clause-value : goal.returns-else-index-len-clause-value
returns-else-index-len-clause-value c =
    let text = c.args.self.now in
    let last : c.args.index ≡ length (chars_of text) = omega (arith, starts-count text, c.len.ensures, c.if-index-len.false, c.requires) in
    c.len-else-index-len.ensures ∙ sym (offset_of-whole (bytes_of text) (bytes_utf8 text) c.args.index last)

pub returns-else-index-len-clause-index : goal.returns-else-index-len-clause-index
returns-else-index-len-clause-index c =
    let text = c.args.self.now in
    let last : c.args.index ≡ length (chars_of text) = omega (arith, starts-count text, c.len.ensures, c.if-index-len.false, c.requires) in
    index_of-end (bytes_of text) (bytes_utf8 text) _ c.len-else-index-len.ensures ∙ sym last
