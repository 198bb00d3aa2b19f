use Rattle.std.proofs.Common.{length, slice_index, refl, sym, ap, subst, ◌∙◌, arith}
use Rattle.std.specs.Str.{IsCharBoundary}
use Rattle.tw_line.specs.Text.{bytes_of, chars_of}
use Rattle.tw_line.proofs.IndexLemmas.{index_of-char, index_of-offset, offset_of-whole}
use Rattle.tw_line.proofs.StartsLemmas.{IsCharBoundary-offset_of, offset_of-rises}
use Rattle.tw_line.proofs.TextLemmas.{bytes_utf8, start-read, starts-count}
use Rattle.tw_line.proofs.text.Text.character.Goals as goal

pub index-requires : goal.index-requires
index-requires c = omega (arith, starts-count c.args.self.now, c.requires)

pub char_at-c-requires-clause-inside : goal.char_at-c-requires-clause-inside
char_at-c-requires-clause-inside c =
    let text = c.args.self.now in
    let start = start-read text c.args.index _ c.requires c.index.ensures in
    let later = offset_of-rises (bytes_of text) (bytes_utf8 text) c.args.index (length (chars_of text)) c.requires (omega arith) in
    omega (arith, offset_of-whole (bytes_of text) (bytes_utf8 text) (length (chars_of text)) refl)

pub char_at-c-requires-clause-boundary : goal.char_at-c-requires-clause-boundary
char_at-c-requires-clause-boundary c =
    let text = c.args.self.now in
    let start = start-read text c.args.index _ c.requires c.index.ensures in
    subst (IsCharBoundary (bytes_of text)) (sym start) (IsCharBoundary-offset_of (bytes_of text) (bytes_utf8 text) c.args.index)

pub returns : goal.returns
returns c =
    let text = c.args.self.now in
    let start = start-read text c.args.index _ c.requires c.index.ensures in
    let at = rw start at c.char_at-c.ensures in
    sym (ap (slice_index (chars_of text)) (sym (index_of-offset (bytes_of text) (bytes_utf8 text) c.args.index (omega (arith, c.requires)))) ∙ index_of-char (bytes_of text) (bytes_utf8 text) _ _ _ at)
