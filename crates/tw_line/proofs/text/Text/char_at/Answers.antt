use Rattle.std.proofs.Common.{◌++◌, ◌-◌, drop, length, sym, ap, ◌∙◌, arith, length-drop}
use Rattle.std.proofs.lemmas.List.{take_all}
use Rattle.std.proofs.lemmas.Str.{IsCharBoundary-end, IsUtf8-string_bytes}
use Rattle.std.specs.Prelude.{encode_utf8}
use Rattle.unicode_segmentation.proofs.TextLemmas.{IsCharAt-first}
use Rattle.tw_line.specs.Text.{bytes_of}
use Rattle.tw_line.proofs.text.Text.char_at.Goals as goal

pub returns : goal.returns
returns c =
    let line = bytes_of c.args.self.now in
    let start = c.args.start in
    let rest = take_all (length line - start) (drop start line) (omega (arith, length-drop start line)) in
    let from = rw c.as_str-line.ensures.value at c.range_from.ensures.value in
    let split = rest ∙ sym from ∙ sym c.chars-chars.ensures.rest ∙ c.in-Some.ensures.steps.0 ∙ ap (λ t. encode_utf8 c.in-Some.c ++ t) (sym c.as_str.ensures) in
    rw c.as_str-line.ensures.value
    (IsCharAt-first line (IsUtf8-string_bytes c.args.self.now.line) start (length line) c.in-Some.c c.as_str.result.now (omega arith) c.requires.boundary
    (IsCharBoundary-end line) split)
