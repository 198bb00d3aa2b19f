use Rattle.std.proofs.Common.{◌≡◌, ◌+◌, length, ap, subst, ◌∙◌}
use Rattle.std.proofs.lemmas.Result.{on_ok_weaker}
use Rattle.std.specs.List.{insert_slice}
use Rattle.std.specs.Prelude.{encode_utf8}
use Rattle.std.specs.Str.{chars, IsUtf8}
use Rattle.unicode_segmentation.proofs.TextLemmas.{chars-encode_utf8}
use Rattle.tw_line.specs.Text.{bytes_of, chars_of}
use Rattle.tw_line.proofs.EditLemmas.{length-chars-insert}
use Rattle.tw_line.proofs.TextLemmas.{bytes_utf8}
use Rattle.tw_line.proofs.text.Text.insert_char.Goals as goal

pub returns-clause-full : goal.returns-clause-full
returns-clause-full c =
    let one : length (chars (encode_utf8 c.args.c)) ≡ 1 = ap length (chars-encode_utf8 c.args.c (subst IsUtf8 c.encode_utf8.ensures.value c.encode_utf8.utf8)) in
    rw (c.encode_utf8.ensures.value, one) at c.insert_text.ensures.full

pub returns-clause-count : goal.returns-clause-count
returns-clause-count c =
    let text = c.args.self.now in
    let utf8 = subst IsUtf8 c.encode_utf8.ensures.value c.encode_utf8.utf8 in
    let one : length (chars (encode_utf8 c.args.c)) ≡ 1 = ap length (chars-encode_utf8 c.args.c utf8) in
    let more = length-chars-insert (bytes_of text) (encode_utf8 c.args.c) c.args.at (bytes_utf8 text) utf8 c.requires in
    let bytes = rw c.encode_utf8.ensures.value at c.insert_text.ensures.ok in
    on_ok_weaker {P = bytes_of c.insert_text.new.self ≡ insert_slice (bytes_of text) c.args.at (encode_utf8 c.args.c)} _ (λ e. ap (λ t. length (chars t)) e ∙ more ∙ ap (λ n. length (chars_of text) + n) one) bytes
