use Rattle.std.proofs.Common.{◌≡◌, ◌+◌, ◌*◌, length, ap, sym, ◌∙◌, arith, eqb-true}
use Rattle.std.proofs.lemmas.List.{nil_from_length}
use Rattle.std.proofs.Math.Nat.{mul-zero, zero-mul}
use Rattle.std.specs.List.{insert_slice, repeat}
use Rattle.tw_line.specs.Cut.{cut_at}
use Rattle.tw_line.specs.Edits.{with_text}
use Rattle.tw_line.specs.Extremes.{iterate}
use Rattle.tw_line.specs.Text.{bytes_of}
use Rattle.tw_line.proofs.EditLemmas.{length-insert_slice, with_text-nothing}
use Rattle.tw_line.proofs.ExtremesLemmas.{repeated_none}
use Rattle.tw_line.proofs.RepeatLemmas.{with_text-iterate}
use Rattle.tw_line.proofs.TextLemmas.{length-bytes}
use Rattle.tw_line.proofs.buffer.LineEditBuffer.insert_text_times.Goals.{then-count-eq0-via-then-count-eq0, then-count-eq0-via-else-count-eq0+then-is_empty}
use Rattle.tw_line.proofs.buffer.LineEditBuffer.insert_text_times.Goals as goal

pub returns-then-count-eq0-clause-ok : goal.returns-then-count-eq0-clause-ok
returns-then-count-eq0-clause-ok c =
    elim c.then-count-eq0.branch [
      | then-count-eq0-via-then-count-eq0 w ↦ sym (repeated_none _ _ _ w.if-count-eq0.true)
      | then-count-eq0-via-else-count-eq0+then-is_empty w ↦
          with_text-nothing _ _ _ (nil_from_length _ (eqb-true _ _ (sym w.is_empty.ensures ∙ w.if-is_empty.true)))
    ]

pub returns-then-count-eq0-clause-too_long : goal.returns-then-count-eq0-clause-too_long
returns-then-count-eq0-clause-too_long c long =
    let count = c.args.count in
    let width = length c.args.text.now in
    let none : count * width ≡ 0 =
    elim c.then-count-eq0.branch [
      | then-count-eq0-via-then-count-eq0 w ↦ ap (λ n. n * width) w.if-count-eq0.true ∙ zero-mul width
      | then-count-eq0-via-else-count-eq0+then-is_empty w ↦ ap (λ n. count * n) (eqb-true _ _ (sym w.is_empty.ensures ∙ w.if-is_empty.true)) ∙ mul-zero count
    ] in
    absurd (omega (arith, none, length-bytes c.self.inside.line, ap (λ b. length b.line) c.self.view_is))

pub returns-clause-ok : goal.returns-clause-ok
returns-clause-ok c =
    let text = c.args.text.now in
    let line = bytes_of c.self.inside.line in
    let cursor = c.self.inside.cursor in
    let many = repeat c.args.count text in
    let text_is : c.deref.result.now ≡ many = c.deref.ensures ∙ c.in_ok-repeated.ensures.bytes in
    let width : c.len.result ≡ length many = c.len.ensures ∙ c.in_ok-repeated.repeated.bytes.ok.0 ∙ ap length c.in_ok-repeated.ensures.bytes in
    ap (λ l. cut_at l (cursor + c.len.result)) (c.in_ok-insert_text.ensures.ok ∙ ap (insert_slice line cursor) text_is) ∙ ap (λ n. cut_at (insert_slice line cursor many) (cursor + n)) width
    ∙ sym (with_text-iterate text c.args.count (cut_at line cursor) c.self.invariant.0) ∙ ap (iterate (with_text text) c.args.count) c.self.view_is

pub returns-clause-too_long : goal.returns-clause-too_long
returns-clause-too_long c long =
    let longer = length-insert_slice (bytes_of c.self.inside.line) c.deref.result.now (bytes_of c.insert_text.new.self) c.self.inside.cursor c.in_ok-insert_text.ensures.ok in
    let width : length c.deref.result.now ≡ c.args.count * length c.args.text.now =
    ap length c.deref.ensures ∙ sym c.in_ok-repeated.repeated.bytes.ok.0 ∙ c.in_ok-repeated.ensures.len in
    absurd (omega (arith, longer, width, length-bytes c.insert_text.new.self, ap (λ b. length b.line) c.self.view_is))
