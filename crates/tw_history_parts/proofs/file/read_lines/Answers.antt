use Rattle.std.proofs.Common.{◌≡◌, Some, None, true, sym, ap, ◌∙◌, string_bytes, arith}
use Rattle.std.specs.Prelude.{not, option_map}
use Rattle.tw_history_parts.specs.HistoryFile.{is_some_text, line_of}
use Rattle.tw_history_parts.proofs.ReadingLemmas.{lost_read, lost_unread, reads_all, reads_line, reads_none}
use Rattle.tw_history_parts.proofs.file.read_lines.Goals as goal

pub loop-text-preserved-in_ok-push-in-Some-2 : goal.loop-text-preserved-in_ok-push-in-Some-2
loop-text-preserved-in_ok-push-in-Some-2 c =
    let rest = c.loop-text.rest.now in
    let text = c.in-Some.text.now in
    let after = c.in-Some.after.now in
    let cut = c.in-Some.ensures.cut in
    let is : Some (string_bytes c.in-Some-2.line) ≡ line_of text = ap (option_map string_bytes) (sym c.in-Some-2.is) ∙ c.in_ok-line.ensures in
    let grown = c.in_ok-push-in-Some-2.ensures.items in
    record {
      read = rw grown (reads_line c.loop-text.lines.items c.in-Some-2.line c.args.bytes.now rest text after cut is c.loop-text.invariant.read);
      lost = omega (arith, c.loop-text.invariant.lost, lost_read rest text after (string_bytes c.in-Some-2.line) cut is);
      few = omega (arith, c.loop-text.invariant.few, c.in-Some.ensures.shorter);
    }

pub loop-text-preserved : goal.loop-text-preserved
loop-text-preserved c =
    let rest = c.loop-text.rest.now in
    let text = c.in-Some.text.now in
    let after = c.in-Some.after.now in
    let cut = c.in-Some.ensures.cut in
    let none : None ≡ line_of text = ap (option_map string_bytes) (sym c.in-None.is) ∙ c.in_ok-line.ensures in
    let some : is_some_text text ≡ true = ap not (sym c.if-is_empty.ensures) in
    record {
      read = reads_none c.loop-text.lines.items c.args.bytes.now rest text after cut none c.loop-text.invariant.read;
      lost = omega (arith, c.loop-text.invariant.lost, lost_unread rest text after cut none some);
      few = omega (arith, c.loop-text.invariant.few, c.in-Some.ensures.shorter);
    }

pub returns-clause-lines : goal.returns-clause-lines
returns-clause-lines c = reads_all c.loop-text.lines.items c.args.bytes.now c.loop-text.rest.now (c.split_line.ensures.none c.in_default.is) c.loop-text.invariant.read
