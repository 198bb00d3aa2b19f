use Rattle.std.proofs.Common.{◌++◌, subst, ℕ, List}
use Rattle.std.specs.Io.KnownBytes.{Appends}
use Rattle.tw_device.proofs.DeedLemmas.{appends_then}
use Rattle.tw_device.proofs.batch_record.BatchRecord.send.Goals as goal

pub returns-clause-sent : goal.returns-clause-sent
returns-clause-sent c d =
    let contents = c.W.Write.contents in
    let old = contents d.args.writer.now in
    let new = contents d.write_text-2.new.writer in
    subst (λ (reset : List ℕ). Appends old new (reset ++ d.args.text.now)) d.reset.ensures.text
    (appends_then old (contents d.write_text.new.writer) new d.reset.result.now d.args.text.now d.in_ok-write_text.ensures.sent d.in_ok-write_text-2.ensures.sent)
