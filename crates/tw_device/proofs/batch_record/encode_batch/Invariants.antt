-- What is sent so far and what the changes that are left are sent as, are what the whole batch is sent as.
use Rattle.std.proofs.Common.{◌≡◌, ◌++◌, drop, string_bytes}
use Rattle.tw_surface.specs.ChangeView.{batch_view}
use Rattle.tw_ansi.specs.Encoding.{sent_batch}
use Rattle.tw_device.proofs.batch_record.encode_batch.Given as goal

abbrev pub invariant-loop-change : goal.invariant-loop-change
invariant-loop-change l = record {
  bytes : string_bytes l.out ++ (sent_batch (batch_view (drop l.change-index l.changes)) l.encoder).bytes
      ≡ string_bytes l.fn.out ++ (sent_batch (batch_view l.changes) l.fn.encoder).bytes;
  next : (sent_batch (batch_view (drop l.change-index l.changes)) l.encoder).next ≡ (sent_batch (batch_view l.changes) l.fn.encoder).next;
}
