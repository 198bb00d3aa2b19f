use Rattle.std.proofs.Common.{string_bytes, arith}
use Rattle.tw_ansi.specs.Encoding.{sent_byte}
use Rattle.tw_sparing.specs.Redrawings.{fed}
use Rattle.tw_sparing.proofs.AddedChanges.{feed_step, feed_added, extends_more}
use Rattle.tw_sparing.proofs.redrawer.Redrawer.feed_lines.Goals as goal

pub loop-line-preserved : goal.loop-line-preserved
loop-line-preserved c =
    let added = feed_added c.loop-line.self c.encode_byte.new.self (string_bytes c.loop-line.out) (string_bytes c.encode_byte.new.out) c.in_ok-encode_byte.ensures.bytes c.in_ok-encode_byte.ensures.next in
    record {
      same = feed_step c.loop-line._line c.args.count c.loop-line.self _ c.args.self.now (string_bytes c.loop-line.out) (string_bytes c.encode_byte.new.out) (string_bytes c.args.out.now) (fed c.args.count c.args.self.now.hand)
          c.loop-line-test.true c.loop-line.invariant.same added;
      row = omega (arith, c.loop-line.invariant.row);
      extends = extends_more (string_bytes c.args.out.now) (string_bytes c.loop-line.out) (string_bytes c.encode_byte.new.out) (sent_byte c.loop-line.self.encoder 10).bytes c.loop-line.invariant.extends c.in_ok-encode_byte.ensures.bytes;
    }
