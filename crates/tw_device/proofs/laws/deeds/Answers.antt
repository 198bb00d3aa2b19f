use Rattle.tw_device.proofs.DeedLemmas.{deeds_are_sent, done_is_sent, failures_are_counted}
use Rattle.tw_device.proofs.laws.deeds.Goals as goal

pub returns : goal.returns
returns g c =
    record {
      sent = deeds_are_sent g.W.Write.contents;
      counted = failures_are_counted g.W.Write.contents;
      done = done_is_sent g.W.Write.contents;
    }
