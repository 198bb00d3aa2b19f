use Rattle.tw_sparing.proofs.PatientDeedLemmas.{patiently_done_is_sent, settled_is_sent}
use Rattle.tw_sparing.proofs.laws.patience.Goals as goal

pub returns : goal.returns
returns g c = record { done = patiently_done_is_sent g.W.Write.contents; settled = settled_is_sent g.W.Write.contents }
