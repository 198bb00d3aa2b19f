use Rattle.tw_sparing.proofs.ShownChanges.{changed_is_shown}
use Rattle.tw_sparing.proofs.laws.changed.Goals as goal

pub returns : goal.returns
returns c = changed_is_shown
