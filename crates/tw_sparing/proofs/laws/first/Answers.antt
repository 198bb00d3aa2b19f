use Rattle.tw_sparing.proofs.FirstScreens.{first_is_known}
use Rattle.tw_sparing.proofs.laws.first.Goals as goal

pub returns : goal.returns
returns c = first_is_known
