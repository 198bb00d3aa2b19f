use Rattle.tw_sparing.proofs.ShortBatches.{nothing_for_nothing, typed_alone}
use Rattle.tw_sparing.proofs.laws.shortness.Goals as goal

pub returns : goal.returns
returns c = record { nothing = nothing_for_nothing; typed = typed_alone }
