use Rattle.tw_sparing.proofs.ShortChanges.{nothing_is_sent}
use Rattle.tw_sparing.proofs.TypedChanges.{typed_is_sent_alone}
use Rattle.tw_sparing.proofs.OnwardChanges.{typed_on_is_sent_alone}
use Rattle.tw_sparing.proofs.laws.short_differences.Goals as goal

pub returns : goal.returns
returns c = record { nothing = nothing_is_sent; typed = typed_is_sent_alone; onward = typed_on_is_sent_alone }
