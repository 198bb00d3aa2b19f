-- What adding a change does to a sequence.
use Rattle.std.specs.Prelude.{◌≡◌, ◌↔◌, false, [], ◌∷◌, ◌++◌, Result, Err, OnOk, OnErr}
use Rattle.tw_surface.specs.declared.sequence.AddFault.{AddFault}
use Rattle.tw_surface.specs.declared.sequence.AddFault.TheVariants.{OutOfRange}
use Rattle.tw_surface.specs.ChangeView.{ChangeView}
use Rattle.tw_surface.specs.Places.{Place, move_between, stays_in_range}
use Rattle.tw_surface.specs.Drawings.{Drawing, place}

-- a change goes last, or is refused: out of range exactly where it reaches a place that is, and a refusal changes
-- nothing
pub record Adds (change : ChangeView) (old new : Drawing) (result : Result Unit AddFault) : Type 0 where
  pub added : OnOk result (new ≡ record old { changes = old.changes ++ change ∷ [] })
  pub refused : OnErr result (new ≡ old)
  pub range : (result ≡ Err OutOfRange) ↔ (stays_in_range old.cols change (place old) ≡ false)

-- the relative move to a place goes last
abbrev pub with_move_to : Place → Drawing → Drawing
with_move_to p d = record d { changes = d.changes ++ move_between (place d) p ∷ [] }
