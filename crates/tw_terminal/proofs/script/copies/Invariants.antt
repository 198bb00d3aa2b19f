use Rattle.std.proofs.Common.{◌≡◌, take}
use Rattle.tw_surface.specs.ChangeView.{batch_view}
use Rattle.tw_terminal.proofs.script.copies.Given as goal

abbrev pub invariant-loop-change : goal.invariant-loop-change
invariant-loop-change l = batch_view l.copies.items ≡ batch_view (take l.change-index l.changes)
