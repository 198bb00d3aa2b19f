-- The changes so far are played.
use Rattle.std.proofs.Common.{take}
use Rattle.tw_surface.specs.ChangeView.{batch_view}
use Rattle.tw_sparing.specs.Shown.{IsPlayed}
use Rattle.tw_sparing.proofs.shown.Shown.play_all.Given as goal

abbrev pub invariant-loop-change : goal.invariant-loop-change
invariant-loop-change l = IsPlayed l.rows (batch_view (take l.change-index l.changes)) l.fn.self l.self
