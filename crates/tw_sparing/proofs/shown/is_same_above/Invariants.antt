-- The rows before this one show the same.
use Rattle.std.proofs.Common.{◌≡◌, ◌<◌, ℕ}
use Rattle.tw_sparing.specs.Sending.{screen_cells}
use Rattle.tw_sparing.proofs.shown.is_same_above.Given as goal

abbrev pub invariant-loop-row : goal.invariant-loop-row
invariant-loop-row l = (i j : ℕ) → i < l.row → j < l.new.width → screen_cells l.old i j ≡ screen_cells l.new i j
