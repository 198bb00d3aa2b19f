use Rattle.laws_screens.proofs.CursorCellLemmas.{cursor_stands_before, cursor_stands_behind}
use Rattle.laws_screens.proofs.laws.cursors.Goals as goal

pub returns : goal.returns
returns g c = record { cell = cursor_stands_before; behind = cursor_stands_behind }
