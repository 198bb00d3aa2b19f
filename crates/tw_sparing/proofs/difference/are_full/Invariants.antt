-- None of the rows before this one ends in a blank.
use Rattle.tw_line.specs.Extremes.{NonePasses}
use Rattle.tw_sparing.specs.Redrawings.{ends_blank}
use Rattle.tw_sparing.specs.Sending.{screen_cells}
use Rattle.tw_sparing.proofs.difference.are_full.Given as goal

abbrev pub invariant-loop-row : goal.invariant-loop-row
invariant-loop-row l = NonePasses (ends_blank l.screen.width (screen_cells l.screen)) l.from l.row
