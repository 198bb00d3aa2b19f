-- What was selected and what is left decide.
use Rattle.std.proofs.Common.{◌≡◌, length}
use Rattle.tw_ansi.specs.Selections.{fields}
use Rattle.ecma_terminal.specs.Colors.{selection_of, selected_if_fit}
use Rattle.ecma_terminal.proofs.Fields.{outcome}
use Rattle.ecma_terminal.proofs.rendition.selected.Given as goal

abbrev pub invariant-loop-selection : goal.invariant-loop-selection
invariant-loop-selection l = outcome (fields l.rest) (selection_of l.selection) ≡ selected_if_fit l.parameters l.fn.attributes

abbrev pub decreases-loop-selection : goal.decreases-loop-selection
decreases-loop-selection l = length l.rest
