use Rattle.std.proofs.Common.{◌∙◌, ◌<◌, [], length, sym}
use Rattle.tw_ansi.specs.Selections.{fields}
use Rattle.ecma_terminal.specs.Colors.{selection_of}
use Rattle.ecma_terminal.proofs.Fields.{outcome_refused, outcome_taken}
use Rattle.ecma_terminal.proofs.rendition.selected.Goals as goal

pub returns-in_err-selection : goal.returns-in_err-selection
returns-in_err-selection c =
    let rest = c.loop-selection.rest.now in
    c.from_residual.ensures
    ∙ sym (outcome_refused (λ more. more.now) (λ more. length more.now < length rest) c.first_field.result.1 rest c.first_field.result.0.now
    (selection_of c.loop-selection.selection) c.first_field.ensures c.in_err-selection.ensures)
    ∙ c.loop-selection.invariant

pub returns-in-None : goal.returns-in-None
returns-in-None c =
    let rest = c.loop-selection.rest.now in
    let told = c.in_ok-selection.ensures in
    sym (outcome_taken rest c.first_field.result.0.now [] (selection_of c.loop-selection.selection) (selection_of c.in_ok-selection.selection)
    (rw c.in-None.is at c.first_field.ensures) told.0 told.1)
    ∙ c.loop-selection.invariant

pub loop-selection-preserved : goal.loop-selection-preserved
loop-selection-preserved c =
    let rest = c.loop-selection.rest.now in
    let told = c.in_ok-selection.ensures in
    let parts = rw c.in-Some.is at c.first_field.ensures in
    sym (outcome_taken rest c.first_field.result.0.now (fields c.in-Some.more.now) (selection_of c.loop-selection.selection) (selection_of c.in_ok-selection.selection)
    parts.0 told.0 told.1)
    ∙ c.loop-selection.invariant
