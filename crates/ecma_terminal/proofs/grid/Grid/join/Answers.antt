use Rattle.std.proofs.Common.{◌<◌, ap, ◌∙◌, inl, inr}
use Rattle.std.specs.Prelude.{unwrap_or}
use Rattle.std.proofs.lemmas.Bool.{cases_lt}
use Rattle.laws_screens.specs.StyledCells.{styled}
use Rattle.ecma_terminal.specs.Cells.{shown_cell}
use Rattle.ecma_terminal.proofs.GridLemmas.{join_redraws}
use Rattle.ecma_terminal.proofs.grid.Grid.join.Goals as goal

pub returns-clause-joined : goal.returns-clause-joined
returns-clause-joined c = λ _.
    let cell = c.in-Some.ensures in
    let low : c.args.row < c.args.self.now.rows = elim (cases_lt c.args.row c.args.self.now.rows) [ inl l ↦ l | inr m ↦ absurd (cc (cell.below m)) ] in
    let inner : c.args.col < c.args.self.now.cols = elim (cases_lt c.args.col c.args.self.now.cols) [ inl l ↦ l | inr m ↦ absurd (cc (cell.behind m)) ] in
    join_redraws c.args.row c.args.col c.args.mark.now c.args.self.now c.put.new.self (shown_cell c.in-Some-join.longer)
    (c.in-Some-join.ensures.joined ∙ ap (λ x. styled.join (shown_cell (unwrap_or x c.in-Some.cell)) c.args.mark.now) (cell.inside low inner)) low inner c.put.ensures
