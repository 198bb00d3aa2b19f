use Rattle.std.proofs.Common.{◌≡◌, ◌∙◌, refl, sym, ap, arith, rules}
use Rattle.laws_screens.specs.StyledCells.{styled}
use Rattle.ecma_terminal.specs.Cells.{shown_cell}
use Rattle.ecma_terminal.proofs.TerminalSteps.{same_rule, becomes_redrawn, led_there}
use Rattle.ecma_terminal.proofs.terminal.EcmaTerminal.act_by.Goals as goal

pub returns-in-65-default : goal.returns-in-65-default
returns-in-65-default c =
    rw c.in-65-default.is-0
    (same_rule _ _ _ _ c.lead_to.ensures
    (λ t s. led_there t _ _ _ _ (omega (arith, s.row, c.cursor-row.ensures.row, c.told_steps-steps.ensures, c.saturating_sub.ensures)) (s.col ∙ sym c.cursor-row.ensures.col)))

pub returns-in-66-default : goal.returns-in-66-default
returns-in-66-default c =
    let rows : c.self.inside.grid.rows ≡ c.args.self.now.grid.rows = ap (λ v. v.grid.rows) c.self.view_is in
    rw c.in-66-default.is-0
    (same_rule _ _ _ _ c.lead_to-in-66-default.ensures
    (λ t s. led_there t _ _ _ _ (omega (arith, s.row, rows, c.rows-last_row.ensures.value, c.cursor-row.ensures.row, c.told_steps-steps.ensures, c.min.ensures)) (s.col ∙ sym c.cursor-row.ensures.col)))

pub returns-in-67-default : goal.returns-in-67-default
returns-in-67-default c =
    let cols : c.self.inside.grid.cols ≡ c.args.self.now.grid.cols = ap (λ v. v.grid.cols) c.self.view_is in
    rw c.in-67-default.is-0
    (same_rule _ _ _ _ c.lead_to-in-67-default.ensures
    (λ t s. led_there t _ _ _ _ (s.row ∙ sym c.cursor-row.ensures.row)
    (omega (arith, s.col, cols, c.cols-last_col.ensures.value, c.cursor-row.ensures.col, c.told_steps-steps.ensures, c.min-in-67-default.ensures))))

pub returns-in-68-default : goal.returns-in-68-default
returns-in-68-default c =
    rw c.in-68-default.is-0
    (same_rule _ _ _ _ c.lead_to-in-68-default.ensures
    (λ t s. led_there t _ _ _ _ (s.row ∙ sym c.cursor-row.ensures.row)
    (omega (arith, s.col, c.cursor-row.ensures.col, c.told_steps-steps.ensures, c.saturating_sub-in-68-default.ensures))))

pub returns-in-72-default : goal.returns-in-72-default
returns-in-72-default c =
    let rows : c.self.inside.grid.rows ≡ c.args.self.now.grid.rows = ap (λ v. v.grid.rows) c.self.view_is in
    rw c.in-72-default.is-0
    (same_rule _ _ _ _ c.lead_to-in-72-default.ensures
    (λ t s. led_there t _ 0 _ 0 (omega (arith, rows, c.rows-last_row.ensures.value, c.told_steps-steps.ensures, c.min-in-72-default.ensures)) refl))

pub returns-in-74-eq2 : goal.returns-in-74-eq2
returns-in-74-eq2 c =
    rw (c.in-74-eq2.is-0, c.in-74-eq2.is-1, ← c.self.view_is)
    (same_rule _ _ _ _ (becomes_redrawn _ c.clear.new.self _ c.clear.ensures)
    (λ t s. ap (λ a. record t { cell = λ r k. styled.paper a.background }) s.rendition ∙ ap (λ x. record t { cell = λ r k. shown_cell x }) (sym c.blank-paper.ensures)))

pub returns-in-100-default : goal.returns-in-100-default
returns-in-100-default c =
    let rows : c.self.inside.grid.rows ≡ c.args.self.now.grid.rows = ap (λ v. v.grid.rows) c.self.view_is in
    rw c.in-100-default.is-0
    (same_rule _ _ _ _ c.lead_to-in-100-default.ensures
    (λ t s. led_there t _ _ _ _ (omega (arith, rows, c.rows-last_row.ensures.value, c.told_steps-steps.ensures, c.min-in-100-default.ensures)) (s.col ∙ sym c.cursor-row.ensures.col)))

pub returns-in-74-eq0 : goal.returns-in-74-eq0
returns-in-74-eq0 c = search rules

pub returns-in-75-eq0 : goal.returns-in-75-eq0
returns-in-75-eq0 c = search rules
