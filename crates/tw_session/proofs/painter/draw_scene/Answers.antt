use Rattle.std.proofs.Common.{◌≤◌, subst, nat_abs, rules}
use Rattle.std.specs.Int.{w64}
use Rattle.std.proofs.lemmas.Int.{to_z-of_z}
use mir.Val.{SFits}
use Rattle.std.proofs.lemmas.Result.{err_from_is_err_and}
use Rattle.tw_surface.specs.ChangeView.{Batch}
use Rattle.tw_surface.specs.Places.{Place}
use Rattle.tw_surface.specs.Drawings.{Drawing, place}
use Rattle.tw_surface.specs.Paintings.{before_line, shown_part}
use Rattle.tw_host.specs.ElementView.{changes_of}
use Rattle.tw_host.specs.HostRules.{Highlight}
use Rattle.tw_session.specs.DrawSteps.{IsStepRefusal, stay_in_range, Drawn, DrawnScene, lower_of}
use Rattle.tw_session.proofs.DrawingLimits.{empty, row-drawn, height-drawn}
use Rattle.tw_session.proofs.PaintingSteps.{uncleared, line_part, refused-prompt, refused-line, refused-lower, HasCell, cell-from, cell-in_range, drawn-line, drawn-shown, drawn-scene}
use Rattle.tw_session.proofs.painter.draw_scene.Goals as goal

pub returns-in_err-draw_prompt : goal.returns-in_err-draw_prompt
returns-in_err-draw_prompt g c =
    let p = err_from_is_err_and c.from_residual.result c.from_residual.ensures.1 in
    let prompt : Batch = changes_of (g.H.LineEditorHost.rules.prompt (g.H.LineEditorHost.value c.args.host.now) c.args.prompt.now) in
    let shown : Highlight = g.H.LineEditorHost.rules.highlight (g.H.LineEditorHost.value c.args.host.now) c.args.line.now in
    let P : Drawing → Type 0 = λ d. IsStepRefusal (stay_in_range d (before_line prompt)) c.in_err-draw_prompt.field-0.0 in
    rw (p.1, p.2)
    (refused-prompt c.args.cols prompt (changes_of shown.elements) shown.column (lower_of g.H.LineEditorHost.rules (g.H.LineEditorHost.value c.args.host.now) c.args.line.now c.args.below) _ (subst P c.requires.empty c.in_err-draw_prompt.ensures))

pub cursor_cell-requires-clause-row : goal.cursor_cell-requires-clause-row
cursor_cell-requires-clause-row g c =
    let prompt : Batch = changes_of (g.H.LineEditorHost.rules.prompt (g.H.LineEditorHost.value c.args.host.now) c.args.prompt.now) in
    let P : Drawing → Type 0 = λ d. Drawn (before_line prompt) d c.draw_prompt.new.drawing in
    let h : nat_abs (place c.draw_prompt.new.drawing).y ≤ 2147483647 =
    row-drawn c.args.cols (before_line prompt) _ (subst P c.requires.empty c.in_ok-draw_prompt.ensures) in
    rw c.current_cursor_position-start.ensures.row h

pub returns-in_err-draw_line : goal.returns-in_err-draw_line
returns-in_err-draw_line g c =
    let p = err_from_is_err_and c.from_residual-in_err-draw_line.result c.from_residual-in_err-draw_line.ensures.1 in
    let prompt : Batch = changes_of (g.H.LineEditorHost.rules.prompt (g.H.LineEditorHost.value c.args.host.now) c.args.prompt.now) in
    let shown : Highlight = g.H.LineEditorHost.rules.highlight (g.H.LineEditorHost.value c.args.host.now) c.args.line.now in
    let P : Drawing → Type 0 = λ d. Drawn (before_line prompt) d c.draw_prompt.new.drawing in
    rw (p.1, p.2)
    (refused-line c.args.cols prompt (changes_of shown.elements) shown.column (lower_of g.H.LineEditorHost.rules (g.H.LineEditorHost.value c.args.host.now) c.args.line.now c.args.below) c.draw_prompt.new.drawing _
    (subst P c.requires.empty c.in_ok-draw_prompt.ensures)
    (rw c.in_ok-elements.ensures.elements at c.in_err-draw_line.ensures))

pub returns-in_err-draw_below : goal.returns-in_err-draw_below
returns-in_err-draw_below g c =
    let p = err_from_is_err_and c.from_residual-in_err-draw_below.result c.from_residual-in_err-draw_below.ensures.1 in
    let prompt : Batch = changes_of (g.H.LineEditorHost.rules.prompt (g.H.LineEditorHost.value c.args.host.now) c.args.prompt.now) in
    let shown : Highlight = g.H.LineEditorHost.rules.highlight (g.H.LineEditorHost.value c.args.host.now) c.args.line.now in
    let line : Batch = changes_of shown.elements in
    let P : Drawing → Type 0 = λ d. Drawn (before_line prompt) d c.draw_prompt.new.drawing in
    let first : Drawn (before_line prompt) (empty c.args.cols) c.draw_prompt.new.drawing = subst P c.requires.empty c.in_ok-draw_prompt.ensures in
    let second : Drawn (line_part c.args.cols prompt line) (empty c.args.cols) c.draw_line.new.drawing =
    drawn-line c.args.cols prompt line c.draw_prompt.new.drawing c.draw_line.new.drawing first (rw c.in_ok-elements.ensures.elements at c.in_ok-draw_line.ensures) in
    rw (p.1, p.2) (refused-lower c.args.cols prompt line shown.column (lower_of g.H.LineEditorHost.rules (g.H.LineEditorHost.value c.args.host.now) c.args.line.now c.args.below) c.draw_line.new.drawing _ second c.in_err-draw_below.ensures)

pub invariant_of-result : goal.invariant_of-result
invariant_of-result g c =
    let prompt : Batch = changes_of (g.H.LineEditorHost.rules.prompt (g.H.LineEditorHost.value c.args.host.now) c.args.prompt.now) in
    let shown : Highlight = g.H.LineEditorHost.rules.highlight (g.H.LineEditorHost.value c.args.host.now) c.args.line.now in
    let line : Batch = changes_of shown.elements in
    let P : Drawing → Type 0 = λ d. Drawn (before_line prompt) d c.draw_prompt.new.drawing in
    let first : Drawn (before_line prompt) (empty c.args.cols) c.draw_prompt.new.drawing = subst P c.requires.empty c.in_ok-draw_prompt.ensures in
    let second : Drawn (line_part c.args.cols prompt line) (empty c.args.cols) c.draw_line.new.drawing =
    drawn-line c.args.cols prompt line c.draw_prompt.new.drawing c.draw_line.new.drawing first (rw c.in_ok-elements.ensures.elements at c.in_ok-draw_line.ensures) in
    let all : Drawn (shown_part c.args.cols (uncleared prompt line shown.column (lower_of g.H.LineEditorHost.rules (g.H.LineEditorHost.value c.args.host.now) c.args.line.now c.args.below))) (empty c.args.cols) c.draw_below.new.drawing =
    drawn-shown c.args.cols prompt line shown.column (lower_of g.H.LineEditorHost.rules (g.H.LineEditorHost.value c.args.host.now) c.args.line.now c.args.below) c.draw_line.new.drawing c.draw_below.new.drawing second c.in_ok-draw_below.ensures in
    let cell : Place = record { x = c.in-Some.cell.0; y = c.in-Some.cell.1 } in
    let found : HasCell c.args.cols (place c.draw_prompt.new.drawing) shown.column cell =
    cell-from c.args.cols (place c.draw_prompt.new.drawing) c.current_cursor_position-start.result.0 c.current_cursor_position-start.result.1
    c.in_ok-elements.column shown.column cell
    c.current_cursor_position-start.ensures.column c.current_cursor_position-start.ensures.row c.in_ok-elements.ensures.column c.in-Some.ensures in
    let fits : SFits w64 c.in-Some.cell.1 = search rules in
    rw (to_z-of_z w64 c.in-Some.cell.1 fits)
    (record {
      near = cell-in_range c.args.cols c.draw_prompt.new.drawing shown.column cell found;
      low = rw c.render_height-height.ensures (height-drawn c.args.cols _ c.draw_below.new.drawing all);
    })

pub returns : goal.returns
returns g c =
    let prompt : Batch = changes_of (g.H.LineEditorHost.rules.prompt (g.H.LineEditorHost.value c.args.host.now) c.args.prompt.now) in
    let shown : Highlight = g.H.LineEditorHost.rules.highlight (g.H.LineEditorHost.value c.args.host.now) c.args.line.now in
    let line : Batch = changes_of shown.elements in
    let P : Drawing → Type 0 = λ d. Drawn (before_line prompt) d c.draw_prompt.new.drawing in
    let first : Drawn (before_line prompt) (empty c.args.cols) c.draw_prompt.new.drawing = subst P c.requires.empty c.in_ok-draw_prompt.ensures in
    let second : Drawn (line_part c.args.cols prompt line) (empty c.args.cols) c.draw_line.new.drawing =
    drawn-line c.args.cols prompt line c.draw_prompt.new.drawing c.draw_line.new.drawing first (rw c.in_ok-elements.ensures.elements at c.in_ok-draw_line.ensures) in
    let all : Drawn (shown_part c.args.cols (uncleared prompt line shown.column (lower_of g.H.LineEditorHost.rules (g.H.LineEditorHost.value c.args.host.now) c.args.line.now c.args.below))) (empty c.args.cols) c.draw_below.new.drawing =
    drawn-shown c.args.cols prompt line shown.column (lower_of g.H.LineEditorHost.rules (g.H.LineEditorHost.value c.args.host.now) c.args.line.now c.args.below) c.draw_line.new.drawing c.draw_below.new.drawing second c.in_ok-draw_below.ensures in
    let cell : Place = record { x = c.in-Some.cell.0; y = c.in-Some.cell.1 } in
    let found : HasCell c.args.cols (place c.draw_prompt.new.drawing) shown.column cell =
    cell-from c.args.cols (place c.draw_prompt.new.drawing) c.current_cursor_position-start.result.0 c.current_cursor_position-start.result.1
    c.in_ok-elements.column shown.column cell
    c.current_cursor_position-start.ensures.column c.current_cursor_position-start.ensures.row c.in_ok-elements.ensures.column c.in-Some.ensures in
    let whole : DrawnScene c.args.cols (uncleared prompt line shown.column (lower_of g.H.LineEditorHost.rules (g.H.LineEditorHost.value c.args.host.now) c.args.line.now c.args.below)) c.move_to.new.self (record { row = cell.y; height = c.render_height-height.result }) =
    drawn-scene c.args.cols prompt line shown.column (lower_of g.H.LineEditorHost.rules (g.H.LineEditorHost.value c.args.host.now) c.args.line.now c.args.below) c.draw_prompt.new.drawing c.draw_below.new.drawing c.move_to.new.self
    cell c.render_height-height.result first all found c.in_ok-move_to.ensures.moved c.render_height-height.ensures in
    let fits : SFits w64 c.in-Some.cell.1 = search rules in
    rw (to_z-of_z w64 c.in-Some.cell.1 fits) whole
