use Rattle.std.proofs.Common.{◌≡◌, ◌*◌, ◌∙◌, ◌∷◌, [], ap, subst, refl, arith, length, min, take}
use Rattle.std.specs.Prelude.{slice_index_or}
use Rattle.laws_screens.specs.Pens.{led}
use Rattle.laws_screens.specs.Strokes.Stroke.{ClearBehind}
use Rattle.tw_surface.specs.Defaults.{default_color}
use Rattle.tw_sparing.specs.StyledScreens.{StyledView, AreDrawn, at_row, paper_cell, styled_cell}
use Rattle.tw_sparing.proofs.DrawnCells.{clears_cut, cut_same}
use Rattle.tw_sparing.proofs.screen.StyledScreen.emptied_from.Goals as goal

pub returns-clause-drawn : goal.returns-clause-drawn
returns-clause-drawn c =
    let now = c.self.inside in
    let old : StyledView = record { width = now.width; row = now.row; col = now.col; kept = now.kept; cells = now.cells.items; rest = now.rest } in
    let cut : StyledView = record old { cells = c.in-Ok.cells.items } in
    let paper = styled_cell (paper_cell default_color) in
    let row = led c.args.y now.row in
    let cells : c.in-Ok.cells.items ≡ take c.min-before.result now.cells.items = c.in-Ok.ensures.items ∙ ap (take c.min-before.result) c.deref.ensures.value in
    let len : c.len.result ≡ length now.cells.items = omega (arith, c.len.ensures, now.cells.ok) in
    let before : c.min-before.result ≡ min (length now.cells.items) (row * now.width) =
    c.min-before.ensures ∙ ap (λ n. min n (c.led_to-row.result * now.width)) len ∙ ap (λ r. min (length now.cells.items) (r * now.width)) c.led_to-row.ensures in
    subst (λ v. AreDrawn (at_row (led c.args.y v.row) v) (ClearBehind paper ∷ []) c.clear_to_end.new.self) c.self.view_is
    (clears_cut old cut c.clear_to_end.new.self row paper refl c.in_ok-clear_to_end.ensures.same.width
    (λ i low. ap styled_cell (let same : slice_index_or c.in-Ok.cells.items i now.rest ≡ slice_index_or now.cells.items i now.rest = rw cells (cut_same c.min-before.result (row * now.width) now.cells.items i now.rest before low) in same))
    (subst (λ r. AreDrawn (at_row r cut) (ClearBehind paper ∷ []) c.clear_to_end.new.self) c.led_to-row.ensures c.in_ok-clear_to_end.ensures.shown))
