use Rattle.std.proofs.Common.{◌≡◌, ◌<◌, ◌≤◌, ap, sym, ◌∙◌, subst, arith}
use Rattle.laws_screens.specs.StyledCells.{StyledCell}
use Rattle.tw_sparing.specs.StyledScreens.{StyledView, IsPutAt, styled_cell}
use Rattle.tw_sparing.proofs.DrawnCells.{put_shows}
use Rattle.tw_sparing.proofs.screen.StyledScreen.put.Goals as goal

pub returns-clause-shown : goal.returns-clause-shown
returns-clause-shown c s h =
    let written = c.in_ok-put_at.ensures in
    let old = c.args.self.now in
    let now = c.self.inside in
    let mid : StyledView = record { width = now.width; row = now.row; col = now.col; kept = now.kept; cells = now.cells.items; rest = now.rest } in
    let x : StyledCell = styled_cell (record { character = c.args.character; attributes = old.kept }) in
    let width : now.width ≡ old.width = ap (λ v. v.width) c.self.view_is ∙ written.same.width in
    let col : now.col ≡ old.col = ap (λ v. v.col) c.self.view_is ∙ written.put.col in
    let above : 0 < old.width = omega (arith, c.self.invariant.reach.width_above, width) in
    let most : old.col ≤ old.width = omega (arith, c.self.invariant.reach.col_most, width, col) in
    put_shows old mid c.place-place.result c.next_cell-row.result.0 c.next_cell-row.result.1 x s
    above most c.place-place.ensures.place c.next_cell-row.ensures.row c.next_cell-row.ensures.col width
    (subst (λ v. IsPutAt c.place-place.result x old v) (sym c.self.view_is) written.put) h
