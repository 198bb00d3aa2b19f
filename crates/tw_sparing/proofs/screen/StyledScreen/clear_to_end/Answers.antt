use Rattle.std.proofs.Common.{◌≡◌, ◌≤◌, length, sym, ap, ◌∙◌, subst, arith}
use Rattle.tw_sparing.specs.StyledScreens.{ShowsStyled}
use Rattle.tw_sparing.proofs.DrawnCells.{clear_shows, same_shows}
use Rattle.tw_sparing.proofs.screen.StyledScreen.clear_to_end.Goals as goal

pub returns-clause-shown : goal.returns-clause-shown
returns-clause-shown c s h =
    let filled = c.in_ok-fill_to.ensures in
    let now = c.self.inside in
    let width : c.args.self.now.width ≡ now.width = sym (ap (λ v. v.width) c.self.view_is ∙ filled.same.width) in
    let row : c.args.self.now.row ≡ now.row = sym (ap (λ v. v.row) c.self.view_is ∙ filled.shown.row) in
    let col : c.args.self.now.col ≡ now.col = sym (ap (λ v. v.col) c.self.view_is ∙ filled.shown.col) in
    let inside : c.place-place.result ≤ length now.cells.items = omega (arith, filled.len, ap (λ v. length v.cells) c.self.view_is) in
    rw (c.truncate.ensures.items, c.blank-self-inside.ensures) (clear_shows now.width now.row now.col c.place-place.result now.kept now.cells.items now.rest _ s
    c.self.invariant.reach.col_most (rw (row, col, width) at c.place-place.ensures.place) inside
    (subst (λ v. ShowsStyled v s) (sym c.self.view_is) (same_shows _ _ s filled.same.width filled.shown h)))
