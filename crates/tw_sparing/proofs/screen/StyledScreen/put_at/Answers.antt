use Rattle.std.proofs.Common.{◌<◌, IfSome, length, refl, ap, sym, subst, arith}
use Rattle.std.specs.Prelude.{slice_set}
use Rattle.tw_sparing.specs.declared.cell.ScreenCell.{ScreenCell}
use Rattle.tw_sparing.specs.StyledScreens.{StyledView, IsPlainFrom, styled_cell}
use Rattle.tw_sparing.proofs.DrawnCells.{set_puts}
use Rattle.tw_sparing.proofs.PlainCells.{kept_with, plain_put}
use Rattle.tw_sparing.proofs.screen.StyledScreen.put_at.Goals as goal

pub invariant_of-self : goal.invariant_of-self
invariant_of-self c =
    let now = c.self.inside in
    let old : StyledView = record { width = now.width; row = now.row; col = now.col; kept = now.kept; cells = now.cells.items; rest = now.rest } in
    let x : ScreenCell = record { character = c.args.character; attributes = now.kept } in
    let new : StyledView = record old { cells = slice_set now.cells.items c.args.place x } in
    let inside : c.args.place < length now.cells.items = omega (arith, c.in_ok-fill_to.ensures.len, ap (λ v. length v.cells) c.self.view_is) in
    kept_with now.is_plain now.plain_from c.plain_behind-self-inside.result old new.cells c.self.invariant
    (subst (λ from. IfSome from (λ f. IsPlainFrom f new)) (sym c.plain_behind-self-inside.ensures)
    (plain_put now.is_plain now.plain_from old new c.args.place (styled_cell x) c.self.invariant.plain refl (set_puts old c.args.place x inside) c.self.invariant.cells))
