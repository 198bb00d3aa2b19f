use Rattle.std.proofs.Common.{◌≡◌, ◌+◌, ◌-◌, ◌*◌, ◌/◌, ◌%◌, ◌<◌, ◌≤◌, IfSome, List, ◌++◌, length, map, ap, sym, subst, arith}
use Rattle.std.proofs.Math.Nat.{div-le_self, mod-lt}
use Rattle.std.proofs.lemmas.List.{length-append, length-map}
use Rattle.laws_screens.specs.Strokes.{steps}
use Rattle.tw_sparing.specs.declared.cell.ScreenCell.{ScreenCell}
use Rattle.tw_sparing.specs.StyledScreens.{StyledView, ShowsStyled, IsPlainFrom, cell_under, character_stroke, plain_behind}
use Rattle.tw_sparing.proofs.PlainCells.{plain_typed}
use Rattle.tw_sparing.proofs.TypedOn.{IsAtEnd, type_shows}
use Rattle.tw_sparing.proofs.screen.StyledScreen.type_on.Goals as goal

pub invariant_of-self-2 : goal.invariant_of-self-2
invariant_of-self-2 c =
    let now = c.self.inside in
    let text = c.args.text.now in
    let old : StyledView = record { width = now.width; row = now.row; col = now.col; kept = now.kept; cells = now.cells.items; rest = now.rest } in
    let cells : c.push_cells.new.cells.items ≡ now.cells.items ++ map (cell_under now.kept) text = c.in_ok-push_cells.ensures.ok in
    let len : c.len-last.result ≡ length now.cells.items + length text =
    omega (arith, c.len-last.ensures, ap length cells, length-append now.cells.items (map (cell_under now.kept) text), length-map text (cell_under now.kept)) in
    let room : length now.cells.items + length text ≤ 4294967295 = subst (λ v. length v.cells + length text ≤ 4294967295) (sym c.self.view_is) c.requires.room in
    let some : 0 < length text = c.requires.some in
    let last = c.len-last.result - 1 in
    record {
      reach = record {
        width_above = c.self.invariant.reach.width_above;
        width_most = c.self.invariant.reach.width_most;
        row_most = omega (arith, div-le_self last now.width, len, room);
        col_most = omega (arith, mod-lt last c.self.invariant.reach.width_above);
      };
      plain = c.self.invariant.plain;
      cells = subst (λ from. IfSome from (λ f. IsPlainFrom f (record old { cells = c.push_cells.new.cells.items }))) (sym c.plain_behind-self-inside.ensures)
          (subst (λ l. IfSome (plain_behind now.is_plain last now.plain_from) (λ f. IsPlainFrom f (record old { cells = l }))) (sym cells)
          (plain_typed now.is_plain now.plain_from old text last c.self.invariant.plain (omega (arith, len, some)) c.self.invariant.cells));
    }

pub returns-clause-shown : goal.returns-clause-shown
returns-clause-shown c s =
    let now = c.self.inside in
    let text = c.args.text.now in
    let old : StyledView = record { width = now.width; row = now.row; col = now.col; kept = now.kept; cells = now.cells.items; rest = now.rest } in
    let cells : c.push_cells.new.cells.items ≡ now.cells.items ++ map (cell_under now.kept) text = c.in_ok-push_cells.ensures.ok in
    let len : c.len-last.result ≡ length now.cells.items + length text =
    omega (arith, c.len-last.ensures, ap length cells, length-append now.cells.items (map (cell_under now.kept) text), length-map text (cell_under now.kept)) in
    let last = c.len-last.result - 1 in
    let end : IsAtEnd old = record {
      place = subst (λ v. length v.cells ≡ v.row * v.width + v.col) (sym c.self.view_is) c.requires.end;
      above = c.self.invariant.reach.width_above;
      most = c.self.invariant.reach.col_most;
    } in
    let new : List ScreenCell → StyledView = λ l. record { width = now.width; row = last / now.width; col = last % now.width + 1; kept = now.kept; cells = l; rest = now.rest } in
    subst (λ v. ShowsStyled v s → ShowsStyled (new c.push_cells.new.cells.items) (steps v.width (map (character_stroke v.kept) text) s)) c.self.view_is
    (λ h. subst (λ l. ShowsStyled (new l) (steps now.width (map (character_stroke now.kept) text) s)) (sym cells)
    (type_shows text old s last end h c.requires.printable c.requires.some (omega (arith, len))))
