use Rattle.std.proofs.Common.{◌≡◌, ◌+◌, ◌*◌, inl, inr, sym, ◌∙◌, subst, arith}
use Rattle.std.proofs.lemmas.Bool.{cases_eq}
use Rattle.std.specs.Prelude.{slice_index_or}
use Rattle.tw_sparing.specs.declared.cell.ScreenCell.{ScreenCell}
use Rattle.tw_sparing.specs.ChangedScreens.{AreByBytes}
use Rattle.tw_sparing.specs.Sending.{screen_cells}
use Rattle.tw_sparing.specs.SingleCharacters.{IsSingle, character_number}
use Rattle.tw_sparing.proofs.SingleCharacters.{not_single}
use Rattle.tw_sparing.proofs.difference.is_typable_row.Goals as goal

pub returns-then-not-is_single-clause-no : goal.returns-then-not-is_single-clause-no
returns-then-not-is_single-clause-no c = λ _ all.
    let screen = c.args.screen.now in
    let cell : ScreenCell = c.cell_of-cell.result.now in
    let is : cell ≡ slice_index_or screen.cells (c.args.row * screen.width + c.loop-col.col) screen.rest = c.cell_of-cell.ensures ∙ c.cells_from-cells.ensures c.loop-col.col in
    not_single cell.character (sym c.is_single.ensures.value ∙ c.if-not-is_single.true)
    (subst (λ (x : ScreenCell). IsSingle (character_number x.character)) (sym is) (all c.loop-col.col (omega (arith, c.loop-col-test.true, c.width-col-end.ensures.value))))

pub loop-col-preserved : goal.loop-col-preserved
loop-col-preserved c =
    let screen = c.args.screen.now in
    let cell : ScreenCell = c.cell_of-cell.result.now in
    let is : cell ≡ slice_index_or screen.cells (c.args.row * screen.width + c.loop-col.col) screen.rest = c.cell_of-cell.ensures ∙ c.cells_from-cells.ensures c.loop-col.col in
    record {
      single = λ j less. elim (cases_eq j c.loop-col.col) [
        | inl e ↦
            subst (λ n. IsSingle (screen_cells screen c.args.row n).ch) (sym e)
            (subst (λ (x : ScreenCell). IsSingle (character_number x.character)) is (c.is_single.ensures.single c.if-not-is_single.false))
        | inr n ↦ c.loop-col.invariant.single j (omega (arith, less, n))
      ];
      colors = λ j less. elim (cases_eq j c.loop-col.col) [
        | inl e ↦ subst (λ n. AreByBytes (screen_cells screen c.args.row n).attributes) (sym e) (subst (λ (x : ScreenCell). AreByBytes x.attributes) is c.colors.ensures)
        | inr n ↦ c.loop-col.invariant.colors j (omega (arith, less, n))
      ];
    }
