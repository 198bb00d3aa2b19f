use Rattle.std.proofs.Common.{inl, inr, sym, subst, arith}
use Rattle.std.proofs.lemmas.Bool.{cases_eq}
use Rattle.tw_sparing.specs.ChangedScreens.{AreByBytes}
use Rattle.tw_sparing.specs.Sending.{AreSingle, screen_cells}
use Rattle.tw_sparing.proofs.difference.is_typable.Goals as goal

pub loop-row-preserved : goal.loop-row-preserved
loop-row-preserved c =
    let screen = c.args.screen.now in
    let row = c.loop-row.row in
    record {
      typable = λ i less. elim (cases_eq i row) [
        | inl e ↦ subst (λ n. AreSingle screen.width (screen_cells screen n)) (sym e) (c.is_typable_row.ensures.yes c.if-not-is_typable_row.false)
        | inr n ↦ c.loop-row.invariant.typable i (omega (arith, less, n))
      ];
      colors = λ i j less left. elim (cases_eq i row) [
        | inl e ↦ subst (λ n. AreByBytes (screen_cells screen n j).attributes) (sym e) (c.is_typable_row.ensures.colors c.if-not-is_typable_row.false j left)
        | inr n ↦ c.loop-row.invariant.colors i j (omega (arith, less, n)) left
      ];
    }
