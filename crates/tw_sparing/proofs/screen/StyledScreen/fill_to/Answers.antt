use Rattle.std.proofs.Common.{◌≡◌, true, not, is_ok, refl, ap, ◌∙◌, arith}
use Rattle.std.specs.Prelude.{slice_index_or}
use Rattle.tw_sparing.specs.StyledScreens.{StyledView, styled_cell}
use Rattle.tw_sparing.proofs.PlainCells.{grown_at, kept_with, still_plain}
use Rattle.tw_sparing.proofs.screen.StyledScreen.fill_to.Goals.{else-len-place-via-then-len-place+else-is_err, else-len-place-via-else-len-place}
use Rattle.tw_sparing.proofs.screen.StyledScreen.fill_to.Goals as goal

pub invariant_of-self-else-is_err : goal.invariant_of-self-else-is_err
invariant_of-self-else-is_err c =
    let now = c.self.inside in
    let old : StyledView = record { width = now.width; row = now.row; col = now.col; kept = now.kept; cells = now.cells.items; rest = now.rest } in
    let ok : is_ok c.resize.result ≡ true = c.is_err.ensures.negation ∙ ap not c.if-is_err.false in
    kept_with now.is_plain now.plain_from now.plain_from old c.resize.new.self.items c.self.invariant
    (still_plain now.plain_from old (record old { cells = c.resize.new.self.items })
    (λ i. ap styled_cell (ap (λ l. slice_index_or l i now.rest) (rw ok at c.resize.ensures.items) ∙ grown_at c.args.place now.cells.items _ i now.rest (omega (arith, c.if-len-place.true))))
    c.self.invariant.cells)

pub returns-clause-shown : goal.returns-clause-shown
returns-clause-shown c =
    let now = c.self.inside in
    elim c.else-len-place.branch [
      | else-len-place-via-then-len-place+else-is_err w ↦
          let ok : is_ok w.resize.result ≡ true = w.is_err.ensures.negation ∙ ap not w.if-is_err.false in
          rw (w.self-is, ← c.self.view_is) (record {
            cells = λ i. ap styled_cell (let same : slice_index_or w.resize.new.self.items i now.rest ≡ slice_index_or now.cells.items i now.rest =
                ap (λ l. slice_index_or l i now.rest) (rw ok at w.resize.ensures.items) ∙ grown_at c.args.place now.cells.items _ i now.rest (omega (arith, w.if-len-place.true)) in same);
            row = refl;
            col = refl;
          })
      | else-len-place-via-else-len-place w ↦ rw (w.self-is, ← c.self.view_is) (record { cells = λ i. refl; row = refl; col = refl })
    ]
