use Rattle.std.proofs.Common.{◌≡◌, ℕ, Bool, not, is_none, ap, sym, ◌∙◌, arith}
use Rattle.laws_screens.specs.StyledCells.{StyledCell}
use Rattle.tw_line.proofs.ExtremesLemmas.{least_from-is, least_from-none}
use Rattle.tw_sparing.specs.Differences.{differ_in, is_same_cell}
use Rattle.tw_sparing.specs.Sending.{screen_cells}
use Rattle.tw_sparing.specs.StyledScreens.{styled_cell}
use Rattle.tw_sparing.proofs.FoundColumns.{none_above}
use Rattle.tw_sparing.proofs.difference.is_same_in_row.Goals as goal

found : (old new : ℕ → StyledCell) (col : ℕ) (x y : StyledCell) (b : Bool) → x ≡ old col → y ≡ new col → b ≡ not (is_same_cell x y) → differ_in old new col ≡ b
found old new col x y b e f h = sym (h ∙ ap (λ v. not (is_same_cell v y)) e ∙ ap (λ v. not (is_same_cell (old col) v)) f)

pub returns-then-is_other : goal.returns-then-is_other
returns-then-is_other c =
    let old = screen_cells c.args.old.now c.args.row in
    let new = screen_cells c.args.new.now c.args.row in
    let differs : differ_in old new c.loop-col.col ≡ c.is_other.result =
    found old new c.loop-col.col (styled_cell c.cell_of.result.now) (styled_cell c.cell_of-in-loop-col.result.now) c.is_other.result
    (ap styled_cell (c.cell_of.ensures ∙ c.cells_from-before.ensures c.loop-col.col)) (ap styled_cell (c.cell_of-in-loop-col.ensures ∙ c.cells_from-after.ensures c.loop-col.col)) c.is_other.ensures in
    sym (ap is_none (least_from-is (differ_in old new) c.args.cols 0 c.loop-col.col (omega arith) (omega (arith, c.loop-col-test.true)) (differs ∙ c.if-is_other.true) c.loop-col.invariant))

pub loop-col-preserved : goal.loop-col-preserved
loop-col-preserved c =
    let old = screen_cells c.args.old.now c.args.row in
    let new = screen_cells c.args.new.now c.args.row in
    let differs : differ_in old new c.loop-col.col ≡ c.is_other.result =
    found old new c.loop-col.col (styled_cell c.cell_of.result.now) (styled_cell c.cell_of-in-loop-col.result.now) c.is_other.result
    (ap styled_cell (c.cell_of.ensures ∙ c.cells_from-before.ensures c.loop-col.col)) (ap styled_cell (c.cell_of-in-loop-col.ensures ∙ c.cells_from-after.ensures c.loop-col.col)) c.is_other.ensures in
    none_above (differ_in old new) 0 c.loop-col.col c.loop-col.invariant (differs ∙ c.if-is_other.false)

pub returns : goal.returns
returns c =
    let p = differ_in (screen_cells c.args.old.now c.args.row) (screen_cells c.args.new.now c.args.row) in
    sym (ap is_none (least_from-none p c.args.cols 0 (λ k low high. c.loop-col.invariant k low (omega (arith, high, c.loop-col-test.false)))))
