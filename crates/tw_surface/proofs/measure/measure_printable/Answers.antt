use Rattle.std.proofs.Common.{◌≡◌, ℕ, suc, ◌+◌, ◌-◌, arith}
use Rattle.std.proofs.lemmas.Bool.{and_parts}
use Rattle.tw_surface.proofs.RowLemmas.{row_step}
use Rattle.tw_surface.proofs.measure.measure_printable.Goals as goal

-- the first character is measured alone, and those that fit after it are one step
pub loop-left-preserved : goal.loop-left-preserved
loop-left-preserved c =
    let left : ℕ = c.loop-left.left - (1 + c.min-more.result) in
    let all : c.loop-left.left ≡ suc (c.min-more.result + left) = omega arith in
    row_step c.args.cols c.min-more.result left _ c.args.start c.loop-left.extent c.in_ok-extent.extent c.requires.cols (rw all at c.loop-left.invariant)
    c.in_ok-extent.ensures.1 (and_parts _ _ c.in_ok-extent.ensures.0).0 (λ some. omega arith)
