use Rattle.std.proofs.Common.{◌≡◌, ◌≤◌, ◌+◌, ◌*◌, ◌/◌, ◌%◌, suc, is_none, div-add-mod', subst, arith}
use Rattle.std.proofs.lemmas.Nat.{mul-le}
use Rattle.tw_line.specs.Extremes.{least_from}
use Rattle.tw_sparing.specs.Differences.{differ_in}
use Rattle.tw_sparing.specs.Sending.{screen_cells}
use Rattle.tw_sparing.proofs.FoundColumns.{other_before, same_before, same_to}
use Rattle.tw_sparing.proofs.difference.is_same_before.Goals as goal

pub returns-then-not-is_same_in_row : goal.returns-then-not-is_same_in_row
returns-then-not-is_same_in_row c =
    let w = c.args.new.now.width in
    let v = c.width-width.result in
    let row = c.loop-row.row in
    let old = screen_cells c.args.old.now in
    let new = screen_cells c.args.new.now in
    let rows : suc row * v ≤ c.args.end / v * v = mul-le (suc row) v (c.args.end / v) v (omega (arith, c.loop-row-test.true)) (omega arith) in
    let whole : c.args.end / v * v + c.args.end % v ≡ c.args.end = div-add-mod' c.args.end v in
    let within : row * v + v ≤ c.args.end = omega (arith, rows, whole) in
    other_before w row w c.args.end old new c.is_same_in_row.result (omega arith) (subst (λ u. row * u + u ≤ c.args.end) c.width-width.ensures.value within)
    (subst (λ u. c.is_same_in_row.result ≡ is_none (least_from (differ_in (old row) (new row)) 0 u)) c.width-width.ensures.value c.is_same_in_row.ensures) c.if-not-is_same_in_row.true

pub loop-row-preserved : goal.loop-row-preserved
loop-row-preserved c k low high =
    let w = c.args.new.now.width in
    let row = c.loop-row.row in
    let old = screen_cells c.args.old.now in
    let new = screen_cells c.args.new.now in
    same_to w row w old new c.is_same_in_row.result (omega arith)
    (subst (λ u. c.is_same_in_row.result ≡ is_none (least_from (differ_in (old row) (new row)) 0 u)) c.width-width.ensures.value c.is_same_in_row.ensures) c.if-not-is_same_in_row.false
    c.loop-row.invariant k low (omega (arith, high))

pub returns : goal.returns
returns c =
    let w = c.args.new.now.width in
    let old = screen_cells c.args.old.now in
    let new = screen_cells c.args.new.now in
    let row : c.args.end / w ≤ c.loop-row.row = subst (λ u. c.args.end / u ≤ c.loop-row.row) c.width-width.ensures.value c.loop-row-test.false in
    let rows : c.args.end / w * w ≤ c.loop-row.row * w = mul-le (c.args.end / w) w c.loop-row.row w row (omega arith) in
    same_before w c.args.end old new c.is_same_in_row-2.result (omega (arith, c.width-width.ensures.above, c.width-width.ensures.value))
    (subst (λ u. c.is_same_in_row-2.result ≡ is_none (least_from (differ_in (old (c.args.end / u)) (new (c.args.end / u))) 0 (c.args.end % u))) c.width-width.ensures.value c.is_same_in_row-2.ensures)
    (λ k low high. c.loop-row.invariant k low (omega (arith, high, rows)))
