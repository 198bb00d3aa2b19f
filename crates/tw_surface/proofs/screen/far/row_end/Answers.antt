use Rattle.std.proofs.Common.{◌≡◌, ◌-◌, length, take, ap, arith}
use Rattle.std.proofs.lemmas.List.{get_or-take, length-take-le}
use Rattle.tw_surface.specs.Cells.{cell_at}
use Rattle.tw_surface.proofs.CellClears.{blank_behind}
use Rattle.tw_surface.proofs.screen.far.row_end.Goals as goal

pub returns-in-len1-up : goal.returns-in-len1-up
returns-in-len1-up c = λ col past.
    let end = c.count_before.result in
    let size : length (take end c.args.cells.now) ≡ end = length-take-le end c.args.cells.now c.count_before.ensures.in_range in
    let last : cell_at (take end c.args.cells.now) (end - 1) ≡ cell_at c.args.cells.now (end - 1) = get_or-take end c.args.cells.now (end - 1) _ (omega arith) in
    let col_is = ap (λ x. x.col) last in
    blank_behind c.args.width c.requires.0 c.args.cells.now c.args.row col end c.requires.1 c.count_before.ensures (λ some same. omega (arith, rw size at past))

-- no cell stands before the row's end
pub returns-in_default : goal.returns-in_default
returns-in_default c = λ col past.
    let end = c.count_before.result in
    let size : length (take end c.args.cells.now) ≡ end = length-take-le end c.args.cells.now c.count_before.ensures.in_range in
    blank_behind c.args.width c.requires.0 c.args.cells.now c.args.row col end c.requires.1 c.count_before.ensures (λ some. absurd (omega arith))

-- or only in other rows
pub returns-in_default-2 : goal.returns-in_default-2
returns-in_default-2 c = λ col past.
    let end = c.count_before.result in
    let size : length (take end c.args.cells.now) ≡ end = length-take-le end c.args.cells.now c.count_before.ensures.in_range in
    let last : cell_at (take end c.args.cells.now) (end - 1) ≡ cell_at c.args.cells.now (end - 1) = get_or-take end c.args.cells.now (end - 1) _ (omega arith) in
    let row_is = ap (λ x. x.row) last in
    blank_behind c.args.width c.requires.0 c.args.cells.now c.args.row col end c.requires.1 c.count_before.ensures (λ some same. absurd (omega (arith, rw size at c.if-last-row.false)))
