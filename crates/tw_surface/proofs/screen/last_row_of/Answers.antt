use Rattle.std.proofs.Common.{◌≡◌, ◌-◌, ◌<◌, [], length, get_or, arith}
use Rattle.tw_surface.specs.Pictures.{blank}
use Rattle.std.proofs.lemmas.List.{nil_from_length}
use Rattle.tw_surface.proofs.NearCells.{last_row_far, last_row_near}
use Rattle.tw_surface.proofs.screen.last_row_of.Goals as goal

pub returns-in-len1-up : goal.returns-in-len1-up
returns-in-len1-up c = last_row_far c.args.width c.args.near.now c.requires.width c.args.far.now c.requires.sparse c.requires.ended (omega arith)

pub returns-in_ok-checked_sub-in-empty : goal.returns-in_ok-checked_sub-in-empty
returns-in_ok-checked_sub-in-empty c =
    let none : c.args.far.now ≡ [] = nil_from_length c.args.far.now (omega arith) in
    let last = c.in_ok-checked_sub-in-empty.field-0 in
    let is : length c.args.near.now - 1 ≡ last = omega arith in
    let within : last < length c.args.near.now = omega arith in
    let some : 0 < length c.args.near.now = omega arith in
    let visible : get_or c.args.near.now last 0 ≡ blank → ⊥ = rw is at (c.requires.trimmed some) in
    rw none (last_row_near c.args.width c.args.near.now c.requires.width last within visible (λ k above below. absurd (omega arith)))
