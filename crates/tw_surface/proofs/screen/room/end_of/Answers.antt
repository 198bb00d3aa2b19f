use Rattle.std.proofs.Common.{◌≡◌, ◌+◌, ◌-◌, length, arith}
use Rattle.tw_surface.specs.Cells.{cell_at}
use Rattle.tw_surface.proofs.NearCells.{place_within}
use Rattle.tw_surface.proofs.SettledCells.{place, within_end}
use Rattle.tw_surface.proofs.screen.room.end_of.Goals as goal

-- all cells stand before the place after the last
pub returns-in-len1-up : goal.returns-in-len1-up
returns-in-len1-up c = λ below.
    let last = cell_at c.args.far.now (length c.args.far.now - 1) in
    let at : c.place_of.result ≡ place c.args.width last = place_within _ _ _ c.place_of.ensures (omega arith) in
    let is : place c.args.width last + 1 ≡ c.saturating_add.result = omega arith in
    rw (← is) (within_end c.args.width c.requires.0 c.args.far.now c.requires.1)
