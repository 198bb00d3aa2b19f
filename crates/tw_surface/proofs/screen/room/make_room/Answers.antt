use Rattle.std.proofs.Common.{◌≡◌, [], ◌∙◌, length, ap}
use Rattle.tw_surface.specs.Cells.{shown_at}
use Rattle.tw_surface.proofs.NearCells.{shown_grown, sparse_none}
use Rattle.tw_surface.proofs.screen.room.make_room.Goals as goal

pub returns-clause-shown : goal.returns-clause-shown
returns-clause-shown c =
    let settled = c.settle in
    let none : c.settle.new.far.items ≡ [] = settled.ensures.far in
    shown_grown c.args.width settled.new.near.items c.blank_to.new.near.items settled.new.far.items c.blank_to.ensures.grown (rw none (sparse_none c.args.width (length c.blank_to.new.near.items)))
    ∙ settled.ensures.shown ∙ ap (λ l. shown_at c.args.width l c.args.far.now.items) c.reserve-2.ensures.items
