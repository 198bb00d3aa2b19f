use Rattle.std.proofs.Common.{◌≡◌, ◌<◌, ◌+◌, ◌*◌, take, length, sym, ap, ◌∙◌, arith}
use Rattle.std.proofs.lemmas.List.Elements.{All-take}
use Rattle.tw_surface.specs.Cells.{AreSoundCells, IsSparse}
use Rattle.tw_surface.proofs.NearCells.{take_within, cleared_kept, sparse_kept, sound_trimmed, shown_grown}
use Rattle.tw_surface.proofs.screen.Screen.clear_to_end.Goals as goal

-- the near cells before the cursor are kept, but for blanks at their end
kept : (c : goal.After-clear_from) → c.truncate.new.self.items ≡ take (c.self.inside.row * c.self.inside.width + c.self.inside.col) c.self.inside.near.items
kept c = c.truncate.ensures.items ∙ take_within c.self.inside.near.items _ _ _ c.place_of.ensures (omega arith)

sparse : (c : goal.After-clear_from) → IsSparse c.self.inside.width (length c.truncate.new.self.items) c.clear_from.new.cells.items
sparse c = rw c.truncate.ensures.items (sparse_kept c.self.inside.width c.self.inside.near.items c.clear_from.new.cells.items _ (c.clear_from.ensures.sparse c.self.inside.width _ c.self.invariant.sound.sparse))

pub invariant_of-self : goal.invariant_of-self
invariant_of-self c =
    let was = c.self.invariant.sound in
    let whole : AreSoundCells c.self.inside.width c.self.inside.row c.self.inside.col c.truncate.new.self.items c.clear_from.new.cells.items = record {
      width_above = was.width_above;
      width_most = was.width_most;
      row_most = was.row_most;
      col_most = was.col_most;
      ascii = rw c.truncate.ensures.items (All-take (λ b. b < 128) _ _ was.ascii);
      sparse = sparse c;
    } in
    record { sound = sound_trimmed _ _ _ c.truncate.new.self.items c.trim.new.near.items c.clear_from.new.cells.items c.trim.ensures.kept whole; trimmed = c.trim.ensures.trimmed; ended = c.clear_from.ensures.ended }

pub returns-clause-cleared : goal.returns-clause-cleared
returns-clause-cleared c =
    let now = c.self.inside in
    let trimmed = shown_grown now.width c.trim.new.near.items c.truncate.new.self.items c.clear_from.new.cells.items c.trim.ensures.kept (sparse c) in
    rw (← c.self.view_is) (ap (λ cell. record { cell = cell; row = now.row; col = now.col })
    (sym trimmed ∙ rw (kept c) (cleared_kept now.width now.near.items now.far.items c.clear_from.new.cells.items now.row now.col c.self.invariant.sound.col_most c.clear_from.ensures.cleared)))
