use Rattle.std.proofs.Common.{◌≡◌, true, sym, ◌∙◌, arith}
use Rattle.tw_surface.specs.Characters.{is_printable}
use Rattle.tw_surface.proofs.RunLemmas.{far_place, far_played}
use Rattle.tw_surface.proofs.screen.play.play_far.Goals as goal

shows : (c : goal.After-write_cell) → is_printable c.args.byte ≡ true
shows c = sym c.is_printable.ensures ∙ c.if-is_printable.true

pub returns-then-is_printable-clause-played : goal.returns-then-is_printable-clause-played
returns-then-is_printable-clause-played c = λ near past.
    far_played c.args.width near c.args.far.now.items c.write_cell.new.cells.items c.args.row c.args.col c.args.byte _ _ c.requires.width_above c.requires.col (shows c) (past (shows c))
    c.next_cursor-new_row.ensures.row c.next_cursor-new_row.ensures.col c.write_cell.ensures.written

pub returns-then-is_printable-clause-sparse : goal.returns-then-is_printable-clause-sparse
returns-then-is_printable-clause-sparse c = λ first from sparse.
    let at = far_place c.args.width c.args.row c.args.col c.args.byte _ _ c.requires.width_above c.requires.col (shows c) c.next_cursor-new_row.ensures.row c.next_cursor-new_row.ensures.col in
    c.write_cell.ensures.sparse c.args.width first sparse at.0 (omega (arith, at.1, from (shows c)))
