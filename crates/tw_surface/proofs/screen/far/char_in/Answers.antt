use Rattle.std.proofs.Common.{sym}
use Rattle.tw_surface.proofs.CellLookups.{cell_in_at, cell_in_gap}
use Rattle.tw_surface.proofs.screen.far.char_in.Goals as goal

pub returns-in-Ok : goal.returns-in-Ok
returns-in-Ok c = sym (cell_in_at c.args.cells.now c.requires c.args.row c.args.col c.in-Ok.at c.in-Ok.ensures.found)

pub returns-in-Err : goal.returns-in-Err
returns-in-Err c = sym (cell_in_gap c.args.cells.now c.args.row c.args.col _ c.in-Err.ensures.absent)
