use Rattle.tw_surface.specs.Pictures.{blank}
use Rattle.std.proofs.Common.{◌≡◌}
use Rattle.tw_surface.proofs.CellWrites.{written_set, sparse_set, written_insert, sparse_insert, written_nothing}
use Rattle.tw_surface.proofs.screen.far.write_cell.Goals as goal

-- another character where a cell stood
pub returns-in-Ok-clause-written : goal.returns-in-Ok-clause-written
returns-in-Ok-clause-written c =
    written_set c.args.cells.now.items c.requires.ordered c.args.row c.args.col c.in-Ok.at (rw c.deref.ensures.value at c.in-Ok.ensures.found) c.args.ch

pub returns-in-Ok-clause-sparse : goal.returns-in-Ok-clause-sparse
returns-in-Ok-clause-sparse c = λ width first.
    sparse_set c.args.cells.now.items c.requires.ordered c.args.row c.args.col c.in-Ok.at (rw c.deref.ensures.value at c.in-Ok.ensures.found) c.args.ch width first c.requires.ascii

-- a blank between others, where none stood
pub returns-in-Err-clause-written : goal.returns-in-Err-clause-written
returns-in-Err-clause-written c =
    let is : c.args.ch ≡ blank = c.if-ch-eq32.true in
    rw is (written_nothing c.args.cells.now.items c.args.row c.args.col _ (rw c.deref.ensures.value at c.in-Err.ensures.absent))

-- a new cell
pub returns-in-Err-2-clause-written : goal.returns-in-Err-2-clause-written
returns-in-Err-2-clause-written c =
    rw (c.insert.ensures.items, c.insert.ensures.succeeds c.requires.room)
    (written_insert c.args.cells.now.items c.args.row c.args.col _ (rw c.deref.ensures.value at c.in-Err.ensures.absent) c.requires.ordered c.args.ch)

pub returns-in-Err-2-clause-sparse : goal.returns-in-Err-2-clause-sparse
returns-in-Err-2-clause-sparse c =
    rw (c.insert.ensures.items, c.insert.ensures.succeeds c.requires.room)
    (λ width first. sparse_insert c.args.cells.now.items c.args.row c.args.col _ (rw c.deref.ensures.value at c.in-Err.ensures.absent) c.requires.ordered c.args.ch width first c.requires.ascii)
