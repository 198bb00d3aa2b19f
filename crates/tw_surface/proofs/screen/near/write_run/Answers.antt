use Rattle.tw_surface.proofs.RunLemmas.{run_ends, run_place, run_within, run_ascii}
use Rattle.std.proofs.Common.{◌+◌, ◌*◌, ◌-◌, ◌^◌, arith}
use Rattle.std.proofs.Math.Nat.{min-le_left}
use Rattle.tw_surface.proofs.screen.near.write_run.Goals as goal

pub returns-clause-row : goal.returns-clause-row
returns-clause-row c = (run_ends c.args.width c.args.row c.args.col c.args.run.now c.requires.width_above c.requires.col c.requires.printable c.requires.some).0

pub returns-clause-col : goal.returns-clause-col
returns-clause-col c = (run_ends c.args.width c.args.row c.args.col c.args.run.now c.requires.width_above c.requires.col c.requires.printable c.requires.some).1

pub returns-clause-within : goal.returns-clause-within
returns-clause-within c =
    let ends = run_ends c.args.width c.args.row c.args.col c.args.run.now c.requires.width_above c.requires.col c.requires.printable c.requires.some in
    rw ends.1 (run_within c.args.width c.args.row c.args.col c.args.run.now c.requires.width_above c.requires.col c.requires.printable)

pub returns-clause-place : goal.returns-clause-place
returns-clause-place c =
    let ends = run_ends c.args.width c.args.row c.args.col c.args.run.now c.requires.width_above c.requires.col c.requires.printable c.requires.some in
    rw (ends.0, ends.1) (run_place c.args.width c.args.row c.args.col c.args.run.now c.requires.width_above c.requires.col c.requires.printable)

pub returns-clause-ascii : goal.returns-clause-ascii
returns-clause-ascii c =
    run_ascii c.args.near.now c.overwrite.new.near c.place_of-place.result c.args.run.now c.requires.printable c.overwrite.ensures.len
    (omega (arith, c.place_of-place.ensures, min-le_left (c.args.row * c.args.width + c.args.col) (2 ^ 64 - 1)))
    c.overwrite.ensures.written
