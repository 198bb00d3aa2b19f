use Rattle.std.proofs.Common.{◌≡◌, ◌-◌}
use Rattle.std.specs.Str.{IsCharBoundary}
use Rattle.tw_line.specs.Extremes.{iterate}
use Rattle.tw_line.specs.OffsetSteps.{step_from}
use Rattle.tw_line.specs.Text.{bytes_of}
use Rattle.tw_line.proofs.movements.steps_from.Given as goal

abbrev pub invariant-loop-round : goal.invariant-loop-round
invariant-loop-round l =
    let next = step_from l.step (bytes_of l.line) in
    record {
      boundary : IsCharBoundary (bytes_of l.line) l.at;
      rest : iterate next (l.count - l._round) l.at ≡ iterate next l.count l.start;
    }
