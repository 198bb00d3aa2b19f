use Rattle.std.proofs.Common.{◌≡◌, ℕ, ◌+◌, ◌<◌, ◌≤◌, slice_index}
use Rattle.tw_line.proofs.starts.raise.Given as goal

abbrev pub invariant-loop-start : goal.invariant-loop-start
invariant-loop-start l = record {
  done : (k : ℕ) → k < l.start-index → slice_index l.starts k ≡ slice_index l.fn.starts k + l.by;
  rest : (k : ℕ) → l.start-index ≤ k → slice_index l.starts k ≡ slice_index l.fn.starts k;
}
