-- The room after a line.
use Rattle.std.proofs.Common.{◌≡◌, ℕ, ◌+◌, ◌-◌, ◌%◌, false, List, Some, refl, sym}
use Rattle.std.proofs.Math.Nat.{add-mod}
use Rattle.tw_line.specs.Cut.{at_end}
use Rattle.tw_hosts.specs.Settling.{settled_column}
use Rattle.tw_prompt_host.specs.AfterLine.{has_control, prompt_column, room_after}

-- the room after a row
pub room_is : (cols : ℕ) (before row : List ℕ) (start column : ℕ) → Some start ≡ prompt_column cols before → has_control row ≡ false
    → column ≡ settled_column cols before (at_end row) → cols - 1 - (start % cols + column % cols) % cols ≡ room_after cols before row
room_is cols before row start column known none e = rw (sym known, none, e, add-mod start (settled_column cols before (at_end row)) cols) refl
