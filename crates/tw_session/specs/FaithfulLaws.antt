-- What is seen of a faithful host.
use Rattle.std.specs.Prelude.{ℕ, ◌≡◌, ◌+◌, ◌/◌, ◌%◌, Bool, List, ◌++◌, length, take}
use Rattle.tw_surface.specs.Fresh.{IsFresh, IsShown}
use Rattle.tw_surface.specs.Pictures.{Picture}
use Rattle.tw_surface.specs.Width.{column_width}
use Rattle.tw_line.specs.Cut.{Cut}
use Rattle.tw_host.specs.Faithful.{IsFaithful}
use Rattle.tw_host.specs.HostRules.{HostRules}
use Rattle.tw_session.specs.EditState.{EditState}
use Rattle.tw_session.specs.Painting.{scene_of, shown_in}

-- The prompt and the line stand on the screen from row s on, each character in its cell, and the cursor after the
-- columns before it.
pub record IsSeen (width s : ℕ) (prompt : List ℕ) (cut : Cut) (after : Picture) : Type 0 where
  pub shown : IsShown width s (prompt ++ cut.line) after
  pub row : after.row ≡ s + (length prompt + column_width (take cut.cursor cut.line)) / width
  pub col : after.col ≡ (length prompt + column_width (take cut.cursor cut.line)) % width

-- where a host is faithful, a fresh painting of a state shows its prompt and the line that is shown in it
abbrev pub ShowsTheLine : {V : Type 0} → HostRules V → Type 0
ShowsTheLine {V} rules = IsFaithful rules → (width s : ℕ) (v : V) (state : EditState) (cleared : Bool) (after : Picture)
    → IsFresh width s (scene_of rules v state cleared) after
    → IsSeen width s state.prompt (shown_in state.cut state.mode) after
