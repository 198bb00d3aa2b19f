-- How a run ends.
use Rattle.std.specs.Prelude.{◌≢◌, ℕ, [], Bool, true, false, List, Option, Some, None, Result, Ok, Err, String, string_bytes, option_map}
use Rattle.std.specs.declared.alloc.Global.{Global}
use Rattle.tw_session.specs.Refusal.{Refusal, refusal_of}
use Rattle.tw_session.specs.EditState.{EditState, ModeView, Editing, Cancelled, Accepted, Searching}
use Rattle.tw_line.specs.Cut.{Cut}
use Rattle.tw_session.specs.declared.error.Error.{Error}

-- a line, none where the run was cancelled, or a refusal
abbrev pub Outcome : Type 0
Outcome = Result (Option (List ℕ)) Refusal

-- the outcome that a call answers
abbrev pub outcome_of : Result (Option (String Global)) Error → Outcome
outcome_of (Ok line) = Ok (option_map string_bytes line)
outcome_of (Err e) = Err (refusal_of e)

-- the line of a mode: none where the run is cancelled
abbrev pub line_in : Cut → ModeView → Option (List ℕ)
line_in cut Cancelled = None
line_in cut _ = Some cut.line

-- the outcome where a run ends at a state without refusal
abbrev pub answer_at : EditState → Outcome
answer_at s = Ok (line_in s.cut s.mode)

-- a copy of the outcome's line takes memory: there is one, and it is not empty
abbrev pub TakesMemoryToCopy : Outcome → Type 0
TakesMemoryToCopy (Ok (Some line)) = line ≢ []
TakesMemoryToCopy (Ok None) = ⊥
TakesMemoryToCopy (Err r) = ⊥

-- a mode at which a run ends
abbrev pub is_over : ModeView → Bool
is_over Accepted = true
is_over Cancelled = true
is_over _ = false

-- a mode in which a line takes events
abbrev pub is_open : ModeView → Bool
is_open Editing = true
is_open (Searching style direction matching) = true
is_open _ = false

-- the outcome is a refusal
abbrev pub IsRefusal : Outcome → Type 0
IsRefusal (Err r) = Unit {0}
IsRefusal (Ok line) = ⊥
