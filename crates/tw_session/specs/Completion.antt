-- Completion: candidates that come in in turn.
use Rattle.std.specs.Prelude.{◌≡◌, true, ℕ, ◌+◌, ◌%◌, nat_lt, List, length, Option, Some, None, Result, Ok, Err, if◌then◌else◌, slice_get}
use Rattle.tw_line.specs.Cut.{Cut}
use Rattle.tw_host.specs.CandidateView.{CandidateView, fits, completed_by}
use Rattle.tw_session.specs.EditState.{EditState, CycleView}
use Rattle.tw_session.specs.Refusal.{Refusal, CandidateDoesNotFit}
use Rattle.tw_session.specs.declared.error.Error.{Error}
use Rattle.tw_session.specs.declared.error.Error.TheVariants as error

-- a cut text comes in, with a cycle; where there is none the candidate did not fit
abbrev pub with_completion : EditState → Option CycleView → Option Cut → Result EditState Refusal
with_completion s cycle None = Err CandidateDoesNotFit
with_completion s cycle (Some cut) = Ok (record s { cut = cut; cycle = cycle })

-- a candidate comes in on a cut text; where there is none nothing is changed
abbrev pub with_candidate : EditState → Option CycleView → Cut → Option CandidateView → Result EditState Refusal
with_candidate s cycle original None = Ok s
with_candidate s cycle original (Some c) = with_completion s cycle (completed_by c original)

-- two candidates or more are a cycle
abbrev pub cycle_of : List CandidateView → Cut → Option CycleView
cycle_of candidates cut =
    if nat_lt 1 (length candidates) then Some (record { candidates = candidates; index = 0; original = cut }) else None

-- the index after a cycle's, and after the last one 0
abbrev pub next_in : CycleView → ℕ
next_in c = (c.index + 1) % length c.candidates

-- without a cycle the first of these candidates comes in, and else the cycle's next one on its original cut text
abbrev pub completed_from : List CandidateView → EditState → Option CycleView → Result EditState Refusal
completed_from candidates s None = with_candidate s (cycle_of candidates s.cut) s.cut (slice_get candidates 0)
completed_from candidates s (Some c) = with_candidate s (Some (record c { index = next_in c })) c.original (slice_get c.candidates (next_in c))

-- one completion, by the host's candidates for the cut text
unfoldable pub completion_step : (Cut → List CandidateView) → EditState → Result EditState Refusal
completion_step candidates s = completed_from (candidates s.cut) s s.cycle

-- why a candidate is not put in: it fits and finds no memory, or it does not fit
abbrev pub IsMisfit : CandidateView → Cut → Error → Type 0
IsMisfit c cut (error.Memory e) = fits cut c ≡ true
IsMisfit c cut error.CandidateDoesNotFit = completed_by c cut ≡ None
IsMisfit c cut _ = ⊥

-- the cycle has gone to its next candidate, which makes this cut text
pub record Advances (old new : CycleView) (line : Cut) : Type 0 where
  pub cycle : new ≡ record old { index = next_in old }
  pub next : CandidateView
  pub there : slice_get old.candidates (next_in old) ≡ Some next
  pub fits : completed_by next old.original ≡ Some line

-- the cycle's next candidate was not put in, and nothing is changed
pub record FailsToAdvance (old new : CycleView) (e : Error) : Type 0 where
  pub same : new ≡ old
  pub next : CandidateView
  pub there : slice_get old.candidates (next_in old) ≡ Some next
  pub misfit : IsMisfit next old.original e
