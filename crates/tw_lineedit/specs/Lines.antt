-- What a call does whose line begins with a text, or is empty where there is none.
use Rattle.std.specs.Prelude.{ℕ, List, Option, Result}
use Rattle.tw_host.specs.HostRules.{HostRules}
use Rattle.tw_host.specs.declared.host.Overrides.{Overrides}
use Rattle.tw_session.specs.declared.error.Error.{Error}
use Rattle.tw_session.specs.Outcomes.{Outcome, answer_at}
use Rattle.tw_lineedit.specs.Frame.{Frame}
use Rattle.tw_lineedit.specs.Run.{ending, run_of, IsAnswered}
use Rattle.tw_lineedit.specs.Reading.{start, Reads}
use Rattle.tw_lineedit.specs.Feeding.{Begins}
use Rattle.tw_lineedit.specs.ScreenRuns.{IsStopped, RunShows, StopsAfter, Shows, ShowsFirst}

module _ {V : Type 0} (rules : HostRules V) where
  -- the line begins, and is painted
  abbrev pub BeginsWith : Overrides → Option (List ℕ) → Frame V → Frame V → Type 0
  BeginsWith overrides initial before after = Begins rules overrides (start initial before) after

  module _ (initial : Option (List ℕ)) where
    -- its run is answered
    abbrev pub IsAnsweredWith : Frame V → Frame V → Outcome → Type 0
    IsAnsweredWith before after answer = IsAnswered rules (start initial before) after answer

    -- its run is answered and closed
    abbrev pub ReadsWith : Frame V → Frame V → Outcome → Type 0
    ReadsWith before after answer = Reads (run_of rules (start initial before)) before after answer

    -- what a screen shows of its run
    abbrev pub ShowsWith : {A : Type 0} → Frame V → Frame V → Result A Error → Type 0
    ShowsWith before after result = Shows rules (start initial before) after result

    -- what a screen shows of the batches of its run, whatever stops it
    abbrev pub RunShowsWith : Frame V → Type 0
    RunShowsWith before = RunShows rules (start initial before)

    -- what the terminal has taken of its run where memory or the terminal stopped it
    abbrev pub StopsWith : {A : Type 0} → Frame V → Frame V → Result A Error → Type 0
    StopsWith before after result = IsStopped result → StopsAfter rules (start initial before) after

    -- what a screen shows of its first painting
    abbrev pub ShowsFirstWith : Frame V → Frame V → Type 0
    ShowsFirstWith before after = ShowsFirst rules (start initial before) after

-- a line that was begun is answered as it stands and closed
abbrev pub FinishesLine : {V : Type 0} → Frame V → Frame V → Outcome → Type 0
FinishesLine before after answer = Reads (ending (answer_at before.state) before) before after answer
