-- What reading a line and adding it to the host's history leaves.
use Rattle.std.specs.Prelude.{◌≡◌, ℕ, List, Option, Some, None, Ok, ◌⊎◌}
use Rattle.tw_host.specs.HostRules.{HostRules}
use Rattle.tw_host.specs.declared.host.Overrides.{Overrides}
use Rattle.tw_line.specs.NearestMatch.{last_line}
use Rattle.tw_lineedit.specs.Frame.{Frame}
use Rattle.tw_lineedit.specs.Reading.{start, Reads, FailsToRead}
use Rattle.tw_session.specs.Refusal.{IsMemory}
use Rattle.tw_lineedit.specs.Run.{run_of}
use Rattle.tw_session.specs.declared.error.Error.{Error}

-- What a host is: its rules, its value, its history, the host with another history, and what an addition to that gives.
module _ {H Hist V : Type 0} (rules : HostRules V) (value : H → V) (history_of : H → Hist) (with_history : H → Hist → H) (gives : Hist → List ℕ → Hist → Type 0) where
  -- the line is the last one of the host's history, and the rest of the host is as it was
  pub record Remembers (line : List ℕ) (old new : H) : Type 0 where
    pub kept : new ≡ with_history old (history_of new)
    pub last : last_line (rules.lines (value new)) ≡ Some line
    pub added : gives (history_of old) line (history_of new)

  -- the same where there is a line, and else the host is as it was
  abbrev pub RemembersIf : Option (List ℕ) → H → H → Type 0
  RemembersIf None old new = new ≡ old
  RemembersIf (Some line) old new = Remembers line old new

  -- the line was not added: the history's lines and the rest of the host are as they were
  pub record FailsToRemember (old new : H) : Type 0 where
    pub kept : new ≡ with_history old (history_of new)
    pub lines : rules.lines (value new) ≡ rules.lines (value old)

  -- A call on f, whose editor is seen with a host by at.
  module _ (f : Frame V) (at : H → Frame V) where
    -- a line was read, which left the host between, or the reading was cancelled
    abbrev pub HasRead : H → Option (List ℕ) → Type 0
    HasRead between line = Reads (run_of rules (start None f)) f (at between) (Ok line)

    -- the line that was read, if there is one, was added
    pub record ReadsAndRemembers (new : H) (line : Option (List ℕ)) : Type 0 where
      pub between : H
      pub reads : HasRead between line
      pub remembers : RemembersIf line between new

    -- a line was read, and memory was lacking to add it
    pub record ReadsUnremembered (new : H) (e : Error) : Type 0 where
      pub between : H
      pub line : List ℕ
      pub reads : HasRead between (Some line)
      pub fails : FailsToRemember between new
      pub memory : IsMemory e

module _ {H Hist V : Type 0} (rules : HostRules V) (overrides : Overrides) (value : H → V) (history_of : H → Hist) (with_history : H → Hist → H) (gives : Hist → List ℕ → Hist → Type 0) (f : Frame V) (at : H → Frame V) where
  -- the reading was refused, or the adding
  abbrev pub FailsToReadAndRemember : H → Error → Type 0
  FailsToReadAndRemember new e = FailsToRead rules overrides None f (at new) e ⊎ ReadsUnremembered rules value history_of with_history gives f at new e
