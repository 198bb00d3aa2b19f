-- Whether the editor searches, over a whole run.
use Rattle.std.specs.Prelude.{ℕ, ◌≡◌, Bool, true, false, List, Option, ◌≢◌, ◌+◌, length, None, Ok}
use Rattle.std.specs.List.{All}
use Rattle.tw_host.specs.HostRules.{HostRules}
use Rattle.tw_session.specs.EditState.{ModeView, Searching, EditState, Editing}
use Rattle.tw_session.specs.Outcomes.{is_over}
use Rattle.tw_lineedit.specs.Frame.{Frame}
use Rattle.tw_lineedit.specs.Reading.{start}
use Rattle.tw_lineedit.specs.Run.{run_of}
use Rattle.tw_lineedit.specs.Stations.{Station, stations_of}
use Rattle.tw_key_parts.specs.KeyRules.{KeyRules}
use Rattle.tw_prompt_host.specs.PromptRules.{IsWatch, Prompted, prompt_rules}
use Rattle.tw_line.specs.declared.history.SearchStyle.{SearchStyle}
use Rattle.tw_line.specs.declared.history.SearchDirection.{SearchDirection}
use Rattle.tw_line.specs.Cut.{Cut}
use Rattle.tw_host.specs.ActionView.{ActionView, Complete}
use Rattle.tw_session.specs.Steps.{apply}

-- the mode is that of a search
abbrev pub is_searching : ModeView → Bool
is_searching (Searching style direction matching) = true
is_searching _ = false

module _ {V : Type 0} (rules : HostRules V) (watch : V → Bool) where
  -- the watch says whether the editor searches
  abbrev pub IsTold : Station V → Type 0
  IsTold s = watch s.value ≡ is_searching s.state.mode

  -- it says so at each event of a run at whose beginning it does
  abbrev pub TellsRuns : Type 0
  TellsRuns = IsWatch rules watch → (f : Frame V) → watch f.value ≡ is_searching f.state.mode → All IsTold (stations_of rules f)

  -- so it does in each reading that begins while it is off
  abbrev pub TellsReadings : Type 0
  TellsReadings = IsWatch rules watch → (initial : Option (List ℕ)) (f : Frame V) → watch f.value ≡ false
      → All IsTold (stations_of rules (start initial f))

  -- and after a line that was accepted or cancelled it is off again
  abbrev pub IsOffBehindLines : Type 0
  IsOffBehindLines = IsWatch rules watch → (initial : Option (List ℕ)) (f : Frame V) → watch f.value ≡ false
      → is_over (run_of rules (start initial f)).state.mode ≡ true → watch (run_of rules (start initial f)).value ≡ false

module _ {V S K : Type 0} (keys : KeyRules S K) (rules : HostRules V) where
  -- whether a prompt takes the editor to search
  abbrev pub takes_search : Prompted V S → Bool
  takes_search v = v.going.searching

  -- it is right at each event of a reading before which it is off
  abbrev pub KnowsSearches : Type 0
  KnowsSearches = (initial : Option (List ℕ)) (f : Frame (Prompted V S)) → takes_search f.value ≡ false
      → All (IsTold (prompt_rules keys rules) takes_search) (stations_of (prompt_rules keys rules) (start initial f))

  -- and after a line that was accepted or cancelled it is off again
  abbrev pub LeavesSearches : Type 0
  LeavesSearches = (initial : Option (List ℕ)) (f : Frame (Prompted V S)) → takes_search f.value ≡ false
      → is_over (run_of (prompt_rules keys rules) (start initial f)).state.mode ≡ true
      → takes_search (run_of (prompt_rules keys rules) (start initial f)).value ≡ false

-- ---- what an action leads to from a search, where the line is edited after it

module _ {V : Type 0} (rules : HostRules V) where
  -- an action leads from a search that has found a line back to editing
  pub record EndsSearch (v : V) (action : ActionView) (found : Cut) (before after : EditState) : Type 0 where
    pub style : SearchStyle
    pub direction : SearchDirection
    pub searching : before.mode ≡ Searching style direction found
    pub leads : apply rules v action before ≡ Ok after
    pub editing : after.mode ≡ Editing

  -- but for a completion the line that was found comes in
  abbrev pub BringsFound : Type 0
  BringsFound = (v : V) (action : ActionView) (found : Cut) (before after : EditState)
      → EndsSearch v action found before after → action ≢ Complete → after.cut.line ≡ found.line

  -- after a completion the cursor stands as far from the line's end as in the line that was found
  abbrev pub CompletesFound : Type 0
  CompletesFound = (v : V) (found : Cut) (before after : EditState)
      → EndsSearch v Complete found before after → before.cycle ≡ None → after.cut.cursor + length found.line ≡ found.cursor + length after.cut.line
