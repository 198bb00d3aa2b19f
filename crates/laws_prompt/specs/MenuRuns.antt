-- A menu over a whole run.
use Rattle.std.specs.Prelude.{ℕ, ◌≡◌, ◌<◌, ⊤, true, false, List, length, slice_get, Option, Some, None}
use Rattle.std.specs.List.{All}
use Rattle.tw_host.specs.CandidateView.{CandidateView, completed_by}
use Rattle.tw_host.specs.HostRules.{HostRules}
use Rattle.tw_session.specs.EditState.{EditState}
use Rattle.tw_session.specs.Outcomes.{is_over}
use Rattle.tw_lineedit.specs.Frame.{Frame}
use Rattle.tw_lineedit.specs.Reading.{start}
use Rattle.tw_lineedit.specs.Run.{run_of}
use Rattle.tw_lineedit.specs.Stations.{Station, stations_of}
use Rattle.tw_key_parts.specs.KeyRules.{KeyRules}
use Rattle.tw_prompt_host.specs.Going.{going_at_rest}
use Rattle.tw_prompt_host.specs.MenuLayout.{Shown}
use Rattle.tw_prompt_host.specs.PromptRules.{Prompted, prompt_rules}
use Rattle.tw_prompt_host.specs.declared.menu.Menu.{Menu}
use Rattle.tw_prompt_host.specs.declared.menu.Menu.TheVariants.{Closed, Unseen, Few, Open}

-- the line is the one before the completion with the candidate that is marked, one of two or more; the editor goes
-- through none by itself
pub record IsMarked (m : Shown) (s : EditState) : Type 0 where
  pub none : s.cycle ≡ None
  pub more : 1 < length m.candidates
  pub candidate : CandidateView
  pub there : slice_get m.candidates m.chosen ≡ Some candidate
  pub line : completed_by candidate m.line ≡ Some s.cut

-- what a menu tells of the editor's state
abbrev pub TellsLine : Menu → EditState → Type 0
TellsLine Closed s = s.cycle ≡ None
TellsLine Unseen s = ⊤
TellsLine (Few candidates) s = s.cycle ≡ None
TellsLine (Open m) s = IsMarked m s

module _ {V S K : Type 0} (keys : KeyRules S K) (rules : HostRules V) where
  -- it does while the line is not over
  abbrev pub IsMenuTold : Station (Prompted V S) → Type 0
  IsMenuTold s = is_over s.state.mode ≡ false → TellsLine s.value.going.menu s.state

  -- so at each event of a reading that begins at rest
  abbrev pub TellsLines : Type 0
  TellsLines = (initial : Option (List ℕ)) (f : Frame (Prompted V S)) → f.value.going ≡ going_at_rest
      → All IsMenuTold (stations_of (prompt_rules keys rules) (start initial f))

  -- and after a line that was accepted or cancelled there is no menu
  abbrev pub ClosesAfterLines : Type 0
  ClosesAfterLines = (initial : Option (List ℕ)) (f : Frame (Prompted V S)) → f.value.going ≡ going_at_rest
      → is_over (run_of (prompt_rules keys rules) (start initial f)).state.mode ≡ true
      → (run_of (prompt_rules keys rules) (start initial f)).value.going.menu ≡ Closed
