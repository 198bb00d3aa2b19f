-- No action leads to Inactive.
use Rattle.std.proofs.Common.{◌≡◌, ◌≢◌, ℕ, List, Bool, true, false, refl, sym, ◌∙◌, ap, Option, None, Some, Result, Ok, Err}
use Rattle.std.proofs.lemmas.Bool.{false≢true}
use Rattle.tw_line.specs.Cut.{Cut}
use Rattle.tw_host.specs.ActionView.{ActionView, AcceptLine, Cancel, EndOfFile, InsertChar, InsertText, Repaint, Move, Kill, KillAndMove, HistoryPrevious, HistoryNext, Complete, NoAction, HistoryIncSearchBackwards, HistoryIncSearchForwards}
use Rattle.tw_host.specs.CandidateView.{CandidateView, completed_by}
use Rattle.tw_host.specs.HostRules.{HostRules}
use Rattle.tw_line.specs.NearestMatch.{MatchView}
use Rattle.tw_line.specs.declared.history.SearchStyle.{SearchStyle}
use Rattle.tw_line.specs.declared.history.SearchDirection.{SearchDirection}
use Rattle.tw_line.specs.declared.history.SearchDirection.TheVariants.{Backwards, Forwards}
use Rattle.tw_session.specs.EditState.{EditState, ModeView, CycleView, Inactive, Editing, Cancelled, Accepted, Searching}
use Rattle.tw_session.specs.Refusal.{Refusal}
use Rattle.tw_session.specs.Completion.{with_completion, with_candidate, completed_from, completion_step}
use Rattle.tw_session.specs.Walk.{with_line_if, previous_of_typed, previous_from, previous_step, with_line_or_typed, next_from, next_step}
use Rattle.tw_session.specs.Search.{search_left_in, search_left, shown_match, searched_again_in, searched_again, search_step_from, search_step_in, search_step}
use Rattle.tw_session.specs.Steps.{apply, apply_if, history_step}

-- whether a line was begun and not closed
abbrev is_begun : ModeView → Bool
is_begun Inactive = false
is_begun _ = true

-- a state in such a mode
abbrev Begun : EditState → Type 0
Begun s = is_begun s.mode ≡ true

-- a refusal leads to no mode
abbrev begins : Result EditState Refusal → Bool
begins (Ok s) = is_begun s.mode
begins (Err r) = true

-- a search is left
left_begun_in : (s : EditState) (m : ModeView) → Begun s → Begun (search_left_in s m)
left_begun_in s Inactive b = b
left_begun_in s Editing b = b
left_begun_in s Cancelled b = b
left_begun_in s Accepted b = b
left_begun_in s (Searching style direction matching) b = refl

left_begun : (s : EditState) → Begun s → Begun (search_left s)
left_begun s b = left_begun_in s s.mode b

-- a match is shown, or none
match_begun : (style : SearchStyle) (direction : SearchDirection) (matching : Cut) (s : EditState) (m : Option MatchView) → Begun (shown_match style direction matching s m)
match_begun style direction matching s None = refl
match_begun style direction matching s (Some m) = refl

-- the pattern is applied again
again_begun_in : (lines : List (List ℕ)) (s : EditState) (m : ModeView) → Begun s → Begun (searched_again_in lines s m)
again_begun_in lines s Inactive b = b
again_begun_in lines s Editing b = b
again_begun_in lines s Cancelled b = b
again_begun_in lines s Accepted b = b
again_begun_in lines s (Searching style direction matching) b =
    let r : EditState = record s { history_index = None } in match_begun style direction matching r _

again_begun : (lines : List (List ℕ)) (s : EditState) → Begun s → Begun (searched_again lines s)
unfolding searched_again
again_begun lines s b = again_begun_in lines s s.mode b

-- the pattern is sought
sought_begun_from : (lines : List (List ℕ)) (style : SearchStyle) (direction : SearchDirection) (matching : Cut) (s : EditState) (start : Option ℕ) → Begun s → Begun (search_step_from lines style direction matching s start)
sought_begun_from lines style direction matching s None b = b
sought_begun_from lines style direction matching s (Some start) b = match_begun style direction matching s _

sought_begun_in : (lines : List (List ℕ)) (direction : SearchDirection) (s : EditState) (m : ModeView) → Begun s → Begun (search_step_in lines direction s m)
sought_begun_in lines direction s Inactive b = sought_begun_from lines _ direction _ _ _ b
sought_begun_in lines direction s Editing b = sought_begun_from lines _ direction _ _ _ b
sought_begun_in lines direction s Cancelled b = sought_begun_from lines _ direction _ _ _ b
sought_begun_in lines direction s Accepted b = sought_begun_from lines _ direction _ _ _ b
sought_begun_in lines direction s (Searching style before matching) b = sought_begun_from lines style direction matching s _ b

sought_begun : (lines : List (List ℕ)) (direction : SearchDirection) (s : EditState) → Begun s → Begun (search_step lines direction s)
unfolding search_step
sought_begun lines direction s b = sought_begun_in lines direction s s.mode b

-- steps through the history
taken_begun : (s : EditState) (i : ℕ) (line : Option (List ℕ)) → Begun s → Begun (with_line_if s i line)
taken_begun s i None b = b
taken_begun s i (Some line) b = b

previous_begun_typed : (lines : List (List ℕ)) (s : EditState) (last : Option ℕ) → Begun s → Begun (previous_of_typed lines s last)
previous_begun_typed lines s None b = b
previous_begun_typed lines s (Some last) b = taken_begun _ last _ b

previous_begun_from : (lines : List (List ℕ)) (s : EditState) (index : Option ℕ) → Begun s → Begun (previous_from lines s index)
previous_begun_from lines s (Some p) b = taken_begun s _ _ b
previous_begun_from lines s None b = previous_begun_typed lines s _ b

previous_begun : (lines : List (List ℕ)) (s : EditState) → Begun s → Begun (previous_step lines s)
unfolding previous_step
previous_begun lines s b = previous_begun_from lines s s.history_index b

restored_begun : (s : EditState) (i : ℕ) (line : Option (List ℕ)) → Begun s → Begun (with_line_or_typed s i line)
restored_begun s i None b = b
restored_begun s i (Some line) b = b

next_begun_from : (lines : List (List ℕ)) (s : EditState) (index : Option ℕ) → Begun s → Begun (next_from lines s index)
next_begun_from lines s (Some p) b = restored_begun s _ _ b
next_begun_from lines s None b = b

next_begun : (lines : List (List ℕ)) (s : EditState) → Begun s → Begun (next_step lines s)
unfolding next_step
next_begun lines s b = next_begun_from lines s s.history_index b

-- a step of the history or of the search
stepped_begun : (lines : List (List ℕ)) (direction : SearchDirection) (step : EditState → EditState) (s : EditState) (m : ModeView) → Begun (step s) → Begun s → Begun (history_step lines direction step s m)
stepped_begun lines direction step s Inactive there b = there
stepped_begun lines direction step s Editing there b = there
stepped_begun lines direction step s Cancelled there b = there
stepped_begun lines direction step s Accepted there b = there
stepped_begun lines direction step s (Searching style before matching) there b = sought_begun lines direction s b

-- a candidate comes in
put_begun : (s : EditState) (cycle : Option CycleView) (cut : Option Cut) → Begun s → begins (with_completion s cycle cut) ≡ true
put_begun s cycle None b = refl
put_begun s cycle (Some cut) b = b

filled_begun : (s : EditState) (cycle : Option CycleView) (original : Cut) (c : Option CandidateView) → Begun s → begins (with_candidate s cycle original c) ≡ true
filled_begun s cycle original None b = b
filled_begun s cycle original (Some c) b = put_begun s cycle (completed_by c original) b

completed_begun_from : (candidates : List CandidateView) (s : EditState) (cycle : Option CycleView) → Begun s → begins (completed_from candidates s cycle) ≡ true
completed_begun_from candidates s None b = filled_begun s _ _ _ b
completed_begun_from candidates s (Some c) b = filled_begun s _ _ _ b

completed_begun : (candidates : Cut → List CandidateView) (s : EditState) → Begun s → begins (completion_step candidates s) ≡ true
unfolding completion_step
completed_begun candidates s b = completed_begun_from (candidates s.cut) s s.cycle b

module _ {V : Type 0} (rules : HostRules V) (v : V) where
  -- an action
  apply_begun : (a : ActionView) (s : EditState) → Begun s → begins (apply rules v a s) ≡ true
  unfolding apply
  apply_begun AcceptLine s b = refl
  apply_begun Cancel s b = refl
  apply_begun EndOfFile s b = refl
  apply_begun (InsertChar r x) s b = again_begun (rules.lines v) _ b
  apply_begun (InsertText r text) s b = again_begun (rules.lines v) _ b
  apply_begun Repaint s b = b
  apply_begun (Move m) s b = left_begun s b
  apply_begun (Kill m) s b = again_begun (rules.lines v) _ b
  apply_begun (KillAndMove k m) s b = again_begun (rules.lines v) _ b
  apply_begun HistoryPrevious s b = stepped_begun (rules.lines v) Backwards (previous_step (rules.lines v)) s s.mode (previous_begun (rules.lines v) s b) b
  apply_begun HistoryNext s b = stepped_begun (rules.lines v) Forwards (next_step (rules.lines v)) s s.mode (next_begun (rules.lines v) s b) b
  apply_begun Complete s b = completed_begun (rules.candidates v) (search_left s) (left_begun s b)
  apply_begun NoAction s b = b
  apply_begun HistoryIncSearchBackwards s b = sought_begun (rules.lines v) Backwards s b
  apply_begun HistoryIncSearchForwards s b = sought_begun (rules.lines v) Forwards s b

  -- an action, if there is one
  apply_if_begun : (a : Option ActionView) (s : EditState) → Begun s → begins (apply_if rules v a s) ≡ true
  apply_if_begun None s b = b
  apply_if_begun (Some a) s b = apply_begun a s b

  -- a mode other than Inactive
  begun_state : (m : ModeView) → m ≢ Inactive → is_begun m ≡ true
  begun_state Inactive n = absurd (n refl)
  begun_state Editing n = refl
  begun_state Cancelled n = refl
  begun_state Accepted n = refl
  begun_state (Searching style direction matching) n = refl

  -- No action leads to Inactive.
  pub never_inactive : (a : Option ActionView) (s t : EditState) → s.mode ≢ Inactive → apply_if rules v a s ≡ Ok t → t.mode ≢ Inactive
  never_inactive a s t b leads inactive =
      false≢true (sym (ap is_begun inactive) ∙ sym (ap begins leads) ∙ apply_if_begun a s (begun_state s.mode b))
