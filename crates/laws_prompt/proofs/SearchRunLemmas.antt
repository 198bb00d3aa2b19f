-- What each event of a run keeps holds at its stations and at its end; and so a watch says whether the editor searches.
use Rattle.std.proofs.Common.{◌≡◌, List, [], ◌∷◌, cond, Bool, true, false, refl, sym, ◌∙◌, Result, Ok, Err, ℕ, ◌||◌, ap, subst, Option, None, Some, ◌≢◌, ◌+◌, ◌-◌, length, take, drop, ◌++◌, arith, if◌then◌else◌}
use Rattle.std.proofs.lemmas.Bool.{false≢true}
use Rattle.std.specs.List.{All}
use Rattle.std.proofs.lemmas.List.Elements.{All-cons, All-nil}
use Rattle.tw_input.specs.EventView.{EventView}
use Rattle.tw_host.specs.HostRules.{HostRules}
use Rattle.tw_session.specs.EditState.{EditState, ModeView, CycleView, Searching, Editing}
use Rattle.tw_session.specs.Painting.{Rendering}
use Rattle.tw_session.specs.Refusal.{Refusal}
use Rattle.tw_session.specs.Outcomes.{is_over, answer_at}
use Rattle.tw_lineedit.specs.Run.{Progress, Ending, run, ends, at_no_event, at_event, after_event, painting_at, after_painting, state_after, after_action, progress_of, chosen_action, after_resolution}
use Rattle.tw_lineedit.specs.Stations.{Station, station_at, stations_after, stations_unless, stations_by, stations_from}
use Rattle.tw_line.specs.Cut.{Cut, cut_at}
use Rattle.tw_host.specs.ActionView.{ActionView, AcceptLine, Cancel, EndOfFile, Repaint, Move, HistoryPrevious, HistoryNext, Complete, NoAction, HistoryIncSearchBackwards, HistoryIncSearchForwards}
use Rattle.tw_host.specs.CandidateView.{CandidateView, completed_by, fits, landing, line_with}
use Rattle.tw_line.specs.NearestMatch.{MatchView, last_index}
use Rattle.tw_line.specs.declared.history.SearchStyle.{SearchStyle}
use Rattle.tw_line.specs.declared.history.SearchDirection.{SearchDirection}
use Rattle.tw_line.specs.declared.history.SearchDirection.TheVariants.{Backwards, Forwards}
use Rattle.tw_session.specs.Completion.{with_completion, with_candidate, completed_from, completion_step}
use Rattle.tw_session.specs.Walk.{with_line_if, previous_of_typed, previous_from, previous_step, with_line_or_typed, next_from, next_step}
use Rattle.tw_session.specs.Search.{search_left_in, search_left, shown_match, searched_again_in, searched_again, search_step_from, search_step_in, search_step}
use Rattle.tw_session.specs.Steps.{apply, apply_if, history_step}
use Rattle.tw_key_parts.specs.SearchWatch.{has_lines, searches_after}
use Rattle.laws_prompt.specs.SearchRuns.{is_searching, takes_search, IsTold, TellsRuns, TellsReadings, IsOffBehindLines, KnowsSearches, LeavesSearches, BringsFound, CompletesFound}
use Rattle.tw_lineedit.specs.Reading.{start}
use Rattle.tw_key_parts.specs.KeyRules.{KeyRules}
use Rattle.tw_prompt_host.specs.PromptRules.{IsWatch, PromptHasWatch, prompt_rules}
use Rattle.std.proofs.lemmas.List.{length-append, length-take-le, length-drop}
use Rattle.tw_session.proofs.CandidateLemmas.{IsFitting-from}

-- an event at a line that is not over keeps what holds of the host's value and the editor's state
abbrev pub IsKept : {V : Type 0} → HostRules V → (V → EditState → Type 0) → Type 0
IsKept {V} rules Holds = (s : Progress V) (e : EventView) (state : EditState) → is_over s.state.mode ≡ false → Holds s.value s.state
    → state_after rules s e ≡ Ok state → Holds (after_action rules s e state).value state

module _ {V : Type 0} (rules : HostRules V) (Holds : V → EditState → Type 0) (kept : IsKept rules Holds) where
  -- ---- the stations

  module _ (P : Station V → Type 0) (told : (cleared : Bool) (s : Progress V) → Holds s.value s.state → P (station_at cleared s)) where
    abbrev Rest : Type 0
    Rest = Bool → Progress V → List (Station V)

    abbrev TellsRest : Rest → Type 0
    TellsRest rest = (cleared : Bool) (s : Progress V) → Holds s.value s.state → All P (rest cleared s)

    told_after : (e : EventView) (s : Progress V) (rest : Rest) (r : Result EditState Refusal) → TellsRest rest → is_over s.state.mode ≡ false → Holds s.value s.state
        → state_after rules s e ≡ r → All P (stations_after rules e s rest r)
    told_after e s rest (Err n) tells going holds leads = All-nil P
    told_after e s rest (Ok state) tells going holds leads = tells _ _ (kept s e state going holds leads)

    told_by : (e : EventView) (s : Progress V) (rest : Rest) (q : Result Rendering Refusal) → TellsRest rest → Holds s.value s.state → All P (stations_by rules e s rest q)
    told_by e s rest (Err n) tells holds = All-nil P
    told_by e s rest (Ok p) tells holds = by (is_over s.state.mode) refl
      where
        by : (over : Bool) → is_over s.state.mode ≡ over → All P (stations_unless (stations_after rules e (after_painting s p) rest (state_after rules s e)) over)
        by true over = All-nil P
        by false going = told_after e (after_painting s p) rest (state_after rules s e) tells going holds refl

    pub holds_at_stations : (es : List EventView) → TellsRest (stations_from rules es)
    holds_at_stations [] cleared s holds = All-cons P (station_at cleared s) [] (told cleared s holds) (All-nil P)
    holds_at_stations (e ∷ es) cleared s holds =
        All-cons P (station_at cleared s) _ (told cleared s holds) (told_by e s (stations_from rules es) (painting_at rules s) (holds_at_stations es) holds)

  -- ---- the end of a line that is over

  abbrev HoldsOver : Ending V → Type 0
  HoldsOver end = is_over end.state.mode ≡ true → Holds end.value end.state

  abbrev HoldsOn : (Progress V → Ending V) → Type 0
  HoldsOn rest = (s : Progress V) → Holds s.value s.state → HoldsOver (rest s)

  over_end : (s : Progress V) (q : Result Rendering Refusal) → Holds s.value s.state → HoldsOver (at_no_event rules s q)
  over_end s (Err n) holds over = holds
  over_end s (Ok p) holds over = holds

  over_after : (e : EventView) (es : List EventView) (s : Progress V) (rest : Progress V → Ending V) (r : Result EditState Refusal) → HoldsOn rest → is_over s.state.mode ≡ false
      → Holds s.value s.state → state_after rules s e ≡ r → HoldsOver (after_event rules e es s rest r)
  over_after e es s rest (Err n) on going holds leads over = absurd (false≢true (sym going ∙ over))
  over_after e es s rest (Ok state) on going holds leads over = on _ (kept s e state going holds leads) over

  over_event : (e : EventView) (es : List EventView) (s : Progress V) (rest : Progress V → Ending V) (q : Result Rendering Refusal) → HoldsOn rest → Holds s.value s.state
      → HoldsOver (at_event rules e es s rest q)
  over_event e es s rest (Err n) on holds = λ over. holds
  over_event e es s rest (Ok p) on holds = by (is_over s.state.mode) refl
    where
      by : (b : Bool) → is_over s.state.mode ≡ b → HoldsOver (cond b (ends (answer_at s.state) (e ∷ es) (after_painting s p)) (after_event rules e es (after_painting s p) rest (state_after rules s e)))
      by true over = λ _. holds
      by false going = over_after e es (after_painting s p) rest (state_after rules s e) on going holds refl

  pub holds_over : (es : List EventView) → HoldsOn (run rules es)
  holds_over [] s holds = over_end s (painting_at rules s) holds
  holds_over (e ∷ es) s holds = over_event e es s (run rules es) (painting_at rules s) (holds_over es) holds

-- ---- each action leads to a mode that is as its watch says

-- a state whose mode is that of a search, or is not
abbrev Is : Bool → EditState → Type 0
Is b s = is_searching s.mode ≡ b

-- so is the state to which something leads, where it is not refused
abbrev Leads : Bool → Result EditState Refusal → Type 0
Leads b (Ok s) = Is b s
Leads b (Err r) = Unit {0}

-- a search is left
left_in : (s : EditState) (m : ModeView) → s.mode ≡ m → Is false (search_left_in s m)
left_in s (Searching style direction matching) e = refl
left_in s _ e = ap is_searching e

left : (s : EditState) → Is false (search_left s)
left s = left_in s s.mode refl

-- a match is shown, or none
shown : (style : SearchStyle) (direction : SearchDirection) (matching : Cut) (s : EditState) (m : Option MatchView) → Is true (shown_match style direction matching s m)
shown style direction matching s None = refl
shown style direction matching s (Some m) = refl

-- the pattern is applied again
again_in : (lines : List (List ℕ)) (s : EditState) (m : ModeView) → s.mode ≡ m → Is (is_searching m) (searched_again_in lines s m)
again_in lines s (Searching style direction matching) e = shown style direction matching (record s { history_index = None }) _
again_in lines s _ e = ap is_searching e

again : (lines : List (List ℕ)) (s : EditState) → Is (is_searching s.mode) (searched_again lines s)
unfolding searched_again
again lines s = again_in lines s s.mode refl

-- the pattern is sought from an index on while searching
sought_from : (lines : List (List ℕ)) (style : SearchStyle) (direction : SearchDirection) (matching : Cut) (s : EditState) (start : Option ℕ) → Is true s → Is true (search_step_from lines style direction matching s start)
sought_from lines style direction matching s None e = e
sought_from lines style direction matching s (Some start) e = shown style direction matching s _

-- a search begins where there are lines
begun_at : (lines : List (List ℕ)) (style : SearchStyle) (direction : SearchDirection) (matching : Cut) (s : EditState) → Is false s → Is (has_lines lines) (search_step_from lines style direction matching s (last_index lines))
begun_at [] style direction matching s e = e
begun_at (line ∷ lines) style direction matching s e = shown style direction matching s _

sought_in : (lines : List (List ℕ)) (direction : SearchDirection) (s : EditState) (m : ModeView) → s.mode ≡ m → Is (is_searching m || has_lines lines) (search_step_in lines direction s m)
sought_in lines direction s (Searching style before matching) e = sought_from lines style direction matching s _ (ap is_searching e)
sought_in lines direction s _ e = begun_at lines _ direction _ _ (ap is_searching e)

sought : (lines : List (List ℕ)) (direction : SearchDirection) (s : EditState) → Is (is_searching s.mode || has_lines lines) (search_step lines direction s)
unfolding search_step
sought lines direction s = sought_in lines direction s s.mode refl

-- steps through the history
taken : (b : Bool) (s : EditState) (i : ℕ) (line : Option (List ℕ)) → Is b s → Is b (with_line_if s i line)
taken b s i None e = e
taken b s i (Some line) e = e

previous_typed : (b : Bool) (lines : List (List ℕ)) (s : EditState) (last : Option ℕ) → Is b s → Is b (previous_of_typed lines s last)
previous_typed b lines s None e = e
previous_typed b lines s (Some last) e = taken b _ last _ e

previous_in : (b : Bool) (lines : List (List ℕ)) (s : EditState) (index : Option ℕ) → Is b s → Is b (previous_from lines s index)
previous_in b lines s (Some p) e = taken b s _ _ e
previous_in b lines s None e = previous_typed b lines s _ e

previous : (b : Bool) (lines : List (List ℕ)) (s : EditState) → Is b s → Is b (previous_step lines s)
unfolding previous_step
previous b lines s e = previous_in b lines s s.history_index e

restored : (b : Bool) (s : EditState) (i : ℕ) (line : Option (List ℕ)) → Is b s → Is b (with_line_or_typed s i line)
restored b s i None e = e
restored b s i (Some line) e = e

next_in : (b : Bool) (lines : List (List ℕ)) (s : EditState) (index : Option ℕ) → Is b s → Is b (next_from lines s index)
next_in b lines s (Some p) e = restored b s _ _ e
next_in b lines s None e = e

next : (b : Bool) (lines : List (List ℕ)) (s : EditState) → Is b s → Is b (next_step lines s)
unfolding next_step
next b lines s e = next_in b lines s s.history_index e

-- a step of the history or of the search
stepped : (lines : List (List ℕ)) (direction : SearchDirection) (step : EditState → EditState) (s : EditState) (m : ModeView) → s.mode ≡ m → Is (is_searching m) (step s) → Is (is_searching m) (history_step lines direction step s m)
stepped lines direction step s (Searching style before matching) e there =
    subst (λ m. Is (is_searching m || has_lines lines) (search_step lines direction s)) e (sought lines direction s)
stepped lines direction step s _ e there = there

-- what holds of a state, of it with another line and cycle, and of a refusal, holds of what a completion leads to
module _ (P : Result EditState Refusal → Type 0) (refused : (r : Refusal) → P (Err r)) (s : EditState) (same : P (Ok s))
    (other : (cycle : Option CycleView) (cut : Cut) → P (Ok (record s { cut = cut; cycle = cycle }))) where
  put : (cycle : Option CycleView) (cut : Option Cut) → P (with_completion s cycle cut)
  put cycle None = refused _
  put cycle (Some cut) = other cycle cut

  filled : (cycle : Option CycleView) (original : Cut) (c : Option CandidateView) → P (with_candidate s cycle original c)
  filled cycle original None = same
  filled cycle original (Some c) = put cycle (completed_by c original)

  completed_in : (candidates : List CandidateView) (cycle : Option CycleView) → P (completed_from candidates s cycle)
  completed_in candidates None = filled _ _ _
  completed_in candidates (Some c) = filled _ _ _

  pub completed : (candidates : Cut → List CandidateView) → P (completion_step candidates s)
  unfolding completion_step
  completed candidates = completed_in (candidates s.cut) s.cycle

module _ {V : Type 0} (rules : HostRules V) (v : V) where
  -- an action
  applied : (a : ActionView) (s : EditState) → Leads (searches_after (has_lines (rules.lines v)) (Some a) (is_searching s.mode)) (apply rules v a s)
  unfolding apply
  applied AcceptLine s = refl
  applied Cancel s = refl
  applied EndOfFile s = tt
  applied Repaint s = refl
  applied (Move m) s = left s
  applied HistoryPrevious s = stepped (rules.lines v) Backwards (previous_step (rules.lines v)) s s.mode refl (previous _ (rules.lines v) s refl)
  applied HistoryNext s = stepped (rules.lines v) Forwards (next_step (rules.lines v)) s s.mode refl (next _ (rules.lines v) s refl)
  applied Complete s = completed (Leads false) (λ r. tt) (search_left s) (left s) (λ cycle cut. left s) (rules.candidates v)
  applied NoAction s = refl
  applied HistoryIncSearchBackwards s = sought (rules.lines v) Backwards s
  applied HistoryIncSearchForwards s = sought (rules.lines v) Forwards s
  applied _ s = again (rules.lines v) _

  -- an action, if there is one
  applied_if : (a : Option ActionView) (s : EditState) → Leads (searches_after (has_lines (rules.lines v)) a (is_searching s.mode)) (apply_if rules v a s)
  applied_if None s = refl
  applied_if (Some a) s = applied a s

  -- where an action leads to a state, it searches there as is said
  pub leads_as_told : (a : Option ActionView) (s t : EditState) → apply_if rules v a s ≡ Ok t → is_searching t.mode ≡ searches_after (has_lines (rules.lines v)) a (is_searching s.mode)
  leads_as_told a s t e = subst (Leads (searches_after (has_lines (rules.lines v)) a (is_searching s.mode))) e (applied_if a s)

-- ---- a run

-- a line that is over is not searched for
over_is_still : (m : ModeView) → is_over m ≡ true → is_searching m ≡ false
over_is_still (Searching style direction matching) over = absurd (false≢true over)
over_is_still _ over = refl

module _ {V : Type 0} (rules : HostRules V) (watch : V → Bool) where
  -- the watch says whether the editor searches
  abbrev Agrees : V → EditState → Type 0
  Agrees v s = watch v ≡ is_searching s.mode

  -- so it does after an event
  agrees_after : IsWatch rules watch → IsKept rules Agrees
  agrees_after is s e state going agrees leads =
      is s.value e s.state.cut
      ∙ ap (λ before. searches_after (has_lines (rules.lines (after_resolution rules s e).value)) (chosen_action rules s e) before) agrees
      ∙ sym (leads_as_told rules (after_resolution rules s e).value (chosen_action rules s e) (after_resolution rules s e).state state leads)

  pub tells_runs : TellsRuns rules watch
  tells_runs is f agrees = holds_at_stations rules Agrees (agrees_after is) (IsTold rules watch) (λ cleared s agrees. agrees) f.terminal.events false (progress_of f) agrees

  pub tells_readings : TellsReadings rules watch
  tells_readings is initial f off = tells_runs is (start initial f) off

  pub off_behind_lines : IsOffBehindLines rules watch
  off_behind_lines is initial f off over =
      holds_over rules Agrees (agrees_after is) f.terminal.events (progress_of (start initial f)) off over ∙ over_is_still _ over

module _ {V S K : Type 0} (keys : KeyRules S K) (rules : HostRules V) where
  has_watch : PromptHasWatch keys rules
  has_watch v event cut = refl

  pub knows_searches : KnowsSearches keys rules
  knows_searches initial f off = tells_readings (prompt_rules keys rules) (takes_search keys rules) has_watch initial f off

  pub leaves_searches : LeavesSearches keys rules
  leaves_searches initial f off over = off_behind_lines (prompt_rules keys rules) (takes_search keys rules) has_watch initial f off over

-- ---- what an action leads to from a search

-- a state that is edited has this line
abbrev Brings : List ℕ → Result EditState Refusal → Type 0
Brings line (Ok after) = after.mode ≡ Editing → after.cut.line ≡ line
Brings line (Err r) = Unit {0}

-- the cursor stands as far from the line's end as in another one
abbrev Keeps : Cut → Result EditState Refusal → Type 0
Keeps found (Ok after) = after.cut.cursor + length found.line ≡ found.cursor + length after.cut.line
Keeps found (Err r) = Unit {0}

-- so it does with a candidate in its place
keeps_by : (s : EditState) (cycle : Option CycleView) (c : CandidateView) (fit : Bool) → fits s.cut c ≡ fit
    → Keeps s.cut (with_completion s cycle (if fit then Some (cut_at (line_with s.cut c) (landing s.cut c)) else None))
keeps_by s cycle c false e = tt
keeps_by s cycle c true e =
    let fitting = IsFitting-from s.cut c e in
    let before : length (take c.start s.cut.line) ≡ c.start = length-take-le c.start s.cut.line (omega (arith, fitting.ordered, fitting.within)) in
    let behind : length (drop c.end s.cut.line) ≡ length s.cut.line - c.end = length-drop c.end s.cut.line in
    omega (arith, length-append (take c.start s.cut.line) (c.text ++ drop c.end s.cut.line), length-append c.text (drop c.end s.cut.line), before, behind, fitting.within, fitting.low)

keeps_with : (s : EditState) (cycle : Option CycleView) (c : Option CandidateView) → Keeps s.cut (with_candidate s cycle s.cut c)
keeps_with s cycle None = refl
keeps_with s cycle (Some c) = keeps_by s cycle c (fits s.cut c) refl

keeps : (candidates : Cut → List CandidateView) (s : EditState) (cycle : Option CycleView) → s.cycle ≡ cycle → cycle ≡ None → Keeps s.cut (completion_step candidates s)
unfolding completion_step
keeps candidates s None e none = subst (λ cycle. Keeps s.cut (completed_from (candidates s.cut) s cycle)) (sym e) (keeps_with s _ _)
keeps candidates s (Some cycle) e none = cc

module _ {V : Type 0} (rules : HostRules V) where
  -- an action that goes on with a search does not lead back to editing
  goes_on : (v : V) (action : ActionView) (line : List ℕ) (before : EditState) (r : Result EditState Refusal) → is_searching before.mode ≡ true
      → apply rules v action before ≡ r → searches_after (has_lines (rules.lines v)) (Some action) true ≡ true → Brings line r
  goes_on v _ line before (Err r) searching leads on = tt
  goes_on v action line before (Ok after) searching leads on = λ editing.
      let told = leads_as_told rules v (Some action) before after leads in
      let from = ap (searches_after (has_lines (rules.lines v)) (Some action)) searching in
      absurd (false≢true (sym (ap is_searching editing) ∙ told ∙ from ∙ on))

  brings : (v : V) (action : ActionView) (found : Cut) (before : EditState) → is_searching before.mode ≡ true → (search_left before).cut ≡ found
      → action ≢ Complete → Brings found.line (apply rules v action before)
  unfolding apply
  brings v AcceptLine found before searching left other = λ editing. cc
  brings v Cancel found before searching left other = λ editing. cc
  brings v EndOfFile found before searching left other = tt
  brings v (Move m) found before searching left other = λ editing. ap (λ cut. cut.line) left
  brings v Complete found before searching left other = absurd (other refl)
  brings v action found before searching left other = goes_on v action found.line before _ searching refl refl

  pub brings_found : BringsFound rules
  brings_found v action found before after ends other =
      subst (Brings found.line) ends.leads
      (brings v action found before (ap is_searching ends.searching) (ap (λ mode. (search_left_in before mode).cut) ends.searching) other) ends.editing

  completes : (v : V) (before : EditState) → before.cycle ≡ None → (search_left before).cycle ≡ before.cycle → Keeps (search_left before).cut (apply rules v Complete before)
  unfolding apply
  completes v before none same = keeps (rules.candidates v) (search_left before) (search_left before).cycle refl (same ∙ none)

  pub completes_found : CompletesFound rules
  completes_found v found before after ends none =
      let cycle : (search_left before).cycle ≡ before.cycle = ap (λ mode. (search_left_in before mode).cycle) ends.searching in
      let left : (search_left before).cut ≡ found = ap (λ mode. (search_left_in before mode).cut) ends.searching in
      subst (λ cut. Keeps cut (Ok after)) left (subst (Keeps (search_left before).cut) ends.leads (completes v before none cycle))
