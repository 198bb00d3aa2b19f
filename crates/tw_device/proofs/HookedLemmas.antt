-- A line that is read with a hook, event by event.
use Rattle.std.proofs.Common.{◌≡◌, ◌≢◌, List, [], ◌∷◌, ◌++◌, Bool, true, false, Option, Some, None, Result, Ok, Err, IfOk, OnOk, refl, sym, ap, ◌∙◌, subst, inl, inr, append_assoc}
use Rattle.std.proofs.lemmas.List.{append_cancel_left}
use Rattle.std.specs.Borrow.{MutBor}
use Rattle.tw_surface.specs.ChangeView.{Batch}
use Rattle.tw_input.specs.EventView.{EventView}
use Rattle.tw_terminal.specs.TerminalState.{TerminalState}
use Rattle.tw_session.proofs.ModeLemmas.{never_inactive}
use Rattle.tw_lineedit.proofs.FeedingLemmas.{open_is_begun}
use Rattle.tw_lineedit.proofs.UseLemmas.{used_then}
use Rattle.tw_lineedit.specs.EditState.{Inactive}
use Rattle.tw_lineedit.specs.EditorSteps.{GivesUp, Handles, IsClosedAfter, answered_frame}
use Rattle.tw_lineedit.specs.Feeding.{status_if}
use Rattle.tw_lineedit.specs.Frame.{Frame}
use Rattle.tw_lineedit.specs.HostRules.{HostRules}
use Rattle.tw_lineedit.specs.Lent.{KeepsTerminal}
use Rattle.tw_lineedit.specs.Outcomes.{is_open}
use Rattle.tw_lineedit.specs.Run.{chosen_action, progress_of}
use Rattle.tw_lineedit.specs.SessionView.{SessionView}
use Rattle.tw_lineedit.specs.declared.Error.{Error}
use Rattle.tw_lineedit.specs.declared.Error.TheVariants.{EndOfFile}
use Rattle.tw_lineedit.specs.declared.editor.feeding.LineStatus.TheVariants.{Ended}
use Rattle.tw_lineedit.specs.declared.Overrides.{Overrides}
use Rattle.tw_device.specs.Hooked.{EndsAfter, EndsBy, FeedsAs, HookRules, IsReadHooked, ShowsHandled, Starts, TakesLine, TakesOn, TakesOver, Turns, TurnsAll}
use Rattle.tw_device.specs.Live.{frame_of, resized_frame}
use Rattle.tw_device.specs.Steps.{Asks, Goes, NotesCalls, Seen, Step, events_in, seen_at, state_in}
use Rattle.tw_device.specs.declared.hooked.End.{End}
use Rattle.tw_device.specs.declared.hooked.End.TheVariants.{Input, Line, Source}
use Rattle.tw_device.specs.declared.keys.SourceState.{SourceState}
use Rattle.tw_device.specs.declared.keys.SourceState.TheVariants.{AtEnd}
use Rattle.tw_device.specs.declared.reading.Answer.{Answer}
use Rattle.tw_input.specs.declared.event.InputEvent.{InputEvent}
use Rattle.tw_terminal.specs.Uses.{Call, IsUsed}
use Rattle.tw_terminal.specs.declared.terminal.TerminalFault.{TerminalFault}
use Rattle.tw_device.proofs.InTimeLemmas.{goes_feeding, goes_on}

module _ {H V : Type 0} (rules : HostRules V) (overrides : Overrides) (value : H → V) (hook : HookRules H) where
  -- these events were told since, each to an open line
  abbrev pub TurnsBy : Seen → Seen → Frame V → Frame V → Type 0
  TurnsBy old new f g = (events : List EventView) × (events_in new.log ≡ events_in old.log ++ events) × TurnsAll rules value hook events f g

  -- turns, and then one more
  turns_then : (events : List EventView) (e : EventView) (f g h : Frame V) → TurnsAll rules value hook events f g → is_open g.state.mode ≡ true
      → Turns rules value hook e (resized_frame e g) h → TurnsAll rules value hook (events ++ e ∷ []) f h
  turns_then [] e f g h same going turn = subst (λ x. TurnsAll rules value hook (e ∷ []) x h) same (h, going, turn, refl)
  turns_then (x ∷ events) e f g h (mid, first, turn, later) going last = (mid, first, turn, turns_then events e mid g h later going last)

  -- what ends a line after turns
  ends_fed : (stop : End) (events : List EventView) (e : EventView) (state : SourceState) (f g h : Frame V) → TurnsAll rules value hook events f g → is_open g.state.mode ≡ true
      → FeedsAs rules overrides value hook e (Some stop) (resized_frame e g) h → EndsAfter rules overrides value hook stop (events ++ e ∷ []) state f h
  ends_fed Line events e state f g h turns going (turn, over, begun) = (turns_then events e f g h turns going turn, over, begun)
  ends_fed Source events e state f g h turns going fed = absurd fed
  ends_fed Input events e state f g h turns going ends = (events, e, refl, g, turns, ends)

  module _ (old mid new : Seen) (f g : Frame V) (turns : TurnsBy old mid f g) (going : is_open g.state.mode ≡ true) where
    module _ (e : EventView) (r h : Frame V) (sized : r ≡ resized_frame e g) (told : events_in new.log ≡ events_in mid.log ++ e ∷ []) where
      all_told : events_in new.log ≡ events_in old.log ++ (turns.0 ++ e ∷ [])
      all_told = told ∙ ap (λ l. l ++ e ∷ []) turns.1 ∙ append_assoc (events_in old.log) turns.0 (e ∷ [])

      -- an event that the line goes on after
      pub turns_on : FeedsAs rules overrides value hook e None r h → TurnsBy old new f h
      turns_on (turn, still) = (turns.0 ++ e ∷ [], all_told, turns_then turns.0 e f g h turns.2 going (subst (λ x. Turns rules value hook e x h) sized turn))

      -- an event that ends it
      pub ends_on : (stop : End) → FeedsAs rules overrides value hook e (Some stop) r h → EndsBy rules overrides value hook stop old new f h
      ends_on stop fed = (turns.0 ++ e ∷ [], all_told, ends_fed stop turns.0 e (state_in new.log) f g h turns.2 going (subst (λ x. FeedsAs rules overrides value hook e (Some stop) x h) sized fed))

    -- there are no more events
    pub ends_source : (r : Frame V) → r ≡ g → events_in new.log ≡ events_in mid.log → state_in new.log ≡ AtEnd → EndsBy rules overrides value hook Source old new f r
    ends_source r same told at = (turns.0, told ∙ turns.1, subst (λ x. EndsAfter rules overrides value hook Source turns.0 (state_in new.log) f x) (sym same) (turns.2, going, at))

  -- the same up to calls
  pub ends_between : (stop : End) (old is new : Seen) (f g : Frame V) → events_in new.log ≡ events_in is.log → state_in new.log ≡ state_in is.log
      → EndsBy rules overrides value hook stop old is f g → EndsBy rules overrides value hook stop old new f g
  ends_between stop old is new f g told answered (events, all, ends) =
      (events, told ∙ all, subst (λ state. EndsAfter rules overrides value hook stop events state f g) (sym answered) ends)

  -- a line that was taken is read, and its editor is gone
  pub read_hooked : {E : Type 0} (result : Result Answer E) (old was is new : Seen) (begun first : Frame V) (s : SessionView) (v : V) (t : TerminalState) → Starts rules value hook begun first
      → events_in was.log ≡ events_in old.log → is ≡ new → new.terminal ≡ t → IfOk result (TakesLine rules overrides value hook was is first (frame_of s v t)) → IfOk result (IsReadHooked rules overrides value hook old new begun v)
  read_hooked (Err e) old was is new begun first s v t starts told same left takes = tt
  read_hooked (Ok answer) old was is new begun first s v t starts told same left takes =
      let ends : EndsBy rules overrides value hook takes.stop was new first takes.last = ends_between takes.stop was is new first takes.last (ap (λ seen. events_in seen.log) (sym same)) (ap (λ seen. state_in seen.log) (sym same)) takes.ends in (
        s,
        (
          first,
          starts,
          subst (λ it. TakesLine rules overrides value hook old new first (frame_of s v it) answer) (sym left) (record {
            stop = takes.stop;
            last = takes.last;
            ends = (ends.0, ends.1 ∙ ap (λ l. l ++ ends.0) told, ends.2);
            answers = takes.answers;
          }),
        ),
      )

  -- what is taken of a line

  -- nothing more, at first
  pub takes_now : (f : Frame V) → TakesOn rules value hook f [] f.terminal.batches
  takes_now f = (f, refl, refl)

  -- turns after others
  turns_both : (xs ys : List EventView) (f g h : Frame V) → TurnsAll rules value hook xs f g → TurnsAll rules value hook ys g h → TurnsAll rules value hook (xs ++ ys) f h
  turns_both [] ys f g h same later = subst (λ it. TurnsAll rules value hook ys it h) same later
  turns_both (x ∷ xs) ys f g h (mid, going, turn, more) later = (mid, going, turn, turns_both xs ys mid g h more later)

  -- what is taken on by what has come
  pub takes_then : (old mid : Seen) (f g : Frame V) → TurnsBy old mid f g → (xs : List EventView) → events_in mid.log ≡ events_in old.log ++ xs
      → (seen : List EventView) (batches : List Batch) → TakesOn rules value hook g seen batches → TakesOn rules value hook f (xs ++ seen) batches
  takes_then old mid f g (came, told, turns) xs is seen batches (h, later, taken) =
      let same : came ≡ xs = append_cancel_left (events_in old.log) came xs (sym told ∙ is) in
      (h, subst (λ events. TurnsAll rules value hook (events ++ seen) f h) same (turns_both came seen f g h turns later), taken)

  -- what is taken of a line that has begun
  pub takes_begun : (f first : Frame V) → Starts rules value hook f first → (seen : List EventView) (batches : List Batch) → TakesOn rules value hook first seen batches
      → TakesOver rules value hook f seen batches
  takes_begun f first starts seen batches takes = (first, starts, takes)

  -- an answer, and calls after it, where turns have led
  pub goes_turn : {D : Type 0} (state : D → TerminalState) (log : D → List Step) (Law : D → D → Type 0) (Follows : D → D → Call → Type 0)
      → ((old new : D) (call : Call) → Follows old new call → NotesCalls (seen_at state log old) (seen_at state log new))
      → ((old new : D) (call : Call) → Follows old new call → Law old new) → ((it : D) → Law it it) → ((old mid new : D) → Law old mid → Law mid new → Law old new)
      → (answer : Result (Option InputEvent) TerminalFault) (old at asked new : D) (f g : Frame V) → state at ≡ g.terminal
      → Goes state log Law (TakesOn rules value hook f) old at → TurnsBy (seen_at state log old) (seen_at state log at) f g
      → Asks answer (seen_at state log at) (seen_at state log asked) → Law at asked → IsUsed Follows asked new
      → Goes state log Law (TakesOn rules value hook f) old new
  goes_turn state log Law Follows notes law stays joins answer old at asked new f g there goes turns asks leads used =
      goes_on state log Law joins (TakesOn rules value hook f) (TakesOn rules value hook g) old at new goes
      (goes_feeding state log Law Follows notes law stays joins (TakesOn rules value hook g) answer at asked new asks leads used
      (subst (λ it. TakesOn rules value hook g [] it.batches) (sym there) (takes_now g)))
      (takes_then (seen_at state log old) (seen_at state log at) f g turns)

module _ {V : Type 0} where
  -- an editor that is closed after the end of the input was asked for
  pub closed_at_end : (Fails : Frame V → Frame V → Error → Type 0) (f g : Frame V) → IsClosedAfter Fails f g EndOfFile
      → (h : Frame V) × Fails f h EndOfFile × GivesUp EndOfFile h g EndOfFile
  closed_at_end Fails f g (h, refusal, fails, inl (same, closes)) = (h, subst (λ x. Fails f h x) (sym same) fails, inl (refl, closes))
  closed_at_end Fails f g (h, refusal, fails, inr failed) = absurd failed

module _ {H V : Type 0} (rules : HostRules V) (value : H → V) (hook : HookRules H) where
  -- what is shown keeps the state
  pub shown_state : (f g : Frame V) → ShowsHandled rules value hook true f g → g.state ≡ f.state
  shown_state f g (prepared, makes, inl paints) = paints.state
  shown_state f g (prepared, makes, inr (text, some, prints, shown)) = shown.state

  -- what comes of an event is shown as its line goes on or not
  pub shown_as : (goes-on : Bool) (f g : Frame V) → is_open f.state.mode ≡ goes-on → ShowsHandled rules value hook goes-on f g → ShowsHandled rules value hook (is_open f.state.mode) f g
  shown_as goes-on f g is shows = subst (λ it. ShowsHandled rules value hook it f g) (sym is) shows

module _ {V : Type 0} (rules : HostRules V) where
  -- an event does not close an open line
  pub handled_begun : (e : EventView) (f g : Frame V) → is_open f.state.mode ≡ true → Handles rules e f g → g.state.mode ≢ Inactive
  handled_begun e f g going handles =
      never_inactive rules (answered_frame rules e f).value (chosen_action rules (progress_of f) e) (answered_frame rules e f).state g.state (open_is_begun f.state.mode going) handles.state

-- a line that takes no more events
pub not_open : (is_open : Bool) → status_if is_open ≡ Ended → is_open ≡ false
not_open false is = refl
not_open true is = absurd (cc is)

-- calls of a terminal, one after the other
pub keeps_then : {T K : Type 0} (Follows : T → T → K → Type 0) (a was b is c : MutBor T) → was ≡ a → KeepsTerminal Follows was b → is ≡ b → KeepsTerminal Follows is c
    → KeepsTerminal Follows a c
keeps_then Follows a was b is c same first still next =
    let begun : KeepsTerminal Follows a b = subst (λ it. KeepsTerminal Follows it b) same first in
    let later : KeepsTerminal Follows b c = subst (λ it. KeepsTerminal Follows it c) still next in
    (later.0 ∙ begun.0, used_then Follows a.now b.now c.now begun.1 later.1)

-- what is known of an answer
pub on_ok : {A E P Q : Type 0} (result : Result A E) → (P → Q) → OnOk result P → OnOk result Q
on_ok (Ok it) leads is = leads is
on_ok (Err e) leads is = tt
