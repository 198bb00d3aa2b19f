-- Steps that are noted in time.
use Rattle.std.proofs.Common.{◌≡◌, ◌+◌, List, [], ◌∷◌, ◌++◌, Option, Some, None, Result, Ok, Err, length, refl, sym, ap, ◌∙◌, subst, append_assoc, append-nil, inl, inr, ◌⊎◌, true, arith}
use Rattle.std.proofs.lemmas.Bool.{and_from, and_parts, false≢true}
use Rattle.std.proofs.lemmas.List.{append_cancel_left, length-append}
use Rattle.std.specs.List.{list_all}
use Rattle.tw_surface.specs.ChangeView.{Batch}
use Rattle.tw_input.specs.EventView.{EventView, event_view}
use Rattle.tw_input.specs.declared.event.InputEvent.{InputEvent}
use Rattle.tw_terminal.specs.TerminalState.{TerminalState}
use Rattle.tw_terminal.specs.Uses.{Call, Uses, IsUsed}
use Rattle.tw_terminal.specs.declared.terminal.TerminalFault.{TerminalFault}
use Rattle.tw_device.specs.declared.keys.SourceState.{SourceState}
use Rattle.tw_device.specs.declared.keys.SourceState.TheVariants.{Going}
use Rattle.tw_device.specs.JoinedLaws.{told_then}
use Rattle.tw_device.specs.Steps.{Step, Took, Refused, Sent, Flushed, Waited, Told, Ended, Failed, Seen, NotesCalls, Asks, IsInTime, GoesInTime, IsCalledOn, Goes, answer_step, batches_in, is_call, is_lead, seen_at, source_after, state_from, state_in, events_in}
use Rattle.tw_device.specs.Told.{answer_events}
use Rattle.tw_device.proofs.JoinedLemmas.{batches_after, told_by}

-- ---- lists of steps

pub batches_then : (a b : List Step) → batches_in (a ++ b) ≡ batches_in a ++ batches_in b
batches_then [] b = refl
batches_then (Took x ∷ a) b = ap (λ all. x ∷ all) (batches_then a b)
batches_then (Refused ∷ a) b = batches_then a b
batches_then (Sent ∷ a) b = batches_then a b
batches_then (Flushed ∷ a) b = batches_then a b
batches_then (Waited ∷ a) b = batches_then a b
batches_then (Told e ∷ a) b = batches_then a b
batches_then (Ended ∷ a) b = batches_then a b
batches_then (Failed f ∷ a) b = batches_then a b

-- calls tell nothing
calls_tell : (steps : List Step) → list_all is_call steps ≡ true → events_in steps ≡ []
calls_tell [] all = refl
calls_tell (Took x ∷ steps) all = calls_tell steps all
calls_tell (Refused ∷ steps) all = calls_tell steps all
calls_tell (Sent ∷ steps) all = calls_tell steps all
calls_tell (Flushed ∷ steps) all = calls_tell steps all
calls_tell (Waited ∷ steps) all = absurd (false≢true all)
calls_tell (Told e ∷ steps) all = absurd (false≢true all)
calls_tell (Ended ∷ steps) all = absurd (false≢true all)
calls_tell (Failed f ∷ steps) all = absurd (false≢true all)

-- nor do they answer
calls_answer : (state : SourceState) (steps : List Step) → list_all is_call steps ≡ true → state_from state steps ≡ state
calls_answer state [] all = refl
calls_answer state (Took x ∷ steps) all = calls_answer state steps all
calls_answer state (Refused ∷ steps) all = calls_answer state steps all
calls_answer state (Sent ∷ steps) all = calls_answer state steps all
calls_answer state (Flushed ∷ steps) all = calls_answer state steps all
calls_answer state (Waited ∷ steps) all = absurd (false≢true all)
calls_answer state (Told e ∷ steps) all = absurd (false≢true all)
calls_answer state (Ended ∷ steps) all = absurd (false≢true all)
calls_answer state (Failed f ∷ steps) all = absurd (false≢true all)

-- what comes before an answer tells and takes nothing
lead_tells : (steps : List Step) → list_all is_lead steps ≡ true → events_in steps ≡ []
lead_tells [] all = refl
lead_tells (Sent ∷ steps) all = lead_tells steps all
lead_tells (Refused ∷ steps) all = lead_tells steps all
lead_tells (Waited ∷ steps) all = lead_tells steps all
lead_tells (Took x ∷ steps) all = absurd (false≢true all)
lead_tells (Flushed ∷ steps) all = absurd (false≢true all)
lead_tells (Told e ∷ steps) all = absurd (false≢true all)
lead_tells (Ended ∷ steps) all = absurd (false≢true all)
lead_tells (Failed f ∷ steps) all = absurd (false≢true all)

lead_takes_none : (steps : List Step) → list_all is_lead steps ≡ true → batches_in steps ≡ []
lead_takes_none [] all = refl
lead_takes_none (Sent ∷ steps) all = lead_takes_none steps all
lead_takes_none (Refused ∷ steps) all = lead_takes_none steps all
lead_takes_none (Waited ∷ steps) all = lead_takes_none steps all
lead_takes_none (Took x ∷ steps) all = absurd (false≢true all)
lead_takes_none (Flushed ∷ steps) all = absurd (false≢true all)
lead_takes_none (Told e ∷ steps) all = absurd (false≢true all)
lead_takes_none (Ended ∷ steps) all = absurd (false≢true all)
lead_takes_none (Failed f ∷ steps) all = absurd (false≢true all)

-- nor does the answer after it
lead_takes : (steps : List Step) → list_all is_lead steps ≡ true → (answer : Result (Option InputEvent) TerminalFault) → batches_in (steps ++ answer_step answer ∷ []) ≡ []
lead_takes steps all answer = batches_then steps (answer_step answer ∷ []) ∙ ap (λ l. l ++ batches_in (answer_step answer ∷ [])) (lead_takes_none steps all) ∙ answer_takes answer
  where
    answer_takes : (answer : Result (Option InputEvent) TerminalFault) → batches_in (answer_step answer ∷ []) ≡ []
    answer_takes (Ok (Some event)) = refl
    answer_takes (Ok None) = refl
    answer_takes (Err fault) = refl

pub state_then : (state : SourceState) (a b : List Step) → state_from state (a ++ b) ≡ state_from (state_from state a) b
state_then state [] b = refl
state_then state (step ∷ a) b = state_then _ a b

-- where a step of two lists is
step_in : (xs zs before after : List Step) (step : Step) → xs ++ zs ≡ before ++ step ∷ after
    → ((rest : List Step) × (xs ≡ before ++ step ∷ rest)) ⊎ ((more : List Step) × (before ≡ xs ++ more) × (zs ≡ more ++ step ∷ after))
step_in [] zs before after step is = inr (before, refl, is)
step_in (x ∷ xs) zs [] after step is = inl (xs, cc is)
step_in (x ∷ xs) zs (y ∷ before) after step is =
    elim (step_in xs zs before after step (cc is)) [
      | inl first ↦ inl (first.0, ap (λ l. x ∷ l) first.1 ∙ cc is)
      | inr later ↦ inr (later.0, (cc (is, later.1)), later.2)
    ]

-- an event in a list without events
never_told : {P : Type 0} (steps before after : List Step) (event : EventView) → events_in steps ≡ [] → steps ≡ before ++ Told event ∷ after → P
never_told steps before after event none is =
    let count : length (events_in steps) ≡ length (events_in before) + length (event ∷ events_in after) =
    ap (λ l. length (events_in l)) is ∙ ap length (told_then before (Told event ∷ after)) ∙ length-append (events_in before) (event ∷ events_in after) in
    let zero : length (events_in steps) ≡ 0 = ap length none in
    absurd (omega (arith, count, zero))

-- steps that are in time, and then others, for which what is due is the rest
pub in_time_then : (Due Rest : List EventView → List Batch → Type 0) (taken : List Batch) (xs zs : List Step) → IsInTime Due taken xs → IsInTime Rest (taken ++ batches_in xs) zs
    → ((seen : List EventView) (batches : List Batch) → Rest seen batches → Due (events_in xs ++ seen) batches) → IsInTime Due taken (xs ++ zs)
in_time_then Due Rest taken xs zs first later are before after event is =
    elim (step_in xs zs before after (Told event) is) [
      | inl at ↦ first before at.0 event at.1
      | inr at ↦
          let here : taken ++ batches_in before ≡ (taken ++ batches_in xs) ++ batches_in at.0 =
          ap (λ l. taken ++ batches_in l) at.1 ∙ ap (λ l. taken ++ l) (batches_then xs at.0) ∙ sym (append_assoc taken (batches_in xs) (batches_in at.0)) in
          subst (λ batches. Due (events_in before) batches) (sym here) (subst (λ events. Due events ((taken ++ batches_in xs) ++ batches_in at.0)) (sym (ap events_in at.1 ∙ told_then xs at.0))
          (are (events_in at.0) _ (later at.0 after event at.2)))
    ]

-- steps that tell nothing
pub in_time_silent : (Due : List EventView → List Batch → Type 0) (taken : List Batch) (steps : List Step) → events_in steps ≡ [] → IsInTime Due taken steps
in_time_silent Due taken steps none before after event is = never_told steps before after event none is

-- the first event, where what is due at first is taken
pub in_time_first : (Due : List EventView → List Batch → Type 0) (taken : List Batch) (event : EventView) → Due [] taken → IsInTime Due taken (Told event ∷ [])
in_time_first Due taken event now [] after other is = subst (λ batches. Due [] batches) (sym (append-nil taken)) now
in_time_first Due taken event now (step ∷ before) after other is =
    let all : length (Told event ∷ []) ≡ length (step ∷ (before ++ Told other ∷ after)) = ap length is in
    let some : length (before ++ Told other ∷ after) ≡ length before + length (Told other ∷ after) = length-append before (Told other ∷ after) in
    absurd (omega (arith, all, some))

-- ---- what is seen

-- some steps, and then others
pub goes_then : (Due Rest : List EventView → List Batch → Type 0) (old mid new : Seen) (first : GoesInTime Due old mid) → GoesInTime Rest mid new
    → ((seen : List EventView) (batches : List Batch) → Rest seen batches → Due (events_in first.steps ++ seen) batches) → GoesInTime Due old new
goes_then Due Rest old mid new first later are = record {
  steps = first.steps ++ later.steps;
  log = later.log ∙ ap (λ l. l ++ later.steps) first.log ∙ append_assoc old.log first.steps later.steps;
  batches = later.batches ∙ ap (λ l. l ++ batches_in later.steps) first.batches ∙ append_assoc old.terminal.batches (batches_in first.steps) (batches_in later.steps)
      ∙ ap (λ l. old.terminal.batches ++ l) (sym (batches_then first.steps later.steps));
  in_time = in_time_then Due Rest old.terminal.batches first.steps later.steps first.in_time (subst (λ taken. IsInTime Rest taken later.steps) first.batches later.in_time) are;
}

-- nothing was done
pub goes_nowhere : (Due : List EventView → List Batch → Type 0) (seen : Seen) → GoesInTime Due seen seen
goes_nowhere Due seen = record {
  steps = [];
  log = sym (append-nil seen.log);
  batches = sym (append-nil seen.terminal.batches);
  in_time = in_time_silent Due seen.terminal.batches [] refl;
}

-- calls
pub calls_go : (Due : List EventView → List Batch → Type 0) (old new : Seen) → NotesCalls old new → GoesInTime Due old new
calls_go Due old new notes =
    record { steps = notes.steps; log = notes.log; batches = notes.batches; in_time = in_time_silent Due old.terminal.batches notes.steps (calls_tell notes.steps notes.calls) }

-- an answer: an event comes where all that is due at first is taken
pub asks_go : (Due : List EventView → List Batch → Type 0) (answer : Result (Option InputEvent) TerminalFault) (old new : Seen) → Asks answer old new
    → Due [] old.terminal.batches → GoesInTime Due old new
asks_go Due answer old new asks now = record {
  steps = asks.lead ++ answer_step answer ∷ [];
  log = asks.log;
  batches = ap (λ (t : TerminalState). t.batches) asks.terminal ∙ batches_after answer old.terminal
      ∙ sym (ap (λ l. old.terminal.batches ++ l) (lead_takes asks.lead asks.leads answer) ∙ append-nil old.terminal.batches);
  in_time = in_time_then Due Due old.terminal.batches asks.lead (answer_step answer ∷ []) (in_time_silent Due old.terminal.batches asks.lead none) (told_last answer)
      (λ seen batches is-due. subst (λ l. Due (l ++ seen) batches) (sym none) is-due);
}
  where
    none : events_in asks.lead ≡ []
    none = lead_tells asks.lead asks.leads

    is : old.terminal.batches ++ batches_in asks.lead ≡ old.terminal.batches
    is = ap (λ l. old.terminal.batches ++ l) (lead_takes_none asks.lead asks.leads) ∙ append-nil old.terminal.batches

    told_last : (answer : Result (Option InputEvent) TerminalFault) → IsInTime Due (old.terminal.batches ++ batches_in asks.lead) (answer_step answer ∷ [])
    told_last (Ok (Some event)) = in_time_first Due (old.terminal.batches ++ batches_in asks.lead) (event_view event) (subst (λ batches. Due [] batches) (sym is) now)
    told_last (Ok None) = in_time_silent Due (old.terminal.batches ++ batches_in asks.lead) (Ended ∷ []) refl
    told_last (Err fault) = in_time_silent Due (old.terminal.batches ++ batches_in asks.lead) (Failed fault ∷ []) refl

-- ---- events and answers

-- an answer tells its event
pub told_asked : (answer : Result (Option InputEvent) TerminalFault) (old new : Seen) → Asks answer old new → events_in new.log ≡ events_in old.log ++ answer_events answer
told_asked answer old new asks =
    ap events_in asks.log ∙ told_then old.log (asks.lead ++ answer_step answer ∷ [])
    ∙ ap (λ l. events_in old.log ++ l) (told_then asks.lead (answer_step answer ∷ []) ∙ ap (λ l. l ++ events_in (answer_step answer ∷ [])) (lead_tells asks.lead asks.leads) ∙ told_by answer)

-- and is the last one
pub answered_last : (answer : Result (Option InputEvent) TerminalFault) (old new : Seen) → Asks answer old new → state_in new.log ≡ source_after Going (answer_step answer)
answered_last answer old new asks =
    ap state_in asks.log ∙ state_then _ old.log (asks.lead ++ answer_step answer ∷ []) ∙ state_then _ asks.lead (answer_step answer ∷ []) ∙ last answer _
  where
    last : (answer : Result (Option InputEvent) TerminalFault) (state : SourceState) → source_after state (answer_step answer) ≡ source_after Going (answer_step answer)
    last (Ok (Some event)) state = refl
    last (Ok None) state = refl
    last (Err fault) state = refl

-- the events up to then
pub told_since : {Due : List EventView → List Batch → Type 0} (old new : Seen) (goes : GoesInTime Due old new) → events_in new.log ≡ events_in old.log ++ events_in goes.steps
told_since old new goes = ap events_in goes.log ∙ told_then old.log goes.steps

-- calls tell nothing
pub told_calls : (old new : Seen) → NotesCalls old new → events_in new.log ≡ events_in old.log
told_calls old new notes = ap events_in notes.log ∙ told_then old.log notes.steps ∙ ap (λ l. events_in old.log ++ l) (calls_tell notes.steps notes.calls) ∙ append-nil (events_in old.log)

-- an event, and then calls
pub told_fed : (answer : Result (Option InputEvent) TerminalFault) (old mid new : Seen) → Asks answer old mid → NotesCalls mid new → events_in new.log ≡ events_in old.log ++ answer_events answer
told_fed answer old mid new asks notes = told_calls mid new notes ∙ told_asked answer old mid asks

-- nor do they answer
pub answered_calls : (old new : Seen) → NotesCalls old new → state_in new.log ≡ state_in old.log
answered_calls old new notes = ap state_in notes.log ∙ state_then _ old.log notes.steps ∙ calls_answer (state_in old.log) notes.steps notes.calls

-- ---- calls of a terminal

-- calls, and then others
notes_then : (old mid new : Seen) → NotesCalls old mid → NotesCalls mid new → NotesCalls old new
notes_then old mid new first next = record {
  steps = first.steps ++ next.steps;
  calls = both_calls first.steps next.steps first.calls next.calls;
  log = next.log ∙ ap (λ l. l ++ next.steps) first.log ∙ append_assoc old.log first.steps next.steps;
  batches = next.batches ∙ ap (λ l. l ++ batches_in next.steps) first.batches ∙ append_assoc old.terminal.batches (batches_in first.steps) (batches_in next.steps)
      ∙ ap (λ l. old.terminal.batches ++ l) (sym (batches_then first.steps next.steps));
  prompt = λ was. next.prompt (first.prompt was);
}
  where
    both_calls : (a b : List Step) → list_all is_call a ≡ true → list_all is_call b ≡ true → list_all is_call (a ++ b) ≡ true
    both_calls [] b first next = next
    both_calls (step ∷ a) b first next = let both = and_parts (is_call step) (list_all is_call a) first in and_from (is_call step) (list_all is_call (a ++ b)) both.0 (both_calls a b both.1 next)

module _ {D : Type 0} (state : D → TerminalState) (log : D → List Step) (Law : D → D → Type 0) (joins : (old mid new : D) → Law old mid → Law mid new → Law old new) where
  abbrev at : D → Seen
  at it = seen_at state log it

  -- nothing was done
  pub goes_still : (Due : List EventView → List Batch → Type 0) (it : D) → Law it it → Goes state log Law Due it it
  goes_still Due it law = record { in_time = goes_nowhere Due (at it); prompt = λ was. was; law = law }

  -- the same devices
  pub goes_between : (Due : List EventView → List Batch → Type 0) (old old-is new new-is : D) → old-is ≡ old → new ≡ new-is → Goes state log Law Due old-is new-is → Goes state log Law Due old new
  goes_between Due old old-is new new-is same-old same-new goes =
      subst (λ it. Goes state log Law Due old it) (sym same-new) (subst (λ it. Goes state log Law Due it new-is) same-old goes)

  -- steps, and then others, for which what is due is the rest
  pub goes_on : (Due Rest : List EventView → List Batch → Type 0) (old mid new : D) → Goes state log Law Due old mid → Goes state log Law Rest mid new
      → ((xs : List EventView) → events_in (log mid) ≡ events_in (log old) ++ xs → (seen : List EventView) (batches : List Batch) → Rest seen batches → Due (xs ++ seen) batches)
      → Goes state log Law Due old new
  goes_on Due Rest old mid new first later are = record {
    in_time = goes_then Due Rest (at old) (at mid) (at new) first.in_time later.in_time (are (events_in first.in_time.steps) (told_since (at old) (at mid) first.in_time));
    prompt = λ was. later.prompt (first.prompt was);
    law = joins old mid new first.law later.law;
  }

  -- calls, and nothing else
  pub goes_called : (Due : List EventView → List Batch → Type 0) (old new : D) → IsCalledOn state log Law old new → Goes state log Law Due old new
  goes_called Due old new calls = record { in_time = calls_go Due (at old) (at new) calls.notes; prompt = calls.notes.prompt; law = calls.law }

  -- calls before steps
  pub goes_opened : (Due Rest : List EventView → List Batch → Type 0) (old mid new : D) → IsCalledOn state log Law old mid → Goes state log Law Rest mid new
      → ((seen : List EventView) (batches : List Batch) → Rest seen batches → Due seen batches) → Goes state log Law Due old new
  goes_opened Due Rest old mid new calls later are =
      goes_on Due Rest old mid new (goes_called Due old mid calls) later
      (λ xs told seen batches is-due. subst (λ l. Due (l ++ seen) batches) (sym (append_cancel_left (events_in (log old)) xs [] (sym told ∙ told_calls (at old) (at mid) calls.notes ∙ sym (append-nil (events_in (log old)))))) (are seen batches is-due))

  -- and after them
  pub goes_closed : (Due : List EventView → List Batch → Type 0) (old mid new : D) → Goes state log Law Due old mid → IsCalledOn state log Law mid new → Goes state log Law Due old new
  goes_closed Due old mid new first calls = record {
    in_time = goes_then Due (λ seen. Due (events_in first.in_time.steps ++ seen)) (at old) (at mid) (at new) first.in_time
        (calls_go (λ seen. Due (events_in first.in_time.steps ++ seen)) (at mid) (at new) calls.notes) (λ seen batches is-due. is-due);
    prompt = λ was. calls.notes.prompt (first.prompt was);
    law = joins old mid new first.law calls.law;
  }

  -- an answer, and then calls
  pub goes_fed : (Due : List EventView → List Batch → Type 0) (answer : Result (Option InputEvent) TerminalFault) (old mid new : D) → Asks answer (at old) (at mid)
      → Law old mid → IsCalledOn state log Law mid new → Due [] (state old).batches → Goes state log Law Due old new
  goes_fed Due answer old mid new asks law calls now =
      goes_closed Due old mid new (record { in_time = asks_go Due answer (at old) (at mid) asks now; prompt = asks.prompt; law = law }) calls

module _ {D : Type 0} (state : D → TerminalState) (log : D → List Step) (Law : D → D → Type 0) (Follows : D → D → Call → Type 0)
    (call_notes : (old new : D) (call : Call) → Follows old new call → NotesCalls (seen_at state log old) (seen_at state log new))
    (call_law : (old new : D) (call : Call) → Follows old new call → Law old new)
    (stays : (it : D) → Law it it) (joins : (old mid new : D) → Law old mid → Law mid new → Law old new) where
  called_by : (calls : List Call) (old new : D) → Uses Follows calls old new → IsCalledOn state log Law old new
  called_by [] old new same = subst (λ it. IsCalledOn state log Law old it) (sym same) (record {
    notes = record { steps = []; calls = refl; log = sym (append-nil (log old)); batches = sym (append-nil (state old).batches); prompt = λ was. was };
    law = stays old;
  })
  called_by (call ∷ calls) old new (mid, first, uses) =
      let later = called_by calls mid new uses in
      record {
        notes = notes_then (seen_at state log old) (seen_at state log mid) (seen_at state log new) (call_notes old mid call first) later.notes;
        law = joins old mid new (call_law old mid call first) later.law;
      }

  pub called_on : (old new : D) → IsUsed Follows old new → IsCalledOn state log Law old new
  called_on old new (calls, uses) = called_by calls old new uses

  -- an event, and then calls
  pub told_feeding : (answer : Result (Option InputEvent) TerminalFault) (old mid new : D) → Asks answer (seen_at state log old) (seen_at state log mid) → IsUsed Follows mid new
      → events_in (log new) ≡ events_in (log old) ++ answer_events answer
  told_feeding answer old mid new asks used = told_fed answer (seen_at state log old) (seen_at state log mid) (seen_at state log new) asks (called_on mid new used).notes

  pub goes_feeding : (Due : List EventView → List Batch → Type 0) (answer : Result (Option InputEvent) TerminalFault) (old mid new : D) → Asks answer (seen_at state log old) (seen_at state log mid)
      → Law old mid → IsUsed Follows mid new → Due [] (state old).batches → Goes state log Law Due old new
  goes_feeding Due answer old mid new asks law used now = goes_fed state log Law joins Due answer old mid new asks law (called_on mid new used) now
