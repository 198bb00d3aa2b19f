-- Single steps of a device of two parts.
use Rattle.std.proofs.Common.{◌≡◌, ◌≢◌, Bool, true, false, List, [], ◌∷◌, ◌++◌, Option, Some, None, MatchOption, Result, Ok, Err, IfOk, OnOk, OnErr, length, not, ◌+◌, inl, inr, refl, sym, ap, ◌∙◌, subst, arith}
use Rattle.std.proofs.lemmas.Bool.{cases_eq, false≢true}
use Rattle.std.proofs.lemmas.List.{append-nil, length-append}
use Rattle.tw_surface.specs.ChangeView.{Batch}
use Rattle.tw_input.specs.EventView.{EventView, event_view}
use Rattle.tw_input.specs.EventView as view
use Rattle.tw_input.specs.declared.event.InputEvent.{InputEvent}
use Rattle.tw_terminal.specs.TerminalState.{TerminalState, Fails, Flushes, IsAtEnd, Renders, Takes}
use Rattle.tw_terminal.specs.Uses.{Call, Other, Took as TookCall}
use Rattle.tw_terminal.specs.declared.terminal.TerminalFault.{TerminalFault}
use Rattle.tw_device.specs.Deeds.{Deed, Called, Sized, IsDone, deeds_of, IsSizedBy}
use Rattle.tw_device.specs.Joined.{seen_of, Attends, LeadsByCall, IsAsked, Leads, LeadsOn}
use Rattle.tw_device.specs.JoinedLaws.{leads_then}
use Rattle.tw_device.specs.Steps.{Step, Took, Refused, Sent, Flushed, Waited, Told, Failed, Asks, answer_step, is_unsent, is_unsent_after, waits_well, events_in, terminal_after}
use Rattle.tw_device.specs.Told.{answer_events}
use Rattle.tw_device.specs.declared.joined.Joined.{Joined}
use Rattle.tw_device.proofs.StepLemmas.{prompt_next, prompt_still, unsent_next}

-- what an answer tells is what its step says
pub told_by : (answer : Result (Option InputEvent) TerminalFault) → events_in (answer_step answer ∷ []) ≡ answer_events answer
told_by (Ok (Some event)) = refl
told_by (Ok None) = refl
told_by (Err fault) = refl

-- an answer leaves what is unsent
answer_neutral : (answer : Result (Option InputEvent) TerminalFault) (unsent : Bool) → is_unsent_after unsent (answer_step answer) ≡ unsent
answer_neutral (Ok (Some event)) unsent = refl
answer_neutral (Ok None) unsent = refl
answer_neutral (Err fault) unsent = refl

-- and it waits for nothing
answer_well : (answer : Result (Option InputEvent) TerminalFault) (unsent : Bool) → waits_well unsent (answer_step answer) ≡ true
answer_well (Ok (Some event)) unsent = refl
answer_well (Ok None) unsent = refl
answer_well (Err fault) unsent = refl

-- nor does it flush or render
flushed_after : (answer : Result (Option InputEvent) TerminalFault) (t : TerminalState) → (terminal_after (answer_step answer) t).flushed ≡ t.flushed
flushed_after (Ok (Some event)) t = refl
flushed_after (Ok None) t = refl
flushed_after (Err fault) t = refl

pub batches_after : (answer : Result (Option InputEvent) TerminalFault) (t : TerminalState) → (terminal_after (answer_step answer) t).batches ≡ t.batches
batches_after (Ok (Some event)) t = refl
batches_after (Ok None) t = refl
batches_after (Err fault) t = refl

-- what holds at all holds of a refusal
pub on_err : {A E P : Type 0} (result : Result A E) → P → OnErr result P
on_err (Ok a) p = tt
on_err (Err e) p = p

-- what a call leaves that only counts a refusal
pub still_flushed : {A E : Type 0} (result : Result A E) (old new : TerminalState) → OnOk result (new ≡ old) → OnErr result (Fails old new) → new.flushed ≡ old.flushed
still_flushed (Ok a) old new ok err = ap (λ (t : TerminalState). t.flushed) ok
still_flushed (Err e) old new ok err = ap (λ (t : TerminalState). t.flushed) err

pub still_taken : {A E : Type 0} (result : Result A E) (old new : TerminalState) → OnOk result (new ≡ old) → OnErr result (Fails old new) → new.batches ≡ old.batches
still_taken (Ok a) old new ok err = ap (λ (t : TerminalState). t.batches) ok
still_taken (Err e) old new ok err = ap (λ (t : TerminalState). t.batches) err

-- or takes an event too
pub polled_flushed : {E : Type 0} (result : Result (Option InputEvent) E) (old new : TerminalState)
    → IfOk result (λ event. MatchOption event (IsAtEnd old new) (λ event. Takes (event_view event) old new)) → OnErr result (Fails old new) → new.flushed ≡ old.flushed
polled_flushed (Ok None) old new ok err = ap (λ (t : TerminalState). t.flushed) ok.rest
polled_flushed (Ok (Some event)) old new ok err = ap (λ (t : TerminalState). t.flushed) ok.rest
polled_flushed (Err e) old new ok err = ap (λ (t : TerminalState). t.flushed) err

pub polled_taken : {E : Type 0} (result : Result (Option InputEvent) E) (old new : TerminalState)
    → IfOk result (λ event. MatchOption event (IsAtEnd old new) (λ event. Takes (event_view event) old new)) → OnErr result (Fails old new) → new.batches ≡ old.batches
polled_taken (Ok None) old new ok err = ap (λ (t : TerminalState). t.batches) ok.rest
polled_taken (Ok (Some event)) old new ok err = ap (λ (t : TerminalState). t.batches) ok.rest
polled_taken (Err e) old new ok err = ap (λ (t : TerminalState). t.batches) err

-- a size that is set is the deed of its event
pub sized_done : {T : Type 0} (Does : T → T → Deed → Type 0) (event : EventView) (old new : T) → IsSizedBy Does event old new → IsDone Does (deeds_of (Told event ∷ [])) old new
sized_done Does (view.Key key) old new sized = ([], refl, sized)
sized_done Does (view.Resized cols rows) old new sized = (Sized (record { rows = rows; cols = cols }) ∷ [], refl, sized)
sized_done Does (view.Paste text) old new sized = ([], refl, sized)
sized_done Does view.Wake old new sized = ([], refl, sized)

module _ {S T : Type 0} (told : S → List EventView) (Tells : S → S → List EventView → Type 0)
    (state : T → TerminalState) (keeps : T → Bool) (Does : T → T → Deed → Type 0) where
  -- the source was not asked
  unasked : (it : S) → IsAsked told Tells [] it it
  unasked it = record { added = sym (append-nil (told it)); calls = ([], refl, refl) }

  -- a batch was taken
  pub leads_took : (old : Joined S T) (mid new : T) (log : List Step) (batch : Batch) → log ≡ old.log ++ Took batch ∷ []
      → Does old.terminal mid (Called Other) → Does mid new (Called (TookCall batch)) → Renders batch (state old.terminal) (state new)
      → Leads told Tells state keeps Does (Took batch ∷ []) old (record old { terminal = new; log = log })
  leads_took old mid new log batch is before takes renders =
      let flushed : (state new).flushed ≡ (state old.terminal).flushed = ap (λ (t : TerminalState). t.flushed) renders in
      let count : length (state new).batches ≡ length (state old.terminal).batches + 1 =
      ap (λ (t : TerminalState). length t.batches) renders ∙ length-append (state old.terminal).batches (batch ∷ []) in
      record {
        log = is;
        source = unasked old.source;
        terminal = λ whole. (Called Other ∷ Called (TookCall batch) ∷ [], refl, (mid, before, (new, takes, refl)));
        prompt = λ was. prompt_next (seen_of state old) (record { terminal = state new; log = log }) (Took batch) is refl
            (let most = was.counted in omega (arith, most, flushed, count)) (λ all. absurd (let most = was.counted in omega (arith, all, most, flushed, count))) was;
        settled = λ prompt was sent. absurd (false≢true (sym sent ∙ unsent_next old.log log (Took batch) is));
      }

  -- a batch was refused, or what was kept back was lost
  pub leads_refused : (old : Joined S T) (new : T) (log : List Step) → log ≡ old.log ++ Refused ∷ []
      → (state new).flushed ≡ (state old.terminal).flushed → (state new).batches ≡ (state old.terminal).batches
      → (keeps old.terminal ≡ false → keeps new ≡ false)
      → Leads told Tells state keeps Does (Refused ∷ []) old (record old { terminal = new; log = log })
  leads_refused old new log is flushed batches keeps_none = record {
    log = is;
    source = unasked old.source;
    terminal = λ whole. absurd (false≢true whole);
    prompt = λ was. prompt_still (seen_of state old) (record { terminal = state new; log = log }) Refused is refl refl flushed batches was;
    settled = λ prompt was sent. keeps_none (was (sym (unsent_next old.log log Refused is) ∙ sent));
  }

  -- all is sent
  pub leads_sent : (old : Joined S T) (new : T) (log : List Step) → log ≡ old.log ++ Sent ∷ [] → IsDone Does [] old.terminal new
      → state new ≡ state old.terminal → keeps new ≡ false
      → Leads told Tells state keeps Does (Sent ∷ []) old (record old { terminal = new; log = log })
  leads_sent old new log is done same keeps_none =
      let flushed : (state new).flushed ≡ (state old.terminal).flushed = ap (λ (t : TerminalState). t.flushed) same in
      let count : length (state new).batches ≡ length (state old.terminal).batches = ap (λ (t : TerminalState). length t.batches) same in
      record {
        log = is;
        source = unasked old.source;
        terminal = λ whole. done;
        prompt = λ was. prompt_next (seen_of state old) (record { terminal = state new; log = log }) Sent is refl
            (let most = was.counted in omega (arith, most, flushed, count)) (λ all. refl) was;
        settled = λ prompt was sent. keeps_none;
      }

  -- the source is asked, which may wait
  pub leads_waited : (old : Joined S T) (log : List Step) → log ≡ old.log ++ Waited ∷ [] → is_unsent old.log ≡ false → keeps old.terminal ≡ false
      → Leads told Tells state keeps Does (Waited ∷ []) old (record old { log = log })
  leads_waited old log is unsent keeps_none = record {
    log = is;
    source = unasked old.source;
    terminal = λ whole. ([], refl, refl);
    prompt = λ was. prompt_still (seen_of state old) (record { terminal = state old.terminal; log = log }) Waited is (ap not unsent) refl refl refl was;
    settled = λ prompt was sent. keeps_none;
  }

  -- all is flushed
  pub leads_flushed : (old : Joined S T) (new : T) (log : List Step) → log ≡ old.log ++ Flushed ∷ [] → Does old.terminal new (Called Other)
      → Flushes (state old.terminal) (state new) → ((state new).flushed ≢ (state old.terminal).flushed → keeps new ≡ false)
      → (keeps old.terminal ≡ false → keeps new ≡ false)
      → Leads told Tells state keeps Does (Flushed ∷ []) old (record old { terminal = new; log = log })
  leads_flushed old new log is does flushes more none =
      let all : (state new).flushed ≡ length (state new).batches = ap (λ (t : TerminalState). t.flushed) flushes ∙ sym (ap (λ (t : TerminalState). length t.batches) flushes) in
      let count : length (state new).batches ≡ length (state old.terminal).batches = ap (λ (t : TerminalState). length t.batches) flushes in
      record {
        log = is;
        source = unasked old.source;
        terminal = λ whole. (Called Other ∷ [], refl, (new, does, refl));
        prompt = λ was. prompt_next (seen_of state old) (record { terminal = state new; log = log }) Flushed is refl (omega (arith, all)) (λ same. refl) was;
        settled = λ prompt was sent. elim (cases_eq (state new).flushed (state old.terminal).flushed) [
          | inl same ↦ none (was (prompt.flushed (omega (arith, same, all, count))))
          | inr other ↦ more other
        ];
      }

  -- an answer was given
  pub leads_answer : (old new : Joined S T) (answer : Result (Option InputEvent) TerminalFault) → new.log ≡ old.log ++ answer_step answer ∷ []
      → Tells old.source new.source (answer_events answer) → told new.source ≡ told old.source ++ answer_events answer
      → IsDone Does (deeds_of (answer_step answer ∷ [])) old.terminal new.terminal → state new.terminal ≡ terminal_after (answer_step answer) (state old.terminal)
      → (keeps old.terminal ≡ false → keeps new.terminal ≡ false)
      → Leads told Tells state keeps Does (answer_step answer ∷ []) old new
  leads_answer old new answer is tells added done after none = record {
    log = is;
    source = subst (λ events. IsAsked told Tells events old.source new.source) (sym (told_by answer))
        (record { added = added; calls = (answer_events answer ∷ [], append-nil (answer_events answer), (new.source, tells, refl)) });
    terminal = λ whole. done;
    prompt = λ was. prompt_still (seen_of state old) (seen_of state new) (answer_step answer) is (answer_well answer (is_unsent old.log)) (answer_neutral answer (is_unsent old.log))
        (ap (λ (t : TerminalState). t.flushed) after ∙ flushed_after answer (state old.terminal)) (ap (λ (t : TerminalState). t.batches) after ∙ batches_after answer (state old.terminal)) was;
    settled = λ prompt was sent. none (was (sym (unsent_next old.log new.log (answer_step answer) is ∙ answer_neutral answer (is_unsent old.log)) ∙ sent));
  }

  -- sending what was kept back was refused, and so is the answer
  pub leads_failed : (old : Joined S T) (log : List Step) (fault : TerminalFault) → log ≡ old.log ++ Failed fault ∷ []
      → Leads told Tells state keeps Does (Failed fault ∷ []) old (record old { log = log })
  leads_failed old log fault is = record {
    log = is;
    source = unasked old.source;
    terminal = λ whole. ([], refl, refl);
    prompt = λ was. prompt_still (seen_of state old) (record { terminal = state old.terminal; log = log }) (Failed fault) is refl refl refl refl was;
    settled = λ prompt was sent. was (sym (unsent_next old.log log (Failed fault) is) ∙ sent);
  }

  -- ---- calls

  -- one that renders nothing and flushes nothing
  pub follows_idle : (old : Joined S T) (new : T) → Does old.terminal new (Called Other)
      → (state new).flushed ≡ (state old.terminal).flushed → (state new).batches ≡ (state old.terminal).batches
      → (keeps old.terminal ≡ false → keeps new ≡ false)
      → LeadsByCall told Tells state keeps Does Other old (record old { terminal = new })
  follows_idle old new does flushed batches none =
      let count : length (state new).batches ≡ length (state old.terminal).batches = ap length batches in
      record {
        steps = [];
        calls = refl;
        batches = batches ∙ sym (append-nil (state old.terminal).batches);
        leads = record {
          log = sym (append-nil old.log);
          source = unasked old.source;
          terminal = λ whole. (Called Other ∷ [], refl, (new, does, refl));
          prompt = λ was. record {
            waits = was.waits;
            counted = let most = was.counted in omega (arith, most, flushed, count);
            flushed = λ all. was.flushed (omega (arith, all, flushed, count));
          };
          settled = λ prompt was sent. none (was sent);
        };
      }

  -- one that is refused
  pub follows_refused : (call : Call) (old new : Joined S T) → Leads told Tells state keeps Does (Refused ∷ []) old new
      → (state new.terminal).batches ≡ (state old.terminal).batches → LeadsByCall told Tells state keeps Does call old new
  follows_refused call old new leads batches =
      record { steps = Refused ∷ []; calls = refl; batches = batches ∙ sym (append-nil (state old.terminal).batches); leads = leads }

  -- a batch that may be kept back
  pub follows_took : (batch : Batch) (old new : Joined S T) → Leads told Tells state keeps Does (Took batch ∷ []) old new
      → Renders batch (state old.terminal) (state new.terminal) → LeadsByCall told Tells state keeps Does (TookCall batch) old new
  follows_took batch old new leads renders =
      record { steps = Took batch ∷ []; calls = refl; batches = ap (λ (t : TerminalState). t.batches) renders; leads = leads }

  -- a batch that is sent
  pub follows_sent : (batch : Batch) (old mid new : Joined S T) → Leads told Tells state keeps Does (Took batch ∷ []) old mid
      → Renders batch (state old.terminal) (state mid.terminal) → Leads told Tells state keeps Does (Sent ∷ []) mid new → new.terminal ≡ mid.terminal
      → LeadsByCall told Tells state keeps Does (TookCall batch) old new
  follows_sent batch old mid new first renders next same = record {
    steps = Took batch ∷ Sent ∷ [];
    calls = refl;
    batches = ap (λ t. (state t).batches) same ∙ ap (λ (t : TerminalState). t.batches) renders;
    leads = leads_then told Tells state keeps Does (Took batch ∷ []) (Sent ∷ []) old mid new first next;
  }

  -- a flush
  pub follows_flushed : (old new : Joined S T) → Leads told Tells state keeps Does (Flushed ∷ []) old new
      → Flushes (state old.terminal) (state new.terminal) → LeadsByCall told Tells state keeps Does Other old new
  follows_flushed old new leads flushes = record {
    steps = Flushed ∷ [];
    calls = refl;
    batches = ap (λ (t : TerminalState). t.batches) flushes ∙ sym (append-nil (state old.terminal).batches);
    leads = leads;
  }

  -- ---- asking

  -- what is sent before, and then the answer
  pub asks_then : (answer : Result (Option InputEvent) TerminalFault) (old mid new : Joined S T) → Attends told Tells state keeps Does old mid
      → Leads told Tells state keeps Does (answer_step answer ∷ []) mid new → state new.terminal ≡ terminal_after (answer_step answer) (state mid.terminal)
      → Asks answer (seen_of state old) (seen_of state new)
  asks_then answer old mid new attends leads after =
      let all = leads_then told Tells state keeps Does attends.lead (answer_step answer ∷ []) old mid new attends.leads leads in
      record {
        lead = attends.lead;
        leads = attends.sends;
        log = all.log;
        terminal = after ∙ ap (terminal_after (answer_step answer)) attends.terminal;
        prompt = all.prompt;
      }

  pub law_then : (answer : Result (Option InputEvent) TerminalFault) (old mid new : Joined S T) → Attends told Tells state keeps Does old mid
      → Leads told Tells state keeps Does (answer_step answer ∷ []) mid new → LeadsOn told Tells state keeps Does old new
  law_then answer old mid new attends leads =
      (attends.lead ++ answer_step answer ∷ [], leads_then told Tells state keeps Does attends.lead (answer_step answer ∷ []) old mid new attends.leads leads)
