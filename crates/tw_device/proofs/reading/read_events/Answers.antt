use Rattle.std.proofs.Common.{rules, ◌≡◌, List, IfOk, IfErr, ap, sym, ◌∙◌, refl, subst}
use Rattle.std.proofs.lemmas.Result.{err_from_is_err_and}
use Rattle.tw_input.specs.EventView.{EventView}
use Rattle.tw_lineedit.proofs.ClosingLemmas.{reads_with, fails_to_finish_with}
use Rattle.tw_lineedit.specs.Frame.{frame, own_frame}
use Rattle.tw_device.specs.Live.{taken_on, taken_over, fresh_frame, ComesBy, FailsBy, FailsToReadTold, IsRead, StopsFeeding}
use Rattle.tw_lineedit.specs.Outcomes.{is_open}
use Rattle.tw_device.specs.Steps.{seen_at, state_in, events_in, IsDueBy}
use Rattle.tw_device.proofs.InTimeLemmas.{answered_calls, goes_between, goes_called, goes_closed, goes_opened, goes_still, told_calls}
use Rattle.tw_device.proofs.LiveLemmas.{cut_as, ended_at, opened_at, read_as, stopped_at, unbegun_at}
use Rattle.tw_device.proofs.reading.read_events.Goals as goal

pub returns-in_err-set_prompt-clause-goes : goal.returns-in_err-set_prompt-clause-goes
returns-in_err-set_prompt-clause-goes g c =
    goes_between g.D.Terminal.state g.D.Device.log g.D.Device.law g.met.D.Device.law_joins _ _ _ _ _ (search rules) (search rules)
    (goes_still g.D.Terminal.state g.D.Device.log g.D.Device.law g.met.D.Device.law_joins _ c.args.device.now (g.met.D.Device.law_stays c.args.device.now))

pub returns-in_err-begin-clause-err : goal.returns-in_err-begin-clause-err
returns-in_err-begin-clause-err g c =
    let p = err_from_is_err_and c.from_residual-in_err-begin.result c.from_residual-in_err-begin.ensures.1 in
    let state = g.D.Terminal.state in
    let log = g.D.Device.log in
    let value = g.H.LineEditorHost.value in
    let rules_of = g.H.LineEditorHost.rules in
    let overrides = g.H.LineEditorHost.OVERRIDES in
    let i = frame state value c.set_prompt.new.self c.args.host.now in
    let f = fresh_frame c.args.prompt.now (value c.args.host.now) (state c.args.device.now) in
    let before : List EventView = events_in (log c.args.device.now) in
    let set = c.set_prompt.new.self.terminal.now in
    let begun = c.begin.new.editor.terminal.now in
    let same : set ≡ c.args.device.now = search rules in
    let told : events_in (log begun) ≡ before = told_calls (seen_at state log set) (seen_at state log begun) c.begin.ensures.calls.notes ∙ ap (λ it. events_in (log it)) same in
    let painted = frame state value c.begin.new.editor c.args.host.now in
    let fails = unbegun_at rules_of overrides before (state_in (log begun)) f c.begin.new.editor.session (value c.args.host.now) (state begun) painted refl
    c.in_err-begin.field-0.0 i (g.met.D.Device.no_event set) (search rules) (c.in_err-begin.ensures.err (search rules)) in
    rw (p.1, p.2) (subst (λ it. FailsToReadTold rules_of overrides before (events_in (log it)) (state_in (log it)) f (value c.args.host.now) (state it) c.in_err-begin.field-0.0) (search rules)
    (subst (λ events. FailsToReadTold rules_of overrides before events (state_in (log begun)) f (value c.args.host.now) (state begun) c.in_err-begin.field-0.0) (sym told) fails))

pub returns-in_err-begin-clause-goes : goal.returns-in_err-begin-clause-goes
returns-in_err-begin-clause-goes g c =
    let state = g.D.Terminal.state in
    let log = g.D.Device.log in
    let value = g.H.LineEditorHost.value in
    let rules_of = g.H.LineEditorHost.rules in
    let f = fresh_frame c.args.prompt.now (value c.args.host.now) (state c.args.device.now) in
    let set = c.set_prompt.new.self.terminal.now in
    let begun = c.begin.new.editor.terminal.now in
    let same : set ≡ c.args.device.now = search rules in
    goes_between state log g.D.Device.law g.met.D.Device.law_joins (IsDueBy (taken_over rules_of f)) _ set _ begun same (search rules)
    (goes_called state log g.D.Device.law g.met.D.Device.law_joins (IsDueBy (taken_over rules_of f)) set begun c.begin.ensures.calls)

pub returns-in_err-stop-clause-err : goal.returns-in_err-stop-clause-err
returns-in_err-stop-clause-err g c =
    let p = err_from_is_err_and c.from_residual-in_err-stop.result c.from_residual-in_err-stop.ensures.1 in
    let state = g.D.Terminal.state in
    let log = g.D.Device.log in
    let value = g.H.LineEditorHost.value in
    let rules_of = g.H.LineEditorHost.rules in
    let overrides = g.H.LineEditorHost.OVERRIDES in
    let i = frame state value c.set_prompt.new.self c.args.host.now in
    let f = fresh_frame c.args.prompt.now (value c.args.host.now) (state c.args.device.now) in
    let before : List EventView = events_in (log c.args.device.now) in
    let set = c.set_prompt.new.self.terminal.now in
    let begun = c.begin.new.editor.terminal.now in
    let same : set ≡ c.args.device.now = search rules in
    let told : events_in (log begun) ≡ before = told_calls (seen_at state log set) (seen_at state log begun) c.begin.ensures.calls.notes ∙ ap (λ it. events_in (log it)) same in
    let painted = frame state value c.begin.new.editor c.args.host.now in
    let opens = opened_at rules_of overrides i f painted (search rules) (c.in_ok-begin.ensures.ok (search rules)) in
    let fed = c.take_events.new.editor.terminal.now in
    let waiting = frame state value c.take_events.new.editor c.take_events.new.host in
    let fails = stopped_at rules_of overrides before (events_in (log fed)) (state_in (log fed)) f c.take_events.new.editor.session (value c.take_events.new.host) (state fed) waiting refl
    c.in_err-stop.field-0.0 painted opens (subst (λ events. FailsBy rules_of overrides events (events_in (log fed)) painted waiting c.in_err-stop.field-0.0) told c.in_err-stop.ensures.err) in
    rw (p.1, p.2) (subst (λ it. FailsToReadTold rules_of overrides before (events_in (log it)) (state_in (log it)) f (value c.take_events.new.host) (state it) c.in_err-stop.field-0.0) (search rules) fails)

pub returns-in_err-stop-clause-goes : goal.returns-in_err-stop-clause-goes
returns-in_err-stop-clause-goes g c =
    let state = g.D.Terminal.state in
    let log = g.D.Device.log in
    let value = g.H.LineEditorHost.value in
    let rules_of = g.H.LineEditorHost.rules in
    let overrides = g.H.LineEditorHost.OVERRIDES in
    let i = frame state value c.set_prompt.new.self c.args.host.now in
    let f = fresh_frame c.args.prompt.now (value c.args.host.now) (state c.args.device.now) in
    let set = c.set_prompt.new.self.terminal.now in
    let begun = c.begin.new.editor.terminal.now in
    let same : set ≡ c.args.device.now = search rules in
    let painted = frame state value c.begin.new.editor c.args.host.now in
    let opens = opened_at rules_of overrides i f painted (search rules) (c.in_ok-begin.ensures.ok (search rules)) in
    let fed = c.take_events.new.editor.terminal.now in
    goes_between state log g.D.Device.law g.met.D.Device.law_joins (IsDueBy (taken_over rules_of f)) _ set _ fed same (search rules)
    (goes_opened state log g.D.Device.law g.met.D.Device.law_joins (IsDueBy (taken_over rules_of f)) (IsDueBy (taken_on rules_of painted)) set begun fed c.begin.ensures.calls c.take_events.ensures.goes
    (λ seen batches due. due ∙ ap (λ end. end.taken) (sym (opens.run seen))))

pub returns-in_err-line-clause-err : goal.returns-in_err-line-clause-err
returns-in_err-line-clause-err g c =
    let p = err_from_is_err_and c.from_residual-in_err-line.result c.from_residual-in_err-line.ensures.1 in
    let state = g.D.Terminal.state in
    let log = g.D.Device.log in
    let value = g.H.LineEditorHost.value in
    let rules_of = g.H.LineEditorHost.rules in
    let overrides = g.H.LineEditorHost.OVERRIDES in
    let i = frame state value c.set_prompt.new.self c.args.host.now in
    let f = fresh_frame c.args.prompt.now (value c.args.host.now) (state c.args.device.now) in
    let before : List EventView = events_in (log c.args.device.now) in
    let set = c.set_prompt.new.self.terminal.now in
    let begun = c.begin.new.editor.terminal.now in
    let same : set ≡ c.args.device.now = search rules in
    let told : events_in (log begun) ≡ before = told_calls (seen_at state log set) (seen_at state log begun) c.begin.ensures.calls.notes ∙ ap (λ it. events_in (log it)) same in
    let painted = frame state value c.begin.new.editor c.args.host.now in
    let opens = opened_at rules_of overrides i f painted (search rules) (c.in_ok-begin.ensures.ok (search rules)) in
    let fed = c.take_events.new.editor.terminal.now in
    let waiting = frame state value c.take_events.new.editor c.take_events.new.host in
    let finished = c.finish.new.editor.terminal.now in
    let ended : events_in (log finished) ≡ events_in (log fed) = told_calls (seen_at state log fed) (seen_at state log finished) c.finish.ensures.calls.notes in
    let fails = ended_at rules_of overrides before (events_in (log fed)) (state_in (log finished)) f c.finish.new.editor.session (value c.take_events.new.host) (state finished)
    (frame state value c.finish.new.editor c.take_events.new.host) refl c.in_err-line.field-0.0 painted waiting (g.met.D.Device.no_event begun) opens (subst (λ events. ComesBy rules_of overrides events (events_in (log fed)) painted waiting) told c.in_ok-stop.ensures.ok)
    (fails_to_finish_with (value c.take_events.new.host) (own_frame state c.take_events.new.editor) (own_frame state c.finish.new.editor) c.in_err-line.field-0.0 c.in_err-line.ensures.err) in
    rw (p.1, p.2) (subst (λ it. FailsToReadTold rules_of overrides before (events_in (log it)) (state_in (log it)) f (value c.take_events.new.host) (state it) c.in_err-line.field-0.0) (search rules)
    (subst (λ events. FailsToReadTold rules_of overrides before events (state_in (log finished)) f (value c.take_events.new.host) (state finished) c.in_err-line.field-0.0) (sym ended) fails))

pub returns-in_err-line-clause-goes : goal.returns-in_err-line-clause-goes
returns-in_err-line-clause-goes g c =
    let state = g.D.Terminal.state in
    let log = g.D.Device.log in
    let value = g.H.LineEditorHost.value in
    let rules_of = g.H.LineEditorHost.rules in
    let overrides = g.H.LineEditorHost.OVERRIDES in
    let i = frame state value c.set_prompt.new.self c.args.host.now in
    let f = fresh_frame c.args.prompt.now (value c.args.host.now) (state c.args.device.now) in
    let set = c.set_prompt.new.self.terminal.now in
    let begun = c.begin.new.editor.terminal.now in
    let same : set ≡ c.args.device.now = search rules in
    let painted = frame state value c.begin.new.editor c.args.host.now in
    let opens = opened_at rules_of overrides i f painted (search rules) (c.in_ok-begin.ensures.ok (search rules)) in
    let fed = c.take_events.new.editor.terminal.now in
    let finished = c.finish.new.editor.terminal.now in
    goes_between state log g.D.Device.law g.met.D.Device.law_joins (IsDueBy (taken_over rules_of f)) _ set _ finished same (search rules)
    (goes_closed state log g.D.Device.law g.met.D.Device.law_joins (IsDueBy (taken_over rules_of f)) set fed finished
    (goes_opened state log g.D.Device.law g.met.D.Device.law_joins (IsDueBy (taken_over rules_of f)) (IsDueBy (taken_on rules_of painted)) set begun fed c.begin.ensures.calls c.take_events.ensures.goes
    (λ seen batches due. due ∙ ap (λ end. end.taken) (sym (opens.run seen)))) c.finish.ensures.calls)

pub returns-clause-ok : goal.returns-clause-ok
returns-clause-ok g c =
    let state = g.D.Terminal.state in
    let log = g.D.Device.log in
    let value = g.H.LineEditorHost.value in
    let rules_of = g.H.LineEditorHost.rules in
    let overrides = g.H.LineEditorHost.OVERRIDES in
    let i = frame state value c.set_prompt.new.self c.args.host.now in
    let f = fresh_frame c.args.prompt.now (value c.args.host.now) (state c.args.device.now) in
    let before : List EventView = events_in (log c.args.device.now) in
    let set = c.set_prompt.new.self.terminal.now in
    let begun = c.begin.new.editor.terminal.now in
    let same : set ≡ c.args.device.now = search rules in
    let told : events_in (log begun) ≡ before = told_calls (seen_at state log set) (seen_at state log begun) c.begin.ensures.calls.notes ∙ ap (λ it. events_in (log it)) same in
    let painted = frame state value c.begin.new.editor c.args.host.now in
    let opens = opened_at rules_of overrides i f painted (search rules) (c.in_ok-begin.ensures.ok (search rules)) in
    let fed = c.take_events.new.editor.terminal.now in
    let waiting = frame state value c.take_events.new.editor c.take_events.new.host in
    let finished = c.finish.new.editor.terminal.now in
    let ended : events_in (log finished) ≡ events_in (log fed) = told_calls (seen_at state log fed) (seen_at state log finished) c.finish.ensures.calls.notes in
    let answered : state_in (log finished) ≡ state_in (log fed) = answered_calls (seen_at state log fed) (seen_at state log finished) c.finish.ensures.calls.notes in
    let reads = read_as rules_of overrides before (events_in (log fed)) (state_in (log fed)) f painted waiting c.finish.new.editor.session (value c.take_events.new.host) (state finished) (g.met.D.Device.no_event begun)
    opens (subst (λ events. ComesBy rules_of overrides events (events_in (log fed)) painted waiting) told c.in_ok-stop.ensures.ok) c.in_ok-stop.ensures.stopped.0 c.in_ok-line.line c.in_ok-stop.stop c.answer_of.result c.answer_of.ensures (subst (λ events. StopsFeeding c.in_ok-stop.stop (is_open waiting.state.mode) (state_in (log fed)) events (events_in (log fed))) told c.in_ok-stop.ensures.stopped.1)
    (reads_with (value c.take_events.new.host) (own_frame state c.take_events.new.editor) (own_frame state c.finish.new.editor) _ (c.in_ok-line.ensures.ok c.in_ok-stop.ensures.stopped.0)) in
    subst (λ it. IfOk c.answer_of.result (IsRead rules_of before (events_in (log it)) (state_in (log it)) f (value c.take_events.new.host) (state it))) (search rules)
    (subst (λ events. IfOk c.answer_of.result (IsRead rules_of before events (state_in (log finished)) f (value c.take_events.new.host) (state finished))) (sym ended)
    (subst (λ last. IfOk c.answer_of.result (IsRead rules_of before (events_in (log fed)) last f (value c.take_events.new.host) (state finished))) (sym answered) reads))

pub returns-clause-err : goal.returns-clause-err
returns-clause-err g c =
    let state = g.D.Terminal.state in
    let log = g.D.Device.log in
    let value = g.H.LineEditorHost.value in
    let rules_of = g.H.LineEditorHost.rules in
    let overrides = g.H.LineEditorHost.OVERRIDES in
    let i = frame state value c.set_prompt.new.self c.args.host.now in
    let f = fresh_frame c.args.prompt.now (value c.args.host.now) (state c.args.device.now) in
    let before : List EventView = events_in (log c.args.device.now) in
    let set = c.set_prompt.new.self.terminal.now in
    let begun = c.begin.new.editor.terminal.now in
    let same : set ≡ c.args.device.now = search rules in
    let told : events_in (log begun) ≡ before = told_calls (seen_at state log set) (seen_at state log begun) c.begin.ensures.calls.notes ∙ ap (λ it. events_in (log it)) same in
    let painted = frame state value c.begin.new.editor c.args.host.now in
    let opens = opened_at rules_of overrides i f painted (search rules) (c.in_ok-begin.ensures.ok (search rules)) in
    let fed = c.take_events.new.editor.terminal.now in
    let waiting = frame state value c.take_events.new.editor c.take_events.new.host in
    let finished = c.finish.new.editor.terminal.now in
    let ended : events_in (log finished) ≡ events_in (log fed) = told_calls (seen_at state log fed) (seen_at state log finished) c.finish.ensures.calls.notes in
    let answered : state_in (log finished) ≡ state_in (log fed) = answered_calls (seen_at state log fed) (seen_at state log finished) c.finish.ensures.calls.notes in
    let cut = cut_as rules_of overrides before (events_in (log fed)) (state_in (log fed)) f painted waiting c.finish.new.editor.session (value c.take_events.new.host) (state finished) (g.met.D.Device.no_event begun)
    opens (subst (λ events. ComesBy rules_of overrides events (events_in (log fed)) painted waiting) told c.in_ok-stop.ensures.ok) c.in_ok-stop.ensures.stopped.0 c.in_ok-line.line c.in_ok-stop.stop c.answer_of.result c.answer_of.ensures (subst (λ events. StopsFeeding c.in_ok-stop.stop (is_open waiting.state.mode) (state_in (log fed)) events (events_in (log fed))) told c.in_ok-stop.ensures.stopped.1)
    (reads_with (value c.take_events.new.host) (own_frame state c.take_events.new.editor) (own_frame state c.finish.new.editor) _ (c.in_ok-line.ensures.ok c.in_ok-stop.ensures.stopped.0)) in
    subst (λ it. IfErr c.answer_of.result (FailsToReadTold rules_of overrides before (events_in (log it)) (state_in (log it)) f (value c.take_events.new.host) (state it))) (search rules)
    (subst (λ events. IfErr c.answer_of.result (FailsToReadTold rules_of overrides before events (state_in (log finished)) f (value c.take_events.new.host) (state finished))) (sym ended)
    (subst (λ last. IfErr c.answer_of.result (FailsToReadTold rules_of overrides before (events_in (log fed)) last f (value c.take_events.new.host) (state finished))) (sym answered) cut))

pub returns-clause-goes : goal.returns-clause-goes
returns-clause-goes g c =
    let state = g.D.Terminal.state in
    let log = g.D.Device.log in
    let value = g.H.LineEditorHost.value in
    let rules_of = g.H.LineEditorHost.rules in
    let overrides = g.H.LineEditorHost.OVERRIDES in
    let i = frame state value c.set_prompt.new.self c.args.host.now in
    let f = fresh_frame c.args.prompt.now (value c.args.host.now) (state c.args.device.now) in
    let set = c.set_prompt.new.self.terminal.now in
    let begun = c.begin.new.editor.terminal.now in
    let same : set ≡ c.args.device.now = search rules in
    let painted = frame state value c.begin.new.editor c.args.host.now in
    let opens = opened_at rules_of overrides i f painted (search rules) (c.in_ok-begin.ensures.ok (search rules)) in
    let fed = c.take_events.new.editor.terminal.now in
    let finished = c.finish.new.editor.terminal.now in
    goes_between state log g.D.Device.law g.met.D.Device.law_joins (IsDueBy (taken_over rules_of f)) _ set _ finished same (search rules)
    (goes_closed state log g.D.Device.law g.met.D.Device.law_joins (IsDueBy (taken_over rules_of f)) set fed finished
    (goes_opened state log g.D.Device.law g.met.D.Device.law_joins (IsDueBy (taken_over rules_of f)) (IsDueBy (taken_on rules_of painted)) set begun fed c.begin.ensures.calls c.take_events.ensures.goes
    (λ seen batches due. due ∙ ap (λ end. end.taken) (sym (opens.run seen)))) c.finish.ensures.calls)
