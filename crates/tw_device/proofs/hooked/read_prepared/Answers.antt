use Rattle.std.proofs.Common.{rules, ◌≡◌, ap, ◌∙◌, subst, sym, refl}
use Rattle.tw_lineedit.specs.EditorSteps.{Paints}
use Rattle.tw_lineedit.specs.Frame.{frame}
use Rattle.tw_device.specs.Hooked.{Starts, TakesOn, TakesOver}
use Rattle.tw_device.specs.Live.{fresh_frame}
use Rattle.tw_device.specs.Steps.{events_in, seen_at}
use Rattle.tw_device.proofs.HookedLemmas.{read_hooked, takes_begun}
use Rattle.tw_device.proofs.InTimeLemmas.{goes_between, goes_called, goes_opened, goes_still, told_calls}
use Rattle.tw_device.proofs.hooked.read_prepared.Goals as goal

pub returns-in_err-set_prompt-clause-goes : goal.returns-in_err-set_prompt-clause-goes
returns-in_err-set_prompt-clause-goes g c =
    goes_between g.D.Terminal.state g.D.Device.log g.D.Device.law g.met.D.Device.law_joins _ _ _ _ _ (search rules) (search rules)
    (goes_still g.D.Terminal.state g.D.Device.log g.D.Device.law g.met.D.Device.law_joins _ c.args.device.now (g.met.D.Device.law_stays c.args.device.now))

pub returns-in_err-prepare-clause-goes : goal.returns-in_err-prepare-clause-goes
returns-in_err-prepare-clause-goes g c =
    goes_between g.D.Terminal.state g.D.Device.log g.D.Device.law g.met.D.Device.law_joins _ _ _ _ _ (search rules) (search rules)
    (goes_still g.D.Terminal.state g.D.Device.log g.D.Device.law g.met.D.Device.law_joins _ c.args.device.now (g.met.D.Device.law_stays c.args.device.now))

pub returns-in_err-begin-clause-goes : goal.returns-in_err-begin-clause-goes
returns-in_err-begin-clause-goes g c =
    let set = c.prepare.new.editor.terminal.now in
    let same : set ≡ c.args.device.now = search rules in
    goes_between g.D.Terminal.state g.D.Device.log g.D.Device.law g.met.D.Device.law_joins _ _ set _ c.begin.new.editor.terminal.now same (search rules)
    (goes_called g.D.Terminal.state g.D.Device.log g.D.Device.law g.met.D.Device.law_joins _ set c.begin.new.editor.terminal.now c.begin.ensures.calls)

pub returns-clause-ok : goal.returns-clause-ok
returns-clause-ok g c =
    let value = g.H.LineEditorHost.value in
    let f = fresh_frame c.args.prompt.now (value c.args.host.now) (g.D.Terminal.state c.args.device.now) in
    let painted = frame g.D.Terminal.state value c.begin.new.editor c.prepare.new.host in
    let paints = subst (λ it. Paints g.H.LineEditorHost.rules it painted) (search rules) (c.in_ok-begin.ensures.ok (search rules)).paints in
    let starts : Starts g.H.LineEditorHost.rules value g.K.Hook.rules f painted = (value c.prepare.new.host, (c.args.host.now, c.prepare.new.host, refl, refl, c.prepare.ensures.changes, search rules), paints) in
    read_hooked g.H.LineEditorHost.rules g.H.LineEditorHost.OVERRIDES value g.K.Hook.rules c.read_begun.result (seen_at g.D.Terminal.state g.D.Device.log c.args.device.now) (seen_at g.D.Terminal.state g.D.Device.log c.begin.new.editor.terminal.now) (seen_at g.D.Terminal.state g.D.Device.log c.read_begun.new.editor.terminal.now) _ f painted c.read_begun.new.editor.session _ _
    starts (told_calls _ _ c.begin.ensures.calls.notes ∙ ap (λ it. events_in (g.D.Device.log it)) (search rules)) (search rules) (search rules) c.read_begun.ensures.ok

pub returns-clause-goes : goal.returns-clause-goes
returns-clause-goes g c =
    let value = g.H.LineEditorHost.value in
    let f = fresh_frame c.args.prompt.now (value c.args.host.now) (g.D.Terminal.state c.args.device.now) in
    let painted = frame g.D.Terminal.state value c.begin.new.editor c.prepare.new.host in
    let set = c.prepare.new.editor.terminal.now in
    let begun = c.begin.new.editor.terminal.now in
    let last = c.read_begun.new.editor.terminal.now in
    let same : set ≡ c.args.device.now = search rules in
    let paints = subst (λ it. Paints g.H.LineEditorHost.rules it painted) (search rules) (c.in_ok-begin.ensures.ok (search rules)).paints in
    let starts : Starts g.H.LineEditorHost.rules value g.K.Hook.rules f painted = (value c.prepare.new.host, (c.args.host.now, c.prepare.new.host, refl, refl, c.prepare.ensures.changes, search rules), paints) in
    goes_between g.D.Terminal.state g.D.Device.log g.D.Device.law g.met.D.Device.law_joins (TakesOver g.H.LineEditorHost.rules value g.K.Hook.rules f) _ set _ last same (search rules)
    (goes_opened g.D.Terminal.state g.D.Device.log g.D.Device.law g.met.D.Device.law_joins (TakesOver g.H.LineEditorHost.rules value g.K.Hook.rules f) (TakesOn g.H.LineEditorHost.rules value g.K.Hook.rules painted) set begun last c.begin.ensures.calls c.read_begun.ensures.goes
    (takes_begun g.H.LineEditorHost.rules g.H.LineEditorHost.OVERRIDES value g.K.Hook.rules f painted starts))
