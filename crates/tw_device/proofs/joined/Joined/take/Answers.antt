use Rattle.std.proofs.Common.{ap, refl, ◌∙◌}
use Rattle.tw_surface.specs.ChangeView.{batch_view}
use Rattle.tw_terminal.specs.TerminalState.{TerminalState}
use Rattle.tw_terminal.specs.Uses.{Refused, Took}
use Rattle.tw_device.proofs.JoinedLemmas.{leads_refused, leads_took}
use Rattle.tw_device.proofs.joined.Joined.take.Goals as goal

pub returns-in-Ok-clause-ok : goal.returns-in-Ok-clause-ok
returns-in-Ok-clause-ok g c =
    leads_took g.S.EventSource.told g.S.EventSource.follows g.T.Terminal.state g.T.DeviceTerminal.keeps g.T.DeviceTerminal.does
    c.args.self.now c.set_more_at_hand.new.self c.render.new.self c.note_taken.new.self (batch_view c.args.changes.now) c.note_taken.ensures
    c.set_more_at_hand.ensures.called (g.met.T.DeviceTerminal.call_does c.set_more_at_hand.new.self c.render.new.self (Took (batch_view c.args.changes.now)) c.in-Ok.ensures.took)
    (rw c.set_more_at_hand.ensures.state at c.in-Ok.ensures.ok)

pub returns-in-Err-clause-err : goal.returns-in-Err-clause-err
returns-in-Err-clause-err g c =
    leads_refused g.S.EventSource.told g.S.EventSource.follows g.T.Terminal.state g.T.DeviceTerminal.keeps g.T.DeviceTerminal.does
    c.args.self.now c.render.new.self c.note_refused.new.self c.note_refused.ensures
    (ap (λ (t : TerminalState). t.flushed) c.in-Err.ensures.err.rest ∙ ap (λ (t : TerminalState). t.flushed) c.set_more_at_hand.ensures.state)
    (g.met.T.DeviceTerminal.refused_takes_none c.set_more_at_hand.new.self c.render.new.self c.in-Err.ensures.refused ∙ ap (λ (t : TerminalState). t.batches) c.set_more_at_hand.ensures.state)
    (λ none. g.met.T.DeviceTerminal.call_settles c.set_more_at_hand.new.self c.render.new.self Refused c.in-Err.ensures.refused refl (c.set_more_at_hand.ensures.kept ∙ none))

pub returns-in-Err-clause-untaken : goal.returns-in-Err-clause-untaken
returns-in-Err-clause-untaken g c =
    g.met.T.DeviceTerminal.refused_takes_none c.set_more_at_hand.new.self c.render.new.self c.in-Err.ensures.refused ∙ ap (λ (t : TerminalState). t.batches) c.set_more_at_hand.ensures.state
