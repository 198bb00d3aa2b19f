use Rattle.std.proofs.Common.{ap, refl}
use Rattle.tw_terminal.specs.TerminalState.{TerminalState}
use Rattle.tw_terminal.specs.Uses.{Other}
use Rattle.tw_device.proofs.JoinedLemmas.{follows_flushed, follows_refused, leads_flushed, leads_refused}
use Rattle.tw_device.proofs.joined.JoinedTerminal.flush.Goals as goal

pub returns-in-Ok-clause-follows : goal.returns-in-Ok-clause-follows
returns-in-Ok-clause-follows g c =
    let old = c.args.self.now.terminal in
    let new = c.flush.new.self in
    follows_flushed g.S.EventSource.told g.S.EventSource.follows g.T.Terminal.state g.T.DeviceTerminal.keeps g.T.DeviceTerminal.does
    c.args.self.now _
    (leads_flushed g.S.EventSource.told g.S.EventSource.follows g.T.Terminal.state g.T.DeviceTerminal.keeps g.T.DeviceTerminal.does
    c.args.self.now new c.note_flushed.new.self c.note_flushed.ensures (g.met.T.DeviceTerminal.call_does old new Other c.in-Ok.ensures.follows) c.in-Ok.ensures.ok
    (g.met.T.DeviceTerminal.flush_settles old new c.in-Ok.ensures.follows)
    (λ none. g.met.T.DeviceTerminal.call_settles old new Other c.in-Ok.ensures.follows refl none))
    c.in-Ok.ensures.ok

pub returns-in-Err-clause-follows : goal.returns-in-Err-clause-follows
returns-in-Err-clause-follows g c =
    let old = c.args.self.now.terminal in
    let new = c.flush.new.self in
    follows_refused g.S.EventSource.told g.S.EventSource.follows g.T.Terminal.state g.T.DeviceTerminal.keeps g.T.DeviceTerminal.does
    Other c.args.self.now _
    (leads_refused g.S.EventSource.told g.S.EventSource.follows g.T.Terminal.state g.T.DeviceTerminal.keeps g.T.DeviceTerminal.does
    c.args.self.now new c.note_refused.new.self c.note_refused.ensures
    (ap (λ (t : TerminalState). t.flushed) c.in-Err.ensures.err) (ap (λ (t : TerminalState). t.batches) c.in-Err.ensures.err)
    (λ none. g.met.T.DeviceTerminal.call_settles old new Other c.in-Err.ensures.follows refl none))
    (ap (λ (t : TerminalState). t.batches) c.in-Err.ensures.err)
