use Rattle.std.proofs.Common.{refl}
use Rattle.tw_terminal.specs.Uses.{Other}
use Rattle.tw_device.proofs.JoinedLemmas.{follows_idle, polled_flushed, polled_taken}
use Rattle.tw_device.proofs.joined.JoinedTerminal.poll_input.Goals as goal

pub returns-clause-follows : goal.returns-clause-follows
returns-clause-follows g c =
    let old = g.T.Terminal.state c.args.self.now.terminal in
    let new = g.T.Terminal.state c.poll_input.new.self in
    follows_idle g.S.EventSource.told g.S.EventSource.follows g.T.Terminal.state g.T.DeviceTerminal.keeps g.T.DeviceTerminal.does
    c.args.self.now c.poll_input.new.self (g.met.T.DeviceTerminal.call_does c.args.self.now.terminal c.poll_input.new.self Other c.poll_input.ensures.follows)
    (polled_flushed c.poll_input.result old new c.poll_input.ensures.ok c.poll_input.ensures.err)
    (polled_taken c.poll_input.result old new c.poll_input.ensures.ok c.poll_input.ensures.err)
    (λ none. g.met.T.DeviceTerminal.call_settles c.args.self.now.terminal c.poll_input.new.self Other c.poll_input.ensures.follows refl none)
