use Rattle.std.proofs.Common.{refl}
use Rattle.tw_terminal.specs.Uses.{Other}
use Rattle.tw_device.proofs.JoinedLemmas.{follows_idle, still_flushed, still_taken}
use Rattle.tw_device.proofs.joined.JoinedTerminal.get_screen_size.Goals as goal

pub returns-clause-follows : goal.returns-clause-follows
returns-clause-follows g c =
    let old = g.T.Terminal.state c.args.self.now.terminal in
    let new = g.T.Terminal.state c.get_screen_size.new.self in
    follows_idle g.S.EventSource.told g.S.EventSource.follows g.T.Terminal.state g.T.DeviceTerminal.keeps g.T.DeviceTerminal.does
    c.args.self.now c.get_screen_size.new.self (g.met.T.DeviceTerminal.call_does c.args.self.now.terminal c.get_screen_size.new.self Other c.get_screen_size.ensures.follows)
    (still_flushed c.get_screen_size.result old new c.get_screen_size.ensures.ok c.get_screen_size.ensures.err)
    (still_taken c.get_screen_size.result old new c.get_screen_size.ensures.ok c.get_screen_size.ensures.err)
    (λ none. g.met.T.DeviceTerminal.call_settles c.args.self.now.terminal c.get_screen_size.new.self Other c.get_screen_size.ensures.follows refl none)
