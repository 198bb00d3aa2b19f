use Rattle.std.proofs.Common.{rules, ◌≡◌, Ok}
use Rattle.tw_lineedit.specs.EditState.{Inactive}
use Rattle.tw_lineedit.specs.Outcomes.{outcome_of}
use Rattle.tw_lineedit.specs.Frame.{frame}
use Rattle.script_player.proofs.Steadiness.{reading-value, refused-line}
use Rattle.script_player.proofs.new_editor.read_line.Goals as goal

pub returns-clause-kept : goal.returns-clause-kept
returns-clause-kept g c steady =
    let inactive : c.set_prompt.new.self.session.state.mode ≡ Inactive = search rules in
    reading-value g.H.LineEditorHost.rules g.H.LineEditorHost.OVERRIDES steady _ _ c.read_line.result (λ it. outcome_of (Ok it)) (c.read_line.ensures.ok inactive) (c.read_line.ensures.err inactive)

pub returns-clause-refused : goal.returns-clause-refused
returns-clause-refused g c =
    let inactive : c.set_prompt.new.self.session.state.mode ≡ Inactive = search rules in
    let old = frame g.T.Terminal.state g.H.LineEditorHost.value c.set_prompt.new.self c.args.host.now in
    let new = frame g.T.Terminal.state g.H.LineEditorHost.value c.read_line.new.self c.read_line.new.host in
    refused-line g.H.LineEditorHost.rules g.H.LineEditorHost.OVERRIDES old new _ c.read_line.result (search rules) (search rules) (c.read_line.ensures.err inactive)
