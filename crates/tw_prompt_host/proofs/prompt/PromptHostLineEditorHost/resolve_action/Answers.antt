use Rattle.std.proofs.Common.{◌≡◌, ◌∙◌, ap, option_map, refl}
use Rattle.tw_host.specs.ActionView.{action_view}
use Rattle.tw_prompt_host.specs.Going.{event_line}
use Rattle.tw_prompt_host.specs.Menu.{turn_line, turn_view}
use Rattle.tw_prompt_host.proofs.AnswerLemmas.{lent_or, resolved_as, seen}
use Rattle.tw_prompt_host.proofs.prompt.PromptHostLineEditorHost.resolve_action.Goals as goal

pub ask_host-requires : goal.ask_host-requires
ask_host-requires g c = c.in_ok-before.ensures.equal ∙ ap (λ x. x.now) c.unwrap_or-line.ensures ∙ lent_or c.as_ref.result _ _ c.as_ref.ensures.value

pub returns-clause-ok : goal.returns-clause-ok
returns-clause-ok g c =
    let before : c.in_ok-before.before ≡ event_line c.args.self.now.going c.args.editor.now =
    c.in_ok-before.ensures.equal ∙ ap (λ x. x.now) c.unwrap_or-line.ensures ∙ lent_or c.as_ref.result _ _ c.as_ref.ensures.value in
    let key = seen action_view c.as_ref-key.result c.in_ok-default.default c.as_ref-key.ensures.value ∙ c.in_ok-default.ensures.action in
    let view = turn_view c.args.self.now.going.menu in
    let turn = seen view c.as_ref-2.result c.turn-turn.result c.as_ref-2.ensures.value ∙ c.turn-turn.ensures in
    let original = c.in_ok-original.ensures ∙ ap turn_line turn in
    let own = c.in_ok-own.ensures in
    let taken = ap (λ going. option_map (turn_view going.menu) c.turn-turn.result) own.going ∙ c.turn-turn.ensures in
    let fails = c.failing_by-fails.ensures ∙ rw (own.answer.2, c.in_ok-accepting.ensures, c.get_line.ensures, c.in_ok-fails.ensures, c.chosen.ensures, c.in_ok-edit.ensures) refl in
    resolved_as g.K.KeyPart.keys g.H.LineEditorHost.rules _ _ _ _ _ _ _ _ _ _ before
    (rw c.prepare.ensures.state at own.answer.0)
    (c.answered-answer.ensures.answer ∙ rw (own.answer.2, c.in_ok-edit.ensures, original, c.in_ok-begun.ensures, key, own.answer.1) refl)
    (c.answered-answer.ensures.turn ∙ rw (own.answer.2, c.in_ok-edit.ensures, taken, c.in_ok-begun.ensures, key) refl)
    c.in_ok-accepting.ensures c.get_line.ensures fails
    ∙ c.settle.ensures
