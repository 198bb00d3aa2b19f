use Rattle.std.proofs.Common.{◌∙◌, ap}
use Rattle.tw_prompt.proofs.PlaceLemmas.{answered, asked_after, begun_as}
use Rattle.tw_prompt.specs.Places.{seen_in}
use Rattle.tw_prompt.proofs.prompt.PromptOver+T+PreparedHost+L+K+PreparedLines.read_with.Goals as goal

pub returns-clause-ok : goal.returns-clause-ok
returns-clause-ok g c =
    answered _ _ _ c.read_line_with-answer.result _ _ _ _ _ _ _ _ _ (begun_as _ _ _ _ _ _ (c.as_str.ensures.value ∙ c.in_ok-prompt.ensures.prompt) c.begin_line.ensures.begun)
    c.end_line.ensures.answer (c.forget_validation.ensures.remembers ∙ c.read_line_with-answer.ensures.remembers ∙ c.begin_line.ensures.remembers) c.begin_line.ensures.place
    (c.end_line.ensures.place ∙ ap (λ it. seen_in g.T.Terminal.state it.value) c.forget_validation.ensures.place)
    (asked_after _ _ _ _ _ _ c.read_line_with-answer.new.self.host.value c.forget_validation.new.self.host.value c.read_line_with-answer.ensures.ok c.forget_validation.ensures.changes)
    c.end_line.ensures.kept
