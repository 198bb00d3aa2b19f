use Rattle.std.proofs.Common.{rules, ◌∙◌}
use Rattle.tw_prompt.proofs.PlaceLemmas.{answered, begun_as, fails_begun, fails_between, on_err}
use Rattle.tw_prompt.specs.Places.{IsReadFrom}
use Rattle.tw_prompt.proofs.prompt.PromptOver.read.Goals as goal

pub returns-clause-ok : goal.returns-clause-ok
returns-clause-ok g c =
    answered IsReadFrom _ _ _ _ _ _ _ _ _ _ _ _ (begun_as _ _ _ _ _ _ (search rules) c.begin_line.ensures.begun)
    c.end_line.ensures.answer (search rules) c.begin_line.ensures.place c.end_line.ensures.place
    c.read_line-answer.ensures.ok c.end_line.ensures.kept

pub returns-in_err-prompt-clause-err : goal.returns-in_err-prompt-clause-err
returns-in_err-prompt-clause-err g c = on_err c.from_residual.result (fails_begun _ _ _ _ c.begin_line.ensures.place c.begin_line.ensures.begun)

pub returns-clause-err : goal.returns-clause-err
returns-clause-err g c =
    fails_between c.read_line-answer.result c.end_line.result _ _ _ _ _ _ _ _ c.end_line.ensures.answer (begun_as _ _ _ _ _ _ (c.as_str.ensures.value ∙ c.in_ok-prompt.ensures.prompt) c.begin_line.ensures.begun)
    c.begin_line.ensures.place c.end_line.ensures.place c.read_line-answer.ensures.err c.end_line.ensures.left
