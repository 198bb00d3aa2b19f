use Rattle.std.proofs.Common.{sym, ◌∙◌}
use Rattle.ecma_terminal.proofs.TerminalSteps.{one_last, one_more}
use Rattle.ecma_terminal.proofs.terminal.only_character.Goals as goal

pub returns-in-None : goal.returns-in-None
returns-in-None c =
    sym (one_last c.args.text.now _ c.in-Some.character c.utf8.text (sym c.chars-characters.ensures.rest ∙ c.in-Some.ensures.steps.0) c.in-None.ensures.steps.0.0)

pub returns-in-Some-next : goal.returns-in-Some-next
returns-in-Some-next c =
    sym (one_more c.args.text.now _ _ c.in-Some.character c.in-Some-next.field-0 c.utf8.text (sym c.chars-characters.ensures.rest ∙ c.in-Some.ensures.steps.0) c.in-Some-next.ensures.steps.0)
