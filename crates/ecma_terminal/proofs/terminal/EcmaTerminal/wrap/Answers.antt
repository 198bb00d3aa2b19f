use Rattle.std.proofs.Common.{◌∙◌, sym, arith}
use Rattle.ecma_terminal.proofs.TerminalSteps.{same_rule, becomes_then, becomes_at, wraps, passes}
use Rattle.ecma_terminal.proofs.terminal.EcmaTerminal.wrap.Goals as goal

pub returns-then-is_past_row-clause-wrapped : goal.returns-then-is_past_row-clause-wrapped
returns-then-is_past_row-clause-wrapped c =
    same_rule _ _ _ _ (becomes_then _ _ _ _ _ c.feed_line.ensures c.return_to_start.ensures)
    (λ t s. wraps _ _ _ _ t (passes c.args.self.now t _ s ∙ sym c.is_past_row.ensures ∙ c.if-is_past_row.true))

pub returns-then-is_past_row-clause-room : goal.returns-then-is_past_row-clause-room
returns-then-is_past_row-clause-room c = omega (arith, (becomes_at _ _ _ c.return_to_start.ensures).col, c.requires)
