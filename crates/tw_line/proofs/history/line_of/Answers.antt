use Rattle.std.proofs.Common.{sym}
use Rattle.tw_line.proofs.JoinedLemmas.{line_at-from, line_range}
use Rattle.tw_line.proofs.history.line_of.Goals as goal

pub range-requires-clause-start_le_end : goal.range-requires-clause-start_le_end
range-requires-clause-start_le_end c =
    rw c.start_of-start.ensures (line_range _ _ c.args.at c.utf8.text c.requires.made_up c.requires.inside).order

pub range-requires-clause-start_boundary : goal.range-requires-clause-start_boundary
range-requires-clause-start_boundary c =
    rw c.start_of-start.ensures (λ _. (line_range _ _ c.args.at c.utf8.text c.requires.made_up c.requires.inside).start_boundary)

pub range-requires-clause-end_boundary : goal.range-requires-clause-end_boundary
range-requires-clause-end_boundary c =
    (line_range _ _ c.args.at c.utf8.text c.requires.made_up c.requires.inside).end_boundary

pub returns : goal.returns
returns c =
    rw (c.range.ensures.value, c.start_of-start.ensures)
    (sym (line_at-from c.args.text.now 0 c.args.ends.now c.args.at c.requires.inside))
