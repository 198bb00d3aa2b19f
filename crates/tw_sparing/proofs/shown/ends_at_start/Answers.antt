use Rattle.std.proofs.Common.{ap, sym, ◌∙◌}
use Rattle.tw_surface.specs.ChangeView.{change_view}
use Rattle.tw_sparing.proofs.EndedBatches.{ends_cleared, ends_moved, found}
use Rattle.tw_sparing.proofs.shown.ends_at_start.Goals as goal

pub returns-in-Some-ClearScreen-default : goal.returns-in-Some-ClearScreen-default
returns-in-Some-ClearScreen-default c ends =
    let last = c.in-Some-ClearScreen-default in
    ends_cleared c.args.changes.now last.field-0-1.now last.field-0-0.now last.field-0-0-0 last.ensures.cases.0 (ap change_view last.field-0-0-is)

pub returns-in-Some : goal.returns-in-Some
returns-in-Some c ends =
    let last = c.in-Some-ClearToEndOfScreen-default in
    let start = found c.row_of_start.result c.row_of_start.ensures (sym c.is_some.ensures ∙ ends) in
    ends_moved c.args.changes.now last.before.now c.in-Some.field-0-1.now c.in-Some.change.now last.field-0-0.now last.field-0-0-0 start.0
    last.ensures.cases.0 c.in-Some.ensures.cases.0 (ap change_view last.field-0-0-is) start.1
