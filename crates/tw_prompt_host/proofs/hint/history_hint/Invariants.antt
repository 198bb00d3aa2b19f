-- The newest longer line is one of those that are left.
use Rattle.std.proofs.Common.{◌≡◌, drop, length, option_map}
use Rattle.tw_line.specs.Extremes.{greatest_below}
use Rattle.tw_line.specs.NearestMatch.{line_at}
use Rattle.tw_prompt_host.specs.Hint.{is_longer, newest_rest}
use Rattle.tw_prompt_host.proofs.hint.history_hint.Given as goal

abbrev pub invariant-loop-at : goal.invariant-loop-at
invariant-loop-at g l =
    let lines = g.L.LentLines.lines l.lines in
    newest_rest lines l.text ≡ option_map (λ i. drop (length l.text) (line_at lines i)) (greatest_below (λ i. is_longer l.text (line_at lines i)) l.at)
