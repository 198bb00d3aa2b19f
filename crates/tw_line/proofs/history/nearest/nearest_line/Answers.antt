use Rattle.std.proofs.Common.{arith, sym}
use Rattle.tw_line.proofs.SearchLemmas.{nearest_match-past}
use Rattle.tw_line.proofs.history.nearest.nearest_line.Goals as goal

pub returns-then-idx-line_count-clause-found : goal.returns-then-idx-line_count-clause-found
returns-then-idx-line_count-clause-found g c =
    sym (nearest_match-past (g.L.LentLines.lines c.args.lines.now) c.args.pattern.now c.args.idx c.args.direction (omega arith))
