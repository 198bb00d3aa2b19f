use Rattle.std.proofs.Common.{arith}
use Rattle.tw_line.specs.HistoryAdditions.{match_view}
use Rattle.tw_line.proofs.SearchLemmas.{found_forwards, none_forwards}
use Rattle.tw_line.proofs.history.nearest.search_forwards.Goals as goal

pub returns-in-Some-clause-found : goal.returns-in-Some-clause-found
returns-in-Some-clause-found g c =
    found_forwards (g.L.LentLines.lines c.args.lines.now) c.args.pattern.now c.args.idx c.requires c.loop-at.at (match_view c.in-Some.found)
    (omega arith) (omega arith) c.in-Some.ensures.found.0 c.in-Some.ensures.found.1 c.loop-at.invariant

pub returns-clause-found : goal.returns-clause-found
returns-clause-found g c =
    none_forwards (g.L.LentLines.lines c.args.lines.now) c.args.pattern.now c.args.idx c.requires (λ k low high. c.loop-at.invariant k low (omega arith))
