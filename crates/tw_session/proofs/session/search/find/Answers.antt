use Rattle.std.proofs.Common.{◌≡◌, ◌≤◌, length, sym, Some, None, arith, rules}
use Rattle.tw_line.specs.NearestMatch.{last_index}
use Rattle.tw_line.proofs.SearchLemmas.{nearest_match-past}
use Rattle.tw_session.proofs.WalkLemmas.{length-last, length-none}
use Rattle.tw_session.proofs.session.search.find.Goals.{in_default-via-in-Some+else-start-last, in_default-via-in-None-1}
use Rattle.tw_session.proofs.session.search.find.Goals as goal

pub returns-in_default-clause-found : goal.returns-in_default-clause-found
returns-in_default-clause-found g c =
    let lines = g.H.LineEditorHost.rules.lines (g.H.LineEditorHost.value c.args.host.now) in
    let past : length lines ≤ c.args.start =
    elim c.in_default.branch [
      | in_default-via-in-Some+else-start-last w ↦
          let last : last_index lines ≡ Some w.in-Some.last = search rules in
          omega (arith, length-last lines w.in-Some.last last)
      | in_default-via-in-None-1 w ↦
          let none : last_index lines ≡ None = search rules in
          omega (arith, length-none lines none)
    ] in
    sym (nearest_match-past lines c.args.pattern.now c.args.start c.args.direction past)
