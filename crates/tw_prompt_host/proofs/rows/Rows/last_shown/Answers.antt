use Rattle.std.proofs.Common.{◌≡◌, Some, sym, ◌∙◌, ap, arith, rules}
use Rattle.std.proofs.lemmas.Str.Pattern.{drop_at_char}
use Rattle.tw_hosts.specs.Settling.{screen_view}
use Rattle.tw_prompt_host.specs.Rows.{last_shown, rows_view}
use Rattle.tw_prompt_host.proofs.RowLemmas.{last-behind}
use Rattle.tw_prompt_host.proofs.rows.Rows.last_shown.Goals as goal

pub returns-in-Some : goal.returns-in-Some
returns-in-Some c =
    let screen = screen_view c.args.screen.now in
    let line = c.args.line.now in
    let continuation = c.as_str-in-Some.result.now in
    let rows : rows_view c.args.self.now ≡ Some continuation = search rules in
    let (i, j, (none, at), front, back, low, front-len, back-len) = c.in-Some.ensures.cases in
    sym (ap (λ r. last_shown screen r line) rows ∙ last-behind screen continuation line c.in-Some.row.now i j (drop_at_char 10 line i j at (omega arith)) none back)
