use Rattle.std.proofs.Common.{◌≡◌, ◌++◌, IsCharBoundary, length, string_bytes, rules, subst}
use Rattle.std.proofs.lemmas.Str.{IsCharBoundary-at_seam}
use Rattle.tw_prompt_host.proofs.rows.Rows.show.Goals as goal

pub column-column-requires : goal.column-column-requires
column-column-requires c =
    let before = string_bytes c.in_ok-text-in-Several.text in
    let all = c.as_str-in-Several.result.now in
    let whole : all ≡ before ++ c.as_str.result.now = search rules in
    let at : length before ≡ c.len-at.result = search rules in
    subst (λ i. IsCharBoundary all i) at (IsCharBoundary-at_seam all before c.as_str.result.now whole c.as_str.utf8)
