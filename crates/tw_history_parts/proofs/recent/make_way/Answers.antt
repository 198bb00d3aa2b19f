use Rattle.std.proofs.Common.{string_bytes, sym, ap, ◌∙◌, rules, tests}
use Rattle.tw_history_parts.specs.Recent.{is_another, lines_of_entries, older_lines}
use Rattle.tw_history_parts.proofs.RecentLemmas.{kept_by, others_kept}
use Rattle.tw_history_parts.proofs.recent.make_way.Goals as goal

pub returns-then-is_unique-clause-lines : goal.returns-then-is_unique-clause-lines
returns-then-is_unique-clause-lines c =
    let line = c.args.line.now in
    let old = c.args.entries.now.items in
    let (bs, q, size, turns, kept) = c.retain.ensures.filtered in
    ap lines_of_entries (kept ∙ kept_by _ (λ entry. is_another line (string_bytes entry)) _ (λ x b q k. search (rules, tests)) bs old q size turns)
    ∙ others_kept line old ∙ ap (λ unique. older_lines unique line (lines_of_entries old)) (sym c.if-is_unique.true)
