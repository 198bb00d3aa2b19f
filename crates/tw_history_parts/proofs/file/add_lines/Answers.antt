use Rattle.std.proofs.Common.{◌≡◌, ◌+◌, ◌∷◌, drop, map, string_bytes, ap, ◌∙◌, rules}
use Rattle.std.proofs.lemmas.List.{at_drop_more}
use Rattle.tw_history_parts.proofs.ReadingLemmas.{passes_line}
use Rattle.tw_history_parts.proofs.file.add_lines.Goals as goal

pub loop-line-preserved : goal.loop-line-preserved
loop-line-preserved g c =
    let lines = c.args.lines.now in
    let same : map string_bytes (drop c.loop-line.line-index lines) ≡ c.deref.result.now ∷ map string_bytes (drop (c.loop-line.line-index + 1) lines) =
    at_drop_more (map string_bytes) lines c.loop-line.line-index c.line-item.result c.loop-line-test.true
    ∙ ap (λ l. l ∷ map string_bytes (drop (c.loop-line.line-index + 1) lines)) (search rules) in
    passes_line g.L.History.lines g.L.History.add_gives _ _ _ c.deref.result.now c.args.history.now c.loop-line.history c.add.new.self c.loop-line.invariant same c.in_ok-add.ensures.added
