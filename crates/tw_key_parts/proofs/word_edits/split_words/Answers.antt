use Rattle.std.proofs.Common.{◌≤◌, take, subst, sym, ap, ◌∙◌, arith, rules}
use Rattle.std.specs.Str.{IsUtf8, IsCharBoundary}
use Rattle.std.proofs.lemmas.Str.{IsCharBoundary-from_take}
use Rattle.std.proofs.lemmas.List.{take-take}
use Rattle.tw_key_parts.proofs.word_edits.split_words.Goals as goal

pub split_at-requires-2 : goal.split_at-requires-2
split_at-requires-2 c =
    let line = c.args.line.now in
    let (n, is, none, ends, len, low) = c.trim_end.ensures.value in
    let short : n ≤ c.args.end = search (rules, low, c.split_at.ensures.front) in
    let front = is ∙ ap (take n) c.split_at.ensures.front ∙ take-take n c.args.end line short in
    subst (IsCharBoundary line) (sym len) (IsCharBoundary-from_take line n c.utf8.line (omega (arith, short, c.requires.0)) (subst IsUtf8 front c.trim_end.utf8))
