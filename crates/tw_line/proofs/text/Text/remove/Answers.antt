use Rattle.std.proofs.Common.{◌++◌, take, drop, append-nil, sym, ap, ◌∙◌, arith}
use Rattle.tw_line.specs.Starts.{starts_of}
use Rattle.tw_line.specs.Text.{bytes_of}
use Rattle.tw_line.proofs.StartsLemmas.{index_of-mono, starts_of-remove}
use Rattle.tw_line.proofs.TextLemmas.{bytes_utf8, starts-count, starts-from_boundary}
use Rattle.tw_line.proofs.text.Text.remove.Goals as goal

pub remove_starts-requires-clause-order : goal.remove_starts-requires-clause-order
remove_starts-requires-clause-order c =
    let text = c.args.self.now in
    omega (arith, c.index_of-first.ensures.index, c.index_of-last.ensures.index, index_of-mono (bytes_of text) (bytes_utf8 text) _ _ c.requires.start_boundary c.requires.end_boundary c.requires.order)

pub remove_starts-requires-clause-inside : goal.remove_starts-requires-clause-inside
remove_starts-requires-clause-inside c = omega (arith, starts-count c.args.self.now, c.index_of-last.ensures.within)

pub remove_starts-requires-clause-later : goal.remove_starts-requires-clause-later
remove_starts-requires-clause-later c k d h =
    let from = starts-from_boundary c.args.self.now c.args.end _ c.requires.end_boundary c.index_of-last.ensures.index k d h in
    omega arith

pub invariant_of-self : goal.invariant_of-self
invariant_of-self c =
    let text = c.args.self.now in
    let whole = starts_of-remove (bytes_of text) (bytes_utf8 text) _ _ c.requires.order c.requires.start_boundary c.requires.end_boundary in
    let items = rw (c.index_of-first.ensures.index, c.index_of-last.ensures.index, text.listed) at c.remove_starts.ensures.items in
    let left = c.in-Ok.ensures.bytes ∙ ap (λ t. t ++ drop c.args.end (bytes_of text)) (append-nil (take c.args.start (bytes_of text))) in
    record { listed = items ∙ whole ∙ ap starts_of (sym left) }
