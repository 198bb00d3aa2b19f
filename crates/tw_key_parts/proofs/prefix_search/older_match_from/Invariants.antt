-- The newest match up to the first index is that up to this one.
use Rattle.std.proofs.Common.{◌≡◌}
use Rattle.tw_key_parts.specs.PrefixSearch.{older_match}
use Rattle.tw_key_parts.proofs.prefix_search.older_match_from.Given as goal

abbrev pub invariant-loop-index : goal.invariant-loop-index
invariant-loop-index g l =
    let lines = g.L.History.lines l.lines in older_match lines l.editor l.from ≡ older_match lines l.editor l.index
