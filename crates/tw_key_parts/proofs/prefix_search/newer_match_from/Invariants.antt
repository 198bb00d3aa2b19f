-- The oldest match from the first index on is that from this one on.
use Rattle.std.proofs.Common.{◌≡◌}
use Rattle.tw_key_parts.specs.PrefixSearch.{newer_match}
use Rattle.tw_key_parts.proofs.prefix_search.newer_match_from.Given as goal

abbrev pub invariant-loop-index : goal.invariant-loop-index
invariant-loop-index g l =
    let lines = g.L.History.lines l.lines in newer_match lines l.editor l.from ≡ newer_match lines l.editor l.index
