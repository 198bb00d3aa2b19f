use Rattle.std.proofs.Common.{sym, ◌∙◌}
use Rattle.tw_line.proofs.StartsLemmas.{starts_from-none}
use Rattle.tw_line.proofs.text.Text.clear.Goals as goal

pub invariant_of-self : goal.invariant_of-self
invariant_of-self c = record { listed = c.clear-2.ensures.items ∙ sym (starts_from-none 0 _ c.clear.ensures.bytes) }
