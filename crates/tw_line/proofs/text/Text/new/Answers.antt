use Rattle.std.proofs.Common.{sym, ◌∙◌}
use Rattle.tw_line.proofs.StartsLemmas.{starts_from-none}
use Rattle.tw_line.proofs.text.Text.new.Goals as goal

pub invariant_of-result : goal.invariant_of-result
invariant_of-result c = record { listed = c.new-2.ensures.items ∙ sym (starts_from-none 0 _ c.new.ensures.bytes) }
