use Rattle.std.proofs.Common.{◌∙◌}
use Rattle.tw_line.proofs.TextLemmas.{starts-count}
use Rattle.tw_line.proofs.text.Text.count.Goals as goal

pub returns : goal.returns
returns c = c.len.ensures ∙ starts-count c.args.self.now
