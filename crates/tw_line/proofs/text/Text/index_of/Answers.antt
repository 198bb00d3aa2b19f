use Rattle.std.proofs.Common.{arith}
use Rattle.tw_line.specs.Text.{bytes_of}
use Rattle.tw_line.proofs.IndexLemmas.{index_of-le}
use Rattle.tw_line.proofs.TextLemmas.{bytes_utf8}
use Rattle.tw_line.proofs.text.Text.index_of.Goals as goal

pub returns-clause-within : goal.returns-clause-within
returns-clause-within c =
    let text = c.args.self.now in
    omega (arith, c.find_index-index.ensures.index, index_of-le (bytes_of text) (bytes_utf8 text) c.args.at c.requires)
