use Rattle.std.proofs.Common.{length, ap, arith}
use Rattle.std.specs.String.{string_bytes}
use Rattle.tw_line.proofs.JoinedLemmas.{length-lines_from}
use Rattle.tw_line.proofs.history.BasicHistoryLentLines.line_count.Goals as goal

pub returns : goal.returns
returns c =
    let ends = c.self.inside.ends.items in
    omega (arith, c.len.ensures, ap length c.self.view_is, length-lines_from (string_bytes c.self.inside.text) 0 ends)
