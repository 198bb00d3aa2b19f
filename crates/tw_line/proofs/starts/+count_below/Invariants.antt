use Rattle.std.proofs.Common.{length}
use Rattle.tw_line.proofs.starts.+count_below.Given as goal

abbrev pub decreases-count_below : goal.decreases-count_below
decreases-count_below l = length l.starts.now
