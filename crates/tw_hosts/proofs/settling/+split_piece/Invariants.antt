use Rattle.std.proofs.Common.{length}
use Rattle.tw_hosts.proofs.settling.+split_piece.Given as goal

abbrev pub decreases-split_piece : goal.decreases-split_piece
decreases-split_piece l = length l.text.now
