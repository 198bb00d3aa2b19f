use Rattle.std.proofs.Common.{sym, refl, rules}
use Rattle.tw_sparing.proofs.PlayedBatches.{played_width}
use Rattle.tw_sparing.proofs.shown.Shown.drawn.Goals as goal

pub is_same_above-requires : goal.is_same_above-requires
is_same_above-requires c =
    sym (played_width c.args.rows _ _ c.play_all.new.self (c.in_ok-next.ensures c.play_all.new.self (c.if-not-play_all.ensures refl)))

pub returns-then-is_same_above : goal.returns-then-is_same_above
returns-then-is_same_above c = search rules
