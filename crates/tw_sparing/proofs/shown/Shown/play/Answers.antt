use Rattle.std.proofs.Common.{rules}
use Rattle.tw_sparing.proofs.shown.Shown.play.Goals as goal

pub returns : goal.returns
returns c = λ _.
    let playable = c.is_playable.ensures c.if-not-is_playable.false (search rules) in
    record {
      playable = playable;
      drawn = record {
        width = c.apply.ensures.width;
        drawn = search rules;
        kept = search rules;
      };
      reached = search rules;
    }
