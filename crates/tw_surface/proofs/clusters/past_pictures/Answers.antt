use Rattle.std.proofs.Common.{rules}
use Rattle.tw_surface.proofs.OpeningLemmas.{first_picture, more_pictures, opens_pictures, shorter_behind}
use Rattle.tw_surface.proofs.clusters.past_pictures.Goals as goal

pub loop-behind-init : goal.loop-behind-init
loop-behind-init c = record {
  utf8 = search rules;
  past = first_picture c.args.text.now c.in_ok-rest.rest.now c.in_ok-rest.ensures;
}

pub loop-behind-smaller : goal.loop-behind-smaller
loop-behind-smaller c = shorter_behind c.loop-behind.rest.now c.in-Some.behind.now c.in-Some.ensures

pub loop-behind-preserved : goal.loop-behind-preserved
loop-behind-preserved c = record {
  utf8 = search rules;
  past = more_pictures c.args.text.now c.loop-behind.rest.now c.in-Some.behind.now c.loop-behind.invariant.past c.in-Some.ensures;
}

pub returns : goal.returns
returns c = opens_pictures c.args.text.now c.loop-behind.rest.now c.loop-behind.invariant.past
