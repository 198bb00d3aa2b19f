use Rattle.tw_surface.proofs.ScrolledTexts.{stays_within}
use Rattle.tw_surface.proofs.ScrollingScreenLemmas.{scrolls_behind}
use Rattle.tw_surface.proofs.laws.scrolling.Goals as goal

pub returns : goal.returns
returns c = record {
  within = stays_within;
  behind_changes = scrolls_behind;
}
