use Rattle.std.proofs.Common.{refl}
use Rattle.tw_ansi.proofs.JoinedMarks.{clusters_join, characters_join, styled_join}
use Rattle.tw_ansi.proofs.laws.pens.Goals as goal

pub returns-clause-clusters : goal.returns-clause-clusters
returns-clause-clusters c = (λ change a. refl, clusters_join)

pub returns-clause-characters : goal.returns-clause-characters
returns-clause-characters c = (λ change a. refl, characters_join)

pub returns-clause-styled : goal.returns-clause-styled
returns-clause-styled c = (λ change a. refl, styled_join)
