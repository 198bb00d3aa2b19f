use Rattle.tw_ansi.proofs.EcmaPaintings.{painting_is_sendable}
use Rattle.tw_ansi.proofs.laws.paintings.Goals as goal

pub returns-clause-first : goal.returns-clause-first
returns-clause-first g c pen = painting_is_sendable pen
