use Rattle.laws_screens.proofs.FreshCharacters.{fresh_plain}
use Rattle.laws_screens.proofs.PlayedCharacters.{plays_batches, plays_batches_on}
use Rattle.laws_screens.proofs.laws.characters.Goals as goal

pub returns : goal.returns
returns c = record { without_bottom = plays_batches; on_rows = plays_batches_on; fresh = fresh_plain }
