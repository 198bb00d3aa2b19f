use Rattle.laws_screens.proofs.SizedBatchLemmas.{sized_batches_are}
use Rattle.laws_screens.proofs.PaintedAlikeLemmas.{measured_is_itself, shows_stations, heals_stations, closes_stations}
use Rattle.laws_screens.proofs.RowSceneLemmas.{rows_are_a_preview}
use Rattle.laws_screens.proofs.laws.stations.Goals as goal

pub returns : goal.returns
returns g c = record {
  batches = sized_batches_are;
  measured = measured_is_itself;
  preview = rows_are_a_preview;
  shown = shows_stations;
  healed = heals_stations;
  closed = closes_stations;
}
