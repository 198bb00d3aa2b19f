use Rattle.tw_device.proofs.InTimeLemmas.{called_on}
use Rattle.tw_device.proofs.reading.begin.Goals as goal

pub returns-clause-calls : goal.returns-clause-calls
returns-clause-calls g c =
    called_on g.D.Terminal.state g.D.Device.log g.D.Device.law g.D.Terminal.follows g.met.D.Device.call_notes g.met.D.Device.call_law g.met.D.Device.law_stays g.met.D.Device.law_joins
    _ _ c.begin_line.ensures.terminal.1
