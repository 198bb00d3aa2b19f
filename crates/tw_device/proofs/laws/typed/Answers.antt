use Rattle.std.proofs.Common.{subst}
use Rattle.tw_device.specs.Keys.{held_by}
use Rattle.tw_device.specs.Typed.{TellsTyped}
use Rattle.tw_device.proofs.CallLemmas.{calls_tell}
use Rattle.tw_device.proofs.laws.typed.Goals as goal

pub returns : goal.returns
returns g c events old new asked =
    let held = held_by g.R.Read.remaining in
    subst (λ all. TellsTyped (held old) (held new) all) asked.calls.1 (calls_tell (λ it. it.told) held asked.calls.0 old new asked.calls.2)
