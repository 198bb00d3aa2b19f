use Rattle.script_player.proofs.Writes.{appended_then, done_more}
use Rattle.script_player.proofs.output.put.Goals as goal

pub loop-rest-preserved : goal.loop-rest-preserved
loop-rest-preserved g c =
    let (done, appended, split) = c.loop-rest.invariant in
    (_, appended_then _ _ _ _ _ appended c.in-Ok.ensures.bytes, done_more _ done _ _ split)

pub returns-clause-part : goal.returns-clause-part
returns-clause-part g c =
    let (done, appended, split) = c.loop-rest.invariant in
    (done, _, appended, split)
