use Rattle.std.proofs.Common.{rules}
use Rattle.script_player.specs.Playback.{FailsToObey, stage_of}
use Rattle.script_player.proofs.ReadingLemmas.{read_refused}
use Rattle.script_player.proofs.playback.Playback.obey.Goals as goal

pub returns-in_err-put-in-Read-clause-refused : goal.returns-in_err-put-in-Read-clause-refused
returns-in_err-put-in-Read-clause-refused g c =
    let told = c.in_ok-shown-in-Read.ensures.told in
    let refused : FailsToObey c.args.directive (stage_of c.args.self.now) (stage_of c.read.new.self) (g.W.Write.contents c.args.writer.now) (g.W.Write.contents c.put.new.writer) c.in_err-put-in-Read.field-0.0 =
    read_refused _ _ _ _ _ _ _ c.in-Read.is c.in_err-put-in-Read.ensures.fault c.read.ensures.kept (search (rules, told)) c.put.ensures.part in
    search (rules, refused)
