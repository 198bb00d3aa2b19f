use Rattle.std.proofs.Common.{rules, ◌≡◌, subst, arith}
use Rattle.std.specs.Io.KnownBytes.{Appends}
use Rattle.std.proofs.lemmas.Result.{IfErr-weaker}
use Rattle.script_player.specs.Lines.{IsBad}
use Rattle.script_player.specs.Playback.{stage_of}
use Rattle.script_player.specs.Playing.{FailsToPlay}
use Rattle.script_player.specs.Written.{bad_line}
use Rattle.script_player.proofs.PlayingLemmas.{bad_line_named, naming_refused, directive_refused}
use Rattle.script_player.proofs.player.play_line.Goals as goal

pub returns-in_err-put-clause-fails : goal.returns-in_err-put-clause-fails
returns-in_err-put-clause-fails g c =
    let bad : IsBad c.args.line.now = search rules in
    let refused : FailsToPlay c.args.number c.args.line.now (stage_of c.args.playback.now) (g.W.Write.contents c.args.writer.now) (g.W.Write.contents c.put.new.writer) c.in_err-put.field-0.0 =
    naming_refused (stage_of c.args.playback.now) _ _ _ _ _ _ bad c.in_err-put.ensures.fault (search rules) c.put.ensures.part in
    search (rules, refused)

pub returns-clause-fails : goal.returns-clause-fails
returns-clause-fails g c =
    IfErr-weaker c.obey.result _ _
    (λ fault fails. directive_refused c.args.number _ c.in-Some.directive _ _ _ _ fault c.in-Some.ensures.named fails)
    c.obey.ensures.refused

pub returns-in_default-clause-played : goal.returns-in_default-clause-played
returns-in_default-clause-played g c = tt

pub returns-in_default-clause-fails : goal.returns-in_default-clause-fails
returns-in_default-clause-fails g c =
    let bad : IsBad c.args.line.now = search rules in
    let text : c.as_str.result.now ≡ bad_line c.args.number = search rules in
    let old = g.W.Write.contents c.args.writer.now in
    let new = g.W.Write.contents c.put.new.writer in
    (omega arith, bad, subst (Appends old new) text c.in_ok-put.ensures.ok)

pub returns-in_default-clause-bad_line : goal.returns-in_default-clause-bad_line
returns-in_default-clause-bad_line g c =
    let text : c.as_str.result.now ≡ bad_line c.args.number = search rules in
    let old = g.W.Write.contents c.args.writer.now in
    let new = g.W.Write.contents c.put.new.writer in
    bad_line_named old new _ c.args.number (omega arith) c.requires (subst (Appends old new) text c.in_ok-put.ensures.ok)
