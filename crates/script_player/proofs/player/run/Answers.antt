use Rattle.std.proofs.Common.{rules, ◌≡◌, Err, sym, subst}
use Rattle.script_player.specs.Playing.{Runs}
use Rattle.script_player.proofs.PlayingLemmas.{run_stopped, run_unflushed}
use Rattle.script_player.proofs.player.run.Goals as goal

pub returns-in_err-play_script-clause-played : goal.returns-in_err-play_script-clause-played
returns-in_err-play_script-clause-played g c =
    let stopped = run_stopped (g.R.Read.remaining c.args.reader.now) (g.R.Read.remaining c.read_script.new.reader)
    (g.W.Write.contents c.args.writer.now) (g.W.Write.contents c.play_script.new.writer) _ _ c.in_err-play_script.field-0.0
    c.as_slice.ensures.value c.in_ok-script.ensures.script c.in_ok-script.ensures.end c.in_err-play_script.ensures.played in
    let same : c.from_residual-in_err-play_script.result ≡ Err c.in_err-play_script.field-0.0 = search rules in
    subst (Runs (g.R.Read.remaining c.args.reader.now) (g.R.Read.remaining c.read_script.new.reader)
    (g.W.Write.contents c.args.writer.now) (g.W.Write.contents c.play_script.new.writer)) (sym same) stopped

pub returns-clause-played : goal.returns-clause-played
returns-clause-played g c =
    run_unflushed (g.R.Read.remaining c.args.reader.now) (g.R.Read.remaining c.read_script.new.reader)
    (g.W.Write.contents c.args.writer.now) (g.W.Write.contents c.play_script.new.writer) (g.W.Write.contents c.flush.new.self) _ _
    c.as_slice.ensures.value c.in_ok-script.ensures.script c.in_ok-script.ensures.end c.in_ok-play_script.ensures.played (search rules)
