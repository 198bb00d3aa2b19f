use Rattle.std.proofs.Common.{rules, ◌≡◌, ◌+◌, ◌∷◌, subst, arith}
use Rattle.script_player.specs.Lines.{script_lines}
use Rattle.script_player.specs.Playback.{stage_of}
use Rattle.script_player.specs.Playing.{PlaysUpTo}
use Rattle.script_player.proofs.LineLemmas.{lines_at_end, lines_split}
use Rattle.script_player.proofs.PlayingLemmas.{ends_at, nothing_played, plays_next}
use Rattle.script_player.proofs.Writes.{extends_then, names_then}
use Rattle.script_player.proofs.player.play_script.Goals as goal

pub returns-in_err-play_line-clause-kept : goal.returns-in_err-play_line-clause-kept
returns-in_err-play_line-clause-kept g c = extends_then _ _ _ c.loop-rest.invariant.kept c.in_err-play_line.ensures.kept

pub returns-in_err-play_line-clause-bad_line : goal.returns-in_err-play_line-clause-bad_line
returns-in_err-play_line-clause-bad_line g c =
    let named = names_then _ _ _ _ c.loop-rest.invariant.kept c.in_err-play_line.ensures.bad_line in search (rules, named)

pub returns-in_err-playback-clause-played : goal.returns-in_err-playback-clause-played
returns-in_err-playback-clause-played g c =
    let none = nothing_played (script_lines c.args.script.now) (g.W.Write.contents c.args.writer.now) in search (rules, none)

pub returns-in_err-play_line-clause-played : goal.returns-in_err-play_line-clause-played
returns-in_err-play_line-clause-played g c =
    let inv = c.loop-rest.invariant in
    let lines = script_lines c.args.script.now in
    let old = g.W.Write.contents c.args.writer.now in
    let held = g.W.Write.contents c.loop-rest.writer in
    let stage = stage_of c.loop-rest.playback in
    let first = lines_split c.loop-rest.rest.now _ c.split_line.result.1.now (omega arith) c.split_line.ensures.line in
    let counted : c.loop-rest.number + 1 ≡ c.saturating_add-number.result = omega (arith, c.saturating_add-number.ensures, inv.fits) in
    let here = subst (λ ls. PlaysUpTo lines ls (c.loop-rest.number + 1) stage old held) first inv.played in
    let at = subst (λ n. PlaysUpTo lines (c.split_line.result.0.now ∷ script_lines c.split_line.result.1.now) n stage old held) counted here in
    let ended = ends_at (g.W.Write.contents c.play_line.new.writer) c.in_err-play_line.field-0.0 at c.in_err-play_line.ensures.fails in
    search (rules, ended)

pub loop-rest-preserved : goal.loop-rest-preserved
loop-rest-preserved g c =
    let inv = c.loop-rest.invariant in
    let lines = script_lines c.args.script.now in
    let old = g.W.Write.contents c.args.writer.now in
    let held = g.W.Write.contents c.loop-rest.writer in
    let new = g.W.Write.contents c.play_line.new.writer in
    let first = lines_split c.loop-rest.rest.now _ c.split_line.result.1.now (omega arith) c.split_line.ensures.line in
    let counted : c.loop-rest.number + 1 ≡ c.saturating_add-number.result = omega (arith, c.saturating_add-number.ensures, inv.fits) in
    let here = subst (λ ls. PlaysUpTo lines ls (c.loop-rest.number + 1) (stage_of c.loop-rest.playback) old held) first inv.played in
    record {
      kept = extends_then _ _ _ inv.kept c.in_ok-play_line.ensures.kept;
      played = subst (λ n. PlaysUpTo lines (script_lines c.split_line.result.1.now) (n + 1) (stage_of c.play_line.new.playback) old new)
          counted (plays_next here c.in_ok-play_line.ensures.played);
      fits = omega (arith, counted, inv.fits, c.split_line.ensures.shorter);
    }

pub returns-clause-played : goal.returns-clause-played
returns-clause-played g c =
    let inv = c.loop-rest.invariant in
    let old = g.W.Write.contents c.args.writer.now in
    let now = g.W.Write.contents c.loop-rest.writer in
    let none = lines_at_end c.loop-rest.rest.now (search rules) in (
      c.loop-rest.number + 1,
      stage_of c.loop-rest.playback,
      subst (λ ls. PlaysUpTo (script_lines c.args.script.now) ls (c.loop-rest.number + 1) (stage_of c.loop-rest.playback) old now) none inv.played,
    )
