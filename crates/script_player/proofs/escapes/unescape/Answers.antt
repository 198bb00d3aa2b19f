use Rattle.std.proofs.Common.{refl}
use Rattle.std.proofs.lemmas.Result.{IfOk-weaker}
use Rattle.script_player.proofs.EscapeLemmas.{replaced}
use Rattle.script_player.proofs.escapes.unescape.Goals as goal

pub returns : goal.returns
returns c = IfOk-weaker c.replace.result _ _ (λ lines made. replaced made.0 _ c.args.text.now _ refl made.1) c.replace.ensures.ok
