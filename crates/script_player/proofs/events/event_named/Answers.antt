use Rattle.std.proofs.Common.{sym}
use Rattle.std.proofs.lemmas.Bool.{true≢false}
use Rattle.script_player.proofs.events.event_named.Goals as goal

pub returns-clause-function : goal.returns-clause-function
returns-clause-function c =
    λ n low named. absurd (true≢false (sym (c.in_default-plain_key_named.ensures.function n low named)))
