use Rattle.std.proofs.Common.{[], ◌∙◌, refl, rules}
use Rattle.tw_prompt.specs.Joined.{pending_events}
use Rattle.tw_prompt.proofs.JoinedLemmas.{moves_nothing, one_is}
use Rattle.tw_prompt.proofs.events.PromptEvents.joined.Goals as goal

pub returns-then-is_err-clause-moves : goal.returns-then-is_err-clause-moves
returns-then-is_err-clause-moves g c = ([], refl, c.key_of_character.ensures, moves_nothing g.S.EventSource.told g.S.EventSource.follows c.args.self.now.source (pending_events c.args.self.now.pending))

pub returns-else-len-lone-clause-moves : goal.returns-else-len-lone-clause-moves
returns-else-len-lone-clause-moves g c =
    let gathered = c.gather.ensures.moves in
    (gathered.0, gathered.1, c.key_of_character-else-len-lone.ensures ∙ one_is c.args.first gathered.0 _ _ gathered.2 (search (rules)), gathered.3)
