use Rattle.std.proofs.Common.{[], ◌∷◌, ◌∙◌, refl, ap, sym}
use Rattle.tw_device.specs.Told.{events_in_option}
use Rattle.tw_input.specs.EventView.{event_view}
use Rattle.tw_prompt.specs.Joined.{pending_events, key_of_character}
use Rattle.tw_prompt.proofs.JoinedLemmas.{moves_as, moves_back, moves_nothing, moves_of, character_is}
use Rattle.tw_prompt.proofs.events.PromptEvents.next_character.Goals as goal

pub returns-then-not-has_at_hand-clause-moves : goal.returns-then-not-has_at_hand-clause-moves
returns-then-not-has_at_hand-clause-moves g c = moves_nothing g.S.EventSource.told g.S.EventSource.follows c.args.self.now.source (pending_events c.args.self.now.pending)

pub returns-in-Some-clause-moves : goal.returns-in-Some-clause-moves
returns-in-Some-clause-moves g c =
    let key = (character_is (event_view c.in-Ok-Some.event) c.in-Some.c (sym c.in-Some.ensures)).0 in
    moves_of g.S.EventSource.told g.S.EventSource.follows _ _ _ _ (events_in_option c.in-Ok-Some.field-0) (key_of_character c.in-Some.c ∷ [])
    (ap events_in_option c.in-Ok-Some.field-0-is ∙ ap (λ e. e ∷ []) key) c.in-Ok-Some.ensures.moves

pub returns-in-Some-clause-text : goal.returns-in-Some-clause-text
returns-in-Some-clause-text g c = ((character_is (event_view c.in-Ok-Some.event) c.in-Some.c (sym c.in-Some.ensures)).1, c.in-Ok-Some.ensures.empty)

pub returns-in-None-clause-moves : goal.returns-in-None-clause-moves
returns-in-None-clause-moves g c =
    let told = g.S.EventSource.told in
    let follows = g.S.EventSource.follows in
    let moves = moves_of told follows _ _ _ _ (events_in_option c.in-Ok-Some.field-0) (event_view c.in-Ok-Some.event ∷ []) (ap events_in_option c.in-Ok-Some.field-0-is) c.in-Ok-Some.ensures.moves in
    moves_back told follows _ _ _ [] (event_view c.in-Ok-Some.event ∷ []) (moves_as told follows _ _ _ _ _ [] (event_view c.in-Ok-Some.event ∷ []) refl c.in-Ok-Some.ensures.empty moves)

pub returns-in-Ok-None-clause-moves : goal.returns-in-Ok-None-clause-moves
returns-in-Ok-None-clause-moves g c =
    moves_of g.S.EventSource.told g.S.EventSource.follows _ _ _ _ (events_in_option c.in-Ok-None.field-0) [] (ap events_in_option c.in-Ok-None.field-0-is) c.in-Ok-None.ensures.moves

pub returns-in-Err-clause-moves : goal.returns-in-Err-clause-moves
returns-in-Err-clause-moves g c = moves_as g.S.EventSource.told g.S.EventSource.follows _ _ _ _ _ [] [] refl c.in-Err.ensures.empty c.in-Err.ensures.moves
