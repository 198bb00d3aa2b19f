use Rattle.std.proofs.Common.{◌≡◌, ◌++◌, ◌∷◌, ◌∙◌, [], true, map, refl, ap, sym, subst}
use Rattle.std.proofs.lemmas.Result.{err_from_is_err_and}
use Rattle.tw_input.specs.EventView.{event_view}
use Rattle.tw_device.specs.Told.{answer_events, events_in_option}
use Rattle.tw_prompt.specs.Joined.{IsRight, Single, pending_events, piece_events, key_of_character}
use Rattle.tw_prompt.proofs.JoinedLemmas.{moves_nothing, moves_of, moves_then, pieced_more, pieced_nothing, character_is, run_piece, run_right, run_told, run_typed, told_more}
use Rattle.tw_prompt.proofs.events.PromptEvents.find.Goals as goal

pub loop-turn-init : goal.loop-turn-init
loop-turn-init g c = record {
  pieces = ([], refl, (tt, moves_nothing g.S.EventSource.told g.S.EventSource.follows c.args.self.now.source (pending_events c.args.self.now.pending)));
  joins = refl;
  wakes = refl;
  told = refl;
}

pub returns-in_err-event-clause-pieces : goal.returns-in_err-event-clause-pieces
returns-in_err-event-clause-pieces g c =
    let inv = c.loop-turn.invariant.pieces in
    let p = err_from_is_err_and c.from_residual.result c.from_residual.ensures.1 in
    (inv.0, ap answer_events p.1 ∙ sym inv.1, pieced_nothing g.S.EventSource.told g.S.EventSource.follows c.args.self.now.joins _ _ _ _ _ _ inv.0 inv.2 c.in_err-event.ensures.moves)

pub returns-in_default-clause-pieces : goal.returns-in_default-clause-pieces
returns-in_default-clause-pieces g c =
    let told = g.S.EventSource.told in
    let follows = g.S.EventSource.follows in
    let inv = c.loop-turn.invariant.pieces in
    let moves = moves_of told follows _ _ _ _ (events_in_option c.in_ok-event.field-0) [] (ap events_in_option c.in_default.is) c.in_ok-event.ensures.moves in
    (inv.0, sym inv.1, pieced_nothing told follows c.args.self.now.joins _ _ _ _ _ _ inv.0 inv.2 moves)

pub returns-in-true-Some-clause-pieces : goal.returns-in-true-Some-clause-pieces
returns-in-true-Some-clause-pieces g c =
    let told = g.S.EventSource.told in
    let follows = g.S.EventSource.follows in
    let inv = c.loop-turn.invariant.pieces in
    let first = c.in-true-Some.c in
    let more = c.joined.ensures.moves.0 in
    let piece = run_piece first more in
    let key = character_is (event_view c.in-Some.event) first (sym c.character_in.ensures ∙ c.in-true-Some.is-1) in
    let one = moves_of told follows _ _ _ _ (events_in_option c.in_ok-event.field-0) (key_of_character first ∷ []) (ap events_in_option c.in-Some.is ∙ ap (λ e. e ∷ []) key.0) c.in_ok-event.ensures.moves in
    let both = moves_then told follows _ _ _ _ _ _ (key_of_character first ∷ []) (map key_of_character more) one c.joined.ensures.moves.3 in
    let moves = moves_of told follows _ _ _ _ (key_of_character first ∷ map key_of_character more) (piece_events piece) (sym (run_typed first more)) both in
    let may : c.args.self.now.joins ≡ true = sym c.loop-turn.invariant.joins ∙ sym c.next_typed.ensures.joins ∙ c.in-true-Some.is-0 in
    let right = subst (λ b. IsRight b piece) (sym may) (run_right first more key.1 c.joined.ensures.moves.1) in (
      inv.0 ++ piece ∷ [],
      sym (told_more inv.0 piece inv.1 ∙ run_told first more ∙ ap (λ e. e ∷ []) (sym c.joined.ensures.moves.2)),
      pieced_more told follows c.args.self.now.joins _ _ _ _ _ _ inv.0 inv.2 piece right moves,
    )

pub returns-in-Some-fitted-clause-pieces : goal.returns-in-Some-fitted-clause-pieces
returns-in-Some-fitted-clause-pieces g c =
    let told = g.S.EventSource.told in
    let follows = g.S.EventSource.follows in
    let inv = c.loop-turn.invariant.pieces in
    let piece = Single (event_view c.in-Some.event) in
    let moves = moves_of told follows _ _ _ _ (events_in_option c.in_ok-event.field-0) (event_view c.in-Some.event ∷ []) (ap events_in_option c.in-Some.is) c.in_ok-event.ensures.moves in (
      inv.0 ++ piece ∷ [],
      sym (told_more inv.0 piece inv.1 ∙ c.fitted.ensures ∙ ap events_in_option c.in-Some-fitted.is),
      pieced_more told follows c.args.self.now.joins _ _ _ _ _ _ inv.0 inv.2 piece tt moves,
    )

pub loop-turn-preserved : goal.loop-turn-preserved
loop-turn-preserved g c =
    let told = g.S.EventSource.told in
    let follows = g.S.EventSource.follows in
    let inv = c.loop-turn.invariant.pieces in
    let piece = Single (event_view c.in-Some.event) in
    let moves = moves_of told follows _ _ _ _ (events_in_option c.in_ok-event.field-0) (event_view c.in-Some.event ∷ []) (ap events_in_option c.in-Some.is) c.in_ok-event.ensures.moves in
    record {
      pieces = (
        inv.0 ++ piece ∷ [],
        told_more inv.0 piece inv.1 ∙ c.fitted.ensures ∙ ap events_in_option c.in_default-fitted.is,
        pieced_more told follows c.args.self.now.joins _ _ _ _ _ _ inv.0 inv.2 piece tt moves,
      );
      joins = c.next_typed.ensures.joins ∙ c.loop-turn.invariant.joins;
      wakes = c.next_typed.ensures.wakes ∙ c.loop-turn.invariant.wakes;
      told = c.next_typed.ensures.told ∙ c.loop-turn.invariant.told;
    }
