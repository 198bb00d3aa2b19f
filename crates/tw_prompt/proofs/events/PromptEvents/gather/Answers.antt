use Rattle.std.proofs.Common.{◌++◌, ◌∷◌, ◌∙◌, [], map, string_bytes, refl, ap, sym, append-nil, append_assoc}
use Rattle.std.specs.Prelude.{encode_utf8, encode_utf8_all}
use Rattle.tw_input.specs.EventView.{event_view}
use Rattle.tw_prompt.specs.Joined.{keys_of, pending_events, key_of_character}
use Rattle.tw_prompt.proofs.JoinedLemmas.{keys_more, moves_as, moves_back, moves_nothing, moves_of, moves_then, bytes_more, text_more}
use Rattle.tw_prompt.proofs.events.PromptEvents.gather.Goals as goal

pub loop-turn-init : goal.loop-turn-init
loop-turn-init g c = record {
  moves = ([], refl, sym (append-nil (string_bytes c.args.run.now)), moves_nothing g.S.EventSource.told g.S.EventSource.follows c.args.self.now.source (pending_events c.args.self.now.pending));
  joins = refl;
  wakes = refl;
  told = refl;
}

pub loop-turn-preserved : goal.loop-turn-preserved
loop-turn-preserved g c =
    let told = g.S.EventSource.told in
    let follows = g.S.EventSource.follows in
    let inv = c.loop-turn.invariant in
    let more = inv.moves.0 in
    let one = c.in-Some.c in
    let moves = moves_then told follows _ _ _ _ _ _ (map key_of_character more) (key_of_character one ∷ []) inv.moves.3 c.in-Some.ensures.moves in
    record {
      moves = (
        more ++ one ∷ [],
        text_more more one inv.moves.1 c.in-Some.ensures.text.0,
        c.in-Ok.ensures.bytes ∙ ap (λ bytes. bytes ++ encode_utf8 one) inv.moves.2
            ∙ append_assoc (string_bytes c.args.run.now) (encode_utf8_all more) (encode_utf8 one)
            ∙ ap (λ bytes. string_bytes c.args.run.now ++ bytes) (bytes_more more one),
        moves_of told follows _ _ _ _ _ (map key_of_character (more ++ one ∷ [])) (sym (keys_more more one)) moves,
      );
      joins = c.next_character.ensures.joins ∙ inv.joins;
      wakes = c.next_character.ensures.wakes ∙ inv.wakes;
      told = c.next_character.ensures.told ∙ inv.told;
    }

pub returns-in_default-clause-moves : goal.returns-in_default-clause-moves
returns-in_default-clause-moves g c =
    let told = g.S.EventSource.told in
    let follows = g.S.EventSource.follows in
    let inv = c.loop-turn.invariant in
    let more = inv.moves.0 in
    let moves = moves_then told follows _ _ _ _ _ _ (map key_of_character more) (keys_of c.next_character.result) inv.moves.3 c.next_character.ensures.moves in (
      more,
      inv.moves.1,
      inv.moves.2,
      moves_of told follows _ _ _ _ _ (map key_of_character more)
          (ap (λ o. map key_of_character more ++ keys_of o) c.in_default.is ∙ append-nil (map key_of_character more)) moves,
    )

pub returns-in-Err-clause-moves : goal.returns-in-Err-clause-moves
returns-in-Err-clause-moves g c =
    let told = g.S.EventSource.told in
    let follows = g.S.EventSource.follows in
    let inv = c.loop-turn.invariant in
    let more = inv.moves.0 in
    let one = c.in-Some.c in
    let moves = moves_then told follows _ _ _ _ _ _ (map key_of_character more) (key_of_character one ∷ []) inv.moves.3 c.in-Some.ensures.moves in
    let back = event_view c.key_of_character.result ∷ [] in
    let same = moves_of told follows _ _ _ _ _ (map key_of_character more ++ back) (ap (λ e. map key_of_character more ++ e ∷ []) (sym c.key_of_character.ensures)) moves in
    let empty = moves_as told follows _ _ _ _ _ [] (map key_of_character more ++ back) refl c.in-Some.ensures.text.1 same in
    (more, inv.moves.1, c.in-Err.ensures.bytes ∙ inv.moves.2, moves_back told follows _ _ _ (map key_of_character more) back empty)
