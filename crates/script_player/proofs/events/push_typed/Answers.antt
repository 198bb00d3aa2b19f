use Rattle.std.proofs.Common.{◌++◌, ◌∷◌, [], map, sym, ap, ◌∙◌, append_assoc, append-nil}
use Rattle.std.proofs.lemmas.List.{map-append, nil_from_length}
use Rattle.std.proofs.lemmas.Str.{IsUtf8-past_char, chars_past_char, chars-nil}
use Rattle.std.specs.Str.{chars}
use Rattle.std.specs.Str.Iter.{chars_rest}
use Rattle.tw_input.specs.EventView.{event_view}
use Rattle.script_player.specs.Events.{typed_key, typed_keys}
use Rattle.script_player.proofs.events.push_typed.Goals as goal

pub loop-character-preserved : goal.loop-character-preserved
loop-character-preserved c =
    let inv = c.loop-character.invariant in
    let split = c.in-Some.ensures.steps.0 in
    let rest = chars_rest c.next.new.self in
    let before = map event_view c.loop-character.events.items in
    record {
      utf8 = IsUtf8-past_char _ rest _ inv.utf8 split;
      keys =
          ap (λ items. map event_view items ++ typed_keys rest) c.in_ok-push.ensures.items
          ∙ ap (λ keys. keys ++ typed_keys rest) (map-append event_view c.loop-character.events.items _)
          ∙ append_assoc before (typed_key c.in-Some.character ∷ []) (typed_keys rest)
          ∙ ap (λ cs. before ++ map typed_key cs) (sym (chars_past_char _ rest _ inv.utf8 split)) ∙ inv.keys;
    }

pub returns : goal.returns
returns c =
    let inv = c.loop-character.invariant in
    let before = map event_view c.loop-character.events.items in
    let none = ap chars (nil_from_length _ c.in-None.ensures.steps.0.0) ∙ chars-nil in
    sym (append-nil before) ∙ ap (λ cs. before ++ map typed_key cs) (sym none) ∙ inv.keys
