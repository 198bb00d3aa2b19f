-- The keys so far and those of the characters that are left are the keys of the whole text.
use Rattle.std.proofs.Common.{◌≡◌, ◌++◌, map}
use Rattle.std.specs.Str.{IsUtf8}
use Rattle.std.specs.Str.Iter.{chars_rest}
use Rattle.tw_input.specs.EventView.{event_view}
use Rattle.script_player.specs.Events.{typed_keys}
use Rattle.script_player.proofs.events.push_typed.Given as goal

abbrev pub invariant-loop-character : goal.invariant-loop-character
invariant-loop-character l =
    let rest = chars_rest l.character-iterator in
    record {
      utf8 : IsUtf8 rest;
      keys : map event_view l.events.items ++ typed_keys rest ≡ map event_view l.fn.events.items ++ typed_keys l.text;
    }
