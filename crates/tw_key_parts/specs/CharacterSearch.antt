-- A search for a character of the line, by a key and the character.
use Rattle.std.specs.Prelude.{ℕ, ◌==◌, Bool, false, List, drop, length, codes, Option, Some, None, option_map, slice_get, unwrap_or, bit_or, if◌then◌else◌}
use Rattle.std.specs.Option.{option_and_then}
use Rattle.std.specs.Str.{chars}
use Rattle.tw_input.specs.EventView.{EventView, Key, Resized, Wake}
use Rattle.tw_input.specs.Modifiers.{alt, ctrl}
use Rattle.tw_line.specs.Cut.{Cut}
use Rattle.tw_line.specs.Extremes.{least_from}
use Rattle.tw_line.specs.Movements.{destination}
use Rattle.tw_host.specs.ActionView.{ActionView, InsertChar, Move, NoAction}
use Rattle.tw_host.specs.KeyTable.{action_of, key_press, letter}
use Rattle.tw_key_parts.specs.ClusterSteps.{cluster_steps}
use Rattle.tw_key_parts.specs.KeyRules.{Asked, Edited, KeyRules, KeyStep, in_place}
use Rattle.tw_key_parts.specs.Keys.{is_key}
use Rattle.tw_key_parts.specs.declared.steps.Way.{Way}
use Rattle.tw_key_parts.specs.declared.steps.Way.TheVariants.{Back, Ahead}

-- the way of a search that an event begins
abbrev pub search_way : EventView → Option Way
search_way event =
    if is_key (key_press ctrl (letter (codes "]"))) event then Some Ahead
    else if is_key (key_press (bit_or ctrl alt) (letter (codes "]"))) event then Some Back
    else None

-- the character that an action types
abbrev pub typed_by : Option ActionView → Option ℕ
typed_by (Some (InsertChar r c)) = Some c
typed_by _ = None

-- whether a text begins with a character
abbrev pub begins_with_character : ℕ → List ℕ → Bool
begins_with_character c text = unwrap_or (option_map (λ first. first == c) (slice_get (chars text) 0)) false

-- whether it stands where `count` steps lead
abbrev pub is_character_after : Way → ℕ → Cut → ℕ → Bool
is_character_after way c cut count = begins_with_character c (drop (destination (cluster_steps way count) cut) cut.line)

-- the least number of steps, from 1 on, that lead to it
abbrev pub steps_to_character : Way → ℕ → Cut → Option ℕ
steps_to_character way c cut = least_from (is_character_after way c cut) 1 (length cut.line)

-- the move to it, or nothing
abbrev pub move_to_character : Way → Cut → ℕ → ActionView
move_to_character way cut c = unwrap_or (option_map (λ count. Move (cluster_steps way count)) (steps_to_character way c cut)) NoAction

-- the edit of a character that is typed after the key of a search, but during a search of the history
abbrev pub character_search_edit : Option Way → Asked → Option (Edited (Unit {0}))
character_search_edit way asked =
    let searched = option_and_then (λ way. option_map (move_to_character way asked.cut) (typed_by (action_of asked.event))) way in
    if asked.searching then None else in_place searched tt

-- the way of the search that goes on after an event, which no other key does
abbrev pub way_after : EventView → Option ActionView → Option Way → Option Way
way_after (Key key) None way = search_way (Key key)
way_after (Resized cols rows) None way = way
way_after Wake None way = way
way_after event action way = None

-- the way after a step; its own edit ends the search
abbrev pub character_search_after : Option Way → Option (Unit {0}) → KeyStep → Option Way
character_search_after way (Some own) step = None
character_search_after way None step = way_after step.event step.action way

abbrev pub character_search_rules : KeyRules (Option Way) (Unit {0})
character_search_rules = record { edits = character_search_edit; follows = character_search_after; leaves = λ way. None }
