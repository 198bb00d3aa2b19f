-- The pattern of the last search, and how it comes back.
use Rattle.std.specs.Prelude.{ℕ, ◌==◌, ◌&&◌, ◌||◌, Bool, true, not, List, length, codes, Option, Some, None, if◌then◌else◌}
use Rattle.tw_input.specs.EventView.{EventView}
use Rattle.tw_input.specs.Modifiers.{ctrl}
use Rattle.tw_host.specs.ActionView.{InsertText}
use Rattle.tw_host.specs.KeyTable.{key_press, letter}
use Rattle.tw_key_parts.specs.KeyRules.{Asked, Edited, KeyRules, KeyStep}
use Rattle.tw_key_parts.specs.Keys.{is_key}
use Rattle.tw_key_parts.specs.SearchWatch.{searches_after}

-- searches: Ctrl-R or Ctrl-S
abbrev pub is_search_key : EventView → Bool
is_search_key event = is_key (key_press ctrl (letter (codes "R"))) event || is_key (key_press ctrl (letter (codes "S"))) event

-- whether a search has no pattern yet, there is one from before, and its key asks for it
abbrev pub takes_pattern : List ℕ → Asked → Bool
takes_pattern pattern asked =
    asked.searching && ((length asked.cut.line == 0) && (is_search_key asked.event && not (length pattern == 0)))

-- the edit of an event: the pattern from before is typed
abbrev pub last_pattern_edit : List ℕ → Asked → Option (Edited (Unit {0}))
last_pattern_edit pattern asked =
    if takes_pattern pattern asked then Some (record { cut = None; action = InsertText 1 pattern; kept = tt }) else None

-- whether a step ends a search that has a pattern
abbrev pub ends_with_pattern : KeyStep → Bool
ends_with_pattern step = step.searching && (not (searches_after true step.action true) && not (length step.before.line == 0))

-- the pattern after a step
abbrev pub last_pattern_after : List ℕ → KeyStep → List ℕ
last_pattern_after pattern step = if ends_with_pattern step then step.before.line else pattern

abbrev pub last_pattern_rules : KeyRules (List ℕ) (Unit {0})
last_pattern_rules = record { edits = last_pattern_edit; follows = λ pattern own step. last_pattern_after pattern step; leaves = λ pattern. pattern }
