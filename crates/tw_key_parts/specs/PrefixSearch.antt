-- A search for lines of the history that begin as the line does.
use Rattle.std.specs.Prelude.{ℕ, ◌+◌, ◌-◌, ◌&&◌, Bool, true, false, not, List, [], ◌∷◌, take, codes, Option, Some, None, option_map, slice_get, if◌then◌else◌}
use Rattle.std.specs.Option.{is_some, option_and_then, option_map_or}
use Rattle.tw_line.specs.Extremes.{greatest_below, least_from}
use Rattle.tw_line.specs.NearestMatch.{last_index, line_at, next_index}
use Rattle.tw_line.specs.declared.history.SearchDirection.TheVariants.{Forwards}
use Rattle.tw_input.specs.declared.key.KeyCode.TheVariants.{PageUp, PageDown}
use Rattle.tw_input.specs.declared.key.KeyEvent.{KeyEvent}
use Rattle.tw_input.specs.EventView.{EventView}
use Rattle.tw_input.specs.Modifiers.{none, alt}
use Rattle.tw_line.specs.Cut.{Cut, at_end, cut_at}
use Rattle.tw_host.specs.KeyTable.{key_press, letter}
use Rattle.tw_hosts.specs.Words.{begins_with, is_same}
use Rattle.tw_key_parts.specs.KeyRules.{Asked, Edited, KeyRules, KeyStep, shown}
use Rattle.tw_key_parts.specs.Keys.{row_with_key}
use Rattle.tw_key_parts.specs.Recalled.{line_before_recall, older_index, recalled_kept}
use Rattle.tw_key_parts.specs.declared.prefix_search.PrefixKey.{PrefixKey}
use Rattle.tw_key_parts.specs.declared.prefix_search.PrefixKey.TheVariants.{Older, Newer, Oldest, Typed}
use Rattle.tw_key_parts.specs.declared.recalled.Recalled.{Recalled}

-- the keys, with the line that each shows
abbrev pub prefix_keys : List (KeyEvent × PrefixKey)
prefix_keys =
    (key_press none PageUp, Older)
    ∷ (key_press none PageDown, Newer)
    ∷ (key_press alt (letter (codes "<")), Oldest)
    ∷ (key_press alt (letter (codes ">")), Typed)
    ∷ []

-- the key of an event
abbrev pub prefix_key : EventView → Option PrefixKey
prefix_key event = row_with_key prefix_keys event

module _ (lines : List (List ℕ)) (cut : Cut) where
  -- whether the line at an index begins with what stands before the cursor, and is not the one that is shown
  abbrev pub is_prefix_match : ℕ → Bool
  is_prefix_match i = option_map_or (λ line. begins_with (take cut.cursor cut.line) line && not (is_same line cut.line)) (slice_get lines i) false

  -- such a line, with the cursor where it is, and its index
  abbrev pub prefix_match_at : ℕ → Cut × ℕ
  prefix_match_at i = (cut_at (line_at lines i) cut.cursor, i)

  -- the newest one up to an index, and the oldest one from an index on
  abbrev pub older_match : ℕ → Option (Cut × ℕ)
  older_match i = option_map prefix_match_at (greatest_below is_prefix_match (i + 1))

  abbrev pub newer_match : ℕ → Option (Cut × ℕ)
  newer_match i = option_map prefix_match_at (option_and_then (λ last. least_from is_prefix_match i (last + 1 - i)) (last_index lines))

-- the line that a key finds, and its index: the oldest line has the cursor at its end
abbrev pub found_by : PrefixKey → List (List ℕ) → Option Recalled → Cut → Option (Cut × ℕ)
found_by Older lines recalled cut = option_and_then (older_match lines cut) (older_index recalled lines)
found_by Newer lines recalled cut = option_and_then (λ recalled. option_and_then (newer_match lines cut) (next_index Forwards recalled.index)) recalled
found_by Oldest lines recalled cut = option_map (λ line. (at_end line, 0)) (slice_get lines 0)
found_by Typed lines recalled cut = None

-- whether a key that finds none leads back to the line before the search
abbrev pub leads_back : PrefixKey → Bool
leads_back Newer = true
leads_back Typed = true
leads_back _ = false

-- a line that is found stands in the line's place, and the search goes on from it; back at the line before, it is over
abbrev pub recalled_edit : Cut → Option (Cut × ℕ) → Bool → Option (Edited (Option Recalled))
recalled_edit before (Some found) back = Some (shown found.0 (Some (record { before = before; index = found.1 })))
recalled_edit before None back = if back then Some (shown before None) else None

-- what an event brings, but during a search of the editor's
abbrev pub prefix_edit : Option Recalled → Asked → Option (Edited (Option Recalled))
prefix_edit recalled asked =
    if asked.searching then None
    else option_and_then (λ key. recalled_edit (line_before_recall recalled asked.cut) (found_by key asked.lines recalled asked.cut) (is_some recalled && leads_back key)) (prefix_key asked.event)

abbrev pub recalled_after : Option Recalled → Option (Option Recalled) → KeyStep → Option Recalled
recalled_after recalled (Some new) step = new
recalled_after recalled None step = recalled_kept (is_some (prefix_key step.event)) step.action recalled

abbrev pub prefix_key_rules : KeyRules (Option Recalled) (Option Recalled)
prefix_key_rules = record { edits = prefix_edit; follows = recalled_after; leaves = λ recalled. None }
