-- The lines of the history as they were left while a line is read.
use Rattle.std.specs.Prelude.{⊤, ℕ, zero, suc, ◌<◌, ◌+◌, ◌==◌, ◌||◌, Bool, true, false, nat_lt, List, [], ◌∷◌, length, map, codes, string_bytes, Option, Some, None, option_map, slice_get, unwrap_or, if◌then◌else◌, ◌≡◌}
use Rattle.std.specs.List.{find}
use Rattle.std.specs.Option.{option_and_then, option_map_or, option_or}
use Rattle.tw_line.specs.Extremes.{greatest_below}
use Rattle.tw_line.specs.NearestMatch.{last_index}
use Rattle.tw_line.specs.Cut.{Cut, at_end}
use Rattle.tw_line.specs.declared.movements.Movement.TheVariants as movement
use Rattle.tw_input.specs.declared.key.KeyCode.TheVariants.{UpArrow, DownArrow, ApplicationUpArrow, ApplicationDownArrow}
use Rattle.tw_input.specs.declared.key.KeyEvent.{KeyEvent}
use Rattle.tw_input.specs.EventView.{EventView}
use Rattle.tw_input.specs.Modifiers.{none, alt, ctrl}
use Rattle.tw_host.specs.ActionView.{Move}
use Rattle.tw_host.specs.KeyTable.{key_press, letter}
use Rattle.tw_hosts.specs.Words.{is_same}
use Rattle.tw_key_parts.specs.KeyRules.{Asked, Edited, KeyRules, KeyStep, shown}
use Rattle.tw_key_parts.specs.Keys.{row_with_key}
use Rattle.tw_key_parts.specs.declared.edited_lines.EditedLine.{EditedLine}
use Rattle.tw_key_parts.specs.declared.edited_lines.EditedLines.{EditedLines}
use Rattle.tw_key_parts.specs.declared.edited_lines.WalkStep.{WalkStep}
use Rattle.tw_key_parts.specs.declared.edited_lines.WalkKey.{WalkKey}
use Rattle.tw_key_parts.specs.declared.edited_lines.WalkKey.TheVariants.{Older, Newer, Original}

-- ---- the keys

-- the keys with the line that they show
abbrev pub walk_keys : List (KeyEvent × WalkKey)
walk_keys =
    (key_press none UpArrow, Older)
    ∷ (key_press none ApplicationUpArrow, Older)
    ∷ (key_press ctrl (letter (codes "P")), Older)
    ∷ (key_press none DownArrow, Newer)
    ∷ (key_press none ApplicationDownArrow, Newer)
    ∷ (key_press ctrl (letter (codes "N")), Newer)
    ∷ (key_press alt (letter (codes "r")), Original)
    ∷ []

-- the key of an event
abbrev pub walk_key : EventView → Option WalkKey
walk_key event = row_with_key walk_keys event

-- ---- the lines

-- the place of a line is its index, and none that of the typed line
abbrev pub is_same_place : Option ℕ → Option ℕ → Bool
is_same_place None None = true
is_same_place (Some i) (Some j) = i == j
is_same_place _ _ = false

-- a line that was left, with its place
pub record LeftLine : Type 0 where
  pub place : Option ℕ
  pub text : List ℕ

-- the place of the line that is shown, whether a search was on since it came in, and the edited lines, those that were
-- left last first
pub record Walk : Type 0 where
  pub place : Option ℕ
  pub searched : Bool
  pub edited : List LeftLine

-- the views of an edited line and of the part
abbrev pub edited_view : EditedLine → LeftLine
edited_view line = record { place = line.place; text = string_bytes line.text }

abbrev pub walk_view : EditedLines → Walk
walk_view it = record { place = it.place; searched = it.searched; edited = map edited_view it.edited.items }

-- no walk
abbrev pub no_walk : Walk
no_walk = record { place = None; searched = false; edited = [] }

-- the line of a place as the history has it; the typed line was empty
abbrev pub original : List (List ℕ) → Option ℕ → List ℕ
original lines place = unwrap_or (option_and_then (slice_get lines) place) []

-- the text of the first of some lines that has a place
abbrev pub text_at : List EditedLine → Option ℕ → Option (List ℕ)
text_at edited place = option_map (λ (line : EditedLine). string_bytes line.text) (find (λ (line : EditedLine). is_same_place line.place place) edited)

-- the text that was left at a place last, if one was
abbrev pub text_left : List LeftLine → Option ℕ → Option (List ℕ)
text_left edited place = option_map (λ (line : LeftLine). line.text) (find (λ (line : LeftLine). is_same_place line.place place) edited)

-- the line of a place as it was left
abbrev pub line_left : List (List ℕ) → List LeftLine → Option ℕ → List ℕ
line_left lines edited place = unwrap_or (text_left edited place) (original lines place)

-- whether the line of an index is this one
abbrev pub is_line_at : List (List ℕ) → List ℕ → ℕ → Bool
is_line_at lines line i = option_map_or (λ other. is_same other line) (slice_get lines i) false

-- the newest line that is, up to an index, and in all of the history
abbrev pub newest_up_to : List (List ℕ) → List ℕ → ℕ → Option ℕ
newest_up_to lines line i = greatest_below (is_line_at lines line) (i + 1)

abbrev pub newest_index : List (List ℕ) → List ℕ → Option ℕ
newest_index lines line = option_and_then (newest_up_to lines line) (last_index lines)

-- the place of the line that is shown: after a search that of the newest line that is the same
abbrev pub walk_place : Walk → List (List ℕ) → List ℕ → Option ℕ
walk_place walk lines line = if walk.searched then option_or (newest_index lines line) walk.place else walk.place

-- the place to which a key leads
abbrev pub place_led_to : WalkKey → List (List ℕ) → Option ℕ → Option (Option ℕ)
place_led_to Older lines None = option_map Some (last_index lines)
place_led_to Older lines (Some zero) = None
place_led_to Older lines (Some (suc i)) = Some (Some i)
place_led_to Newer lines None = None
place_led_to Newer lines (Some i) = Some (if nat_lt (i + 1) (length lines) then Some (i + 1) else None)
place_led_to Original lines place = None

-- ---- what a walk does

-- where a step leads, and the line that it left, if it was edited
pub record Walked : Type 0 where
  pub to : Option ℕ
  pub left : Option LeftLine

abbrev pub walked_view : WalkStep → Walked
walked_view step = record { to = step.to; left = option_map edited_view step.left }

-- the line of a place, if it is another one than was left there
abbrev pub edit_left : List (List ℕ) → List LeftLine → Option ℕ → List ℕ → Option LeftLine
edit_left lines edited place line = if is_same line (line_left lines edited place) then None else Some (record { place = place; text = line })

-- the line of another place is shown as it was left; where there is none all stays, and a completion ends
abbrev pub walked : Walk → List (List ℕ) → Option ℕ → Cut → Option (Option ℕ) → Edited Walked
walked walk lines place cut (Some to) = shown (at_end (line_left lines walk.edited to)) (record { to = to; left = edit_left lines walk.edited place cut.line })
walked walk lines place cut None = record { cut = None; action = Move movement.None; kept = record { to = place; left = None } }

-- what a key shows
abbrev pub walked_by : WalkKey → Walk → List (List ℕ) → Option ℕ → Cut → Edited Walked
walked_by Original walk lines place cut = shown (at_end (original lines place)) (record { to = place; left = None })
walked_by key walk lines place cut = walked walk lines place cut (place_led_to key lines place)

-- the edit of an event, but during a search
abbrev pub walk_edit : Walk → Asked → Option (Edited Walked)
walk_edit walk asked =
    if asked.searching then None
    else option_map (λ key. walked_by key walk asked.lines (walk_place walk asked.lines asked.cut.line) asked.cut) (walk_key asked.event)

-- the edited lines with one more, if there is one
abbrev pub with_left : Option LeftLine → List LeftLine → List LeftLine
with_left None edited = edited
with_left (Some line) edited = line ∷ edited

-- a step of the walk keeps the line that it left, and all others that a search is on
abbrev pub walk_follows : Walk → Option Walked → KeyStep → Walk
walk_follows walk (Some own) step = record { place = own.to; searched = false; edited = with_left own.left walk.edited }
walk_follows walk None step = record walk { searched = walk.searched || step.searching }

abbrev pub walk_key_rules : KeyRules Walk Walked
walk_key_rules = record { edits = walk_edit; follows = walk_follows; leaves = λ walk. no_walk }

-- ---- laws

-- a line that is left comes back as it was left, and all others stay
abbrev pub LineIsKept : Type 0
LineIsKept = (lines : List (List ℕ)) (edited : List LeftLine) (place other : Option ℕ) (line : List ℕ) →
    line_left lines (with_left (edit_left lines edited place line) edited) other ≡ (if is_same_place place other then line else line_left lines edited other)

-- a place has a line
abbrev pub IsPlace : List (List ℕ) → Option ℕ → Type 0
IsPlace lines None = ⊤
IsPlace lines (Some i) = i < length lines

-- so a step to the line before, and one back, show the line that was left, whatever was made of the line before
abbrev pub StepBackIsUndone : Type 0
StepBackIsUndone = (walk : Walk) (lines : List (List ℕ)) (cut other : Cut) (to : Option ℕ) (step : KeyStep) → let place = walk_place walk lines cut.line in
    IsPlace lines place → place_led_to Older lines place ≡ Some to
    → let there = walk_follows walk (Some (walked_by Older walk lines place cut).kept) step in
    (walked_by Newer there lines (walk_place there lines other.line) other).cut ≡ Some (at_end cut.line)
