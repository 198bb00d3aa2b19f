-- Keys for lines of several rows, which line feeds end.
use Rattle.std.specs.Prelude.{ℕ, ◌≡◌, ◌≢◌, ◌≤◌, ◌<◌, ◌+◌, ◌-◌, ◌==◌, Bool, true, false, leb, min, max, codes, List, [], ◌∷◌, length, slice_range, take, drop, map, chars, IsSomeAnd, Option, Some, None, option_map, unwrap_or, if◌then◌else◌}
use Rattle.std.specs.List.{list_any, position_or_len}
use Rattle.std.specs.Option.{option_and_then, option_flatten}
use Rattle.std.specs.Str.{encode_utf8_all}
use Rattle.tw_surface.specs.Characters.{lf}
use Rattle.tw_line.specs.Extremes.{least_from}
use Rattle.tw_input.specs.declared.key.KeyCode.TheVariants as keycode
use Rattle.tw_input.specs.declared.key.KeyEvent.{KeyEvent}
use Rattle.tw_input.specs.EventView.{EventView, Key, Paste}
use Rattle.tw_input.specs.Modifiers.{none, alt, ctrl}
use Rattle.tw_line.specs.Clusters.{is_cluster_boundary}
use Rattle.tw_line.specs.Cut.{Cut, cut_at}
use Rattle.tw_line.specs.Movements.{destination}
use Rattle.tw_line.specs.declared.movements.Movement.TheVariants as movement
use Rattle.tw_host.specs.ActionView.{ActionView, InsertChar, InsertText, Kill, KillAndMove, Move}
use Rattle.tw_host.specs.KeyTable.{key_press, letter}
use Rattle.tw_hosts.specs.Words.{end_row}
use Rattle.tw_key_parts.specs.ClusterSteps.{cluster_steps}
use Rattle.tw_key_parts.specs.KeyRules.{Asked, Edited, KeyRules, in_place}
use Rattle.tw_key_parts.specs.Keys.{row_with_key}
use Rattle.tw_key_parts.specs.WordEdits.{passed_text}
use Rattle.tw_key_parts.specs.Ring.{killing}
use Rattle.tw_key_parts.specs.declared.row_keys.RowKey.{RowKey}
use Rattle.tw_key_parts.specs.declared.row_keys.RowKey.TheVariants.{Break, ToRow, ToEdge, KillToEnd}
use Rattle.tw_key_parts.specs.declared.steps.Way.{Way}
use Rattle.tw_key_parts.specs.declared.steps.Way.TheVariants.{Back, Ahead}

-- ---- the keys

-- kills to the end of the row
abbrev pub kill_key : KeyEvent
kill_key = key_press ctrl (letter (codes "K"))

-- the keys with what they do in a line of several rows
abbrev pub row_keys : List (KeyEvent × RowKey)
row_keys =
    (key_press alt keycode.Enter, Break)
    ∷ (key_press none keycode.UpArrow, ToRow Back)
    ∷ (key_press none keycode.ApplicationUpArrow, ToRow Back)
    ∷ (key_press ctrl (letter (codes "P")), ToRow Back)
    ∷ (key_press none keycode.DownArrow, ToRow Ahead)
    ∷ (key_press none keycode.ApplicationDownArrow, ToRow Ahead)
    ∷ (key_press ctrl (letter (codes "N")), ToRow Ahead)
    ∷ (key_press none keycode.Home, ToEdge Back)
    ∷ (key_press ctrl (letter (codes "A")), ToEdge Back)
    ∷ (key_press none keycode.End, ToEdge Ahead)
    ∷ (key_press ctrl (letter (codes "E")), ToEdge Ahead)
    ∷ (kill_key, KillToEnd)
    ∷ []

-- the key of an event
abbrev pub row_key : EventView → Option RowKey
row_key event = row_with_key row_keys event

-- ---- the rows of a line

-- where the row of an offset begins: where the last row before it does
abbrev pub row_start : List ℕ → ℕ → ℕ
row_start line at = let front = take at line in length front - length (end_row front)

-- where it ends: at the next line feed, or with the line
abbrev pub row_end : List ℕ → ℕ → ℕ
row_end line at = min (at + position_or_len (λ byte. byte == lf) (drop at line)) (length line)

-- ---- steps by grapheme clusters

-- whether an offset is this one, or further on the way
abbrev pub has_reached : Way → ℕ → ℕ → Bool
has_reached Back to at = leb at to
has_reached Ahead to at = leb to at

-- whether `count` steps from the cursor reach an offset
abbrev pub is_reached_by : Way → ℕ → Cut → ℕ → Bool
is_reached_by way to cut count = has_reached way to (destination (cluster_steps way count) cut)

-- the least number of steps from the cursor that reach an offset
abbrev pub steps_to : Way → ℕ → Cut → ℕ
steps_to way to cut = unwrap_or (least_from (is_reached_by way to cut) 0 (length cut.line)) (length cut.line)

-- ---- what the keys do

-- in each row but the first its start, in each row but the last its end
abbrev pub edge_of_row : Way → Cut → Option ℕ
edge_of_row Back cut = let start = row_start cut.line cut.cursor in if start == 0 then None else Some start
edge_of_row Ahead cut = let end = row_end cut.line cut.cursor in if end == length cut.line then None else Some end

-- where the row above or below begins, from that edge
abbrev pub row_beside : Way → List ℕ → ℕ → ℕ
row_beside Back line start = row_start line (start - 1)
row_beside Ahead line end = end + 1

-- the place `column` steps after the start of the row above or below, or the end of a shorter row, if there is such a row
abbrev pub place_beside : Way → ℕ → Cut → Option ℕ
place_beside way column cut =
    let place : ℕ → ℕ = λ start. min (destination (movement.ForwardChar column) (cut_at cut.line start)) (row_end cut.line start) in
    option_map (λ edge. place (row_beside way cut.line edge)) (edge_of_row way cut)

-- the cursor goes back, or ahead, to an offset
abbrev pub move_to : Way → Option ℕ → Cut → Option ActionView
move_to way to cut = option_map (λ to. Move (cluster_steps way (steps_to way to cut))) to

-- the kill of `count` clusters that way
abbrev pub cluster_kill : Way → ℕ → ActionView
cluster_kill Back count = Kill (movement.BackwardChar count)
cluster_kill Ahead count = KillAndMove (movement.ForwardChar count) movement.None

-- the row is killed to that edge, and at the edge the line feed there
abbrev pub killed_to_edge : Way → Cut → Option ActionView
killed_to_edge way cut = option_map (λ edge. cluster_kill way (max (steps_to way edge cut) 1)) (edge_of_row way cut)

-- the rest of the row, in each row but the last
abbrev pub killed_to_end : Cut → Option ActionView
killed_to_end cut = killed_to_edge Ahead cut

-- the column that a run of Up and Down keeps, or else the number of steps from the cursor back to the start of its row
abbrev pub goal_column : Option ℕ → Cut → ℕ
goal_column goal cut = unwrap_or goal (steps_to Back (row_start cut.line cut.cursor) cut)

-- the edit of a key, and the column that it keeps
abbrev pub edit_by : RowKey → Option ℕ → Cut → Option (Edited (Option ℕ))
edit_by Break goal cut = in_place (Some (InsertChar 1 lf)) None
edit_by (ToRow way) goal cut = let column = goal_column goal cut in in_place (move_to way (place_beside way column cut) cut) (Some column)
edit_by (ToEdge way) goal cut = in_place (move_to way (edge_of_row way cut) cut) None
edit_by KillToEnd goal cut = in_place (killed_to_end cut) None

-- whether a line feed stands in a text
abbrev pub has_rows : List ℕ → Bool
has_rows text = list_any (λ b. b == lf) text

-- a text with a space for each line feed
abbrev pub in_one_row : List ℕ → List ℕ
in_one_row text = encode_utf8_all (map (λ c. if c == lf then 32 else c) (chars text))

-- during a search a pasted text of several rows is joined
abbrev pub edit_of_pattern : EventView → Option (Edited (Option ℕ))
edit_of_pattern (Paste text) = if has_rows text then in_place (Some (InsertText 1 (in_one_row text))) None else None
edit_of_pattern _ = None

-- the keys edit, but during a search
abbrev pub row_key_edit : Option ℕ → Asked → Option (Edited (Option ℕ))
row_key_edit goal asked = if asked.searching then edit_of_pattern asked.event else option_and_then (λ key. edit_by key goal asked.cut) (row_key asked.event)

-- Up and Down keep the column; all else forgets it
abbrev pub row_key_rules : KeyRules (Option ℕ) (Option ℕ)
row_key_rules = record { edits = row_key_edit; follows = λ goal kept step. option_flatten kept; leaves = λ goal. None }

-- ---- laws

-- the steps to a cluster boundary on the way lead there
abbrev pub StepsLeadThere : Type 0
StepsLeadThere = (way : Way) (to : ℕ) (cut : Cut) → cut.cursor ≤ length cut.line → to ≤ length cut.line → is_cluster_boundary cut.line to ≡ true
    → has_reached way cut.cursor to ≡ true → destination (cluster_steps way (steps_to way to cut)) cut ≡ to

-- the ring keeps the rest of the row that Ctrl-K kills, if a cluster boundary stands at its end
abbrev pub RowKillIsKept : Type 0
RowKillIsKept = (cut : Cut) → let end = row_end cut.line cut.cursor in
    cut.cursor < end → end < length cut.line → is_cluster_boundary cut.line end ≡ true
    → IsSomeAnd (killed_to_end cut) (λ action. IsSomeAnd (killing (Key kill_key) (Some action)) (λ m. passed_text m cut ≡ slice_range cut.line cut.cursor end))

-- whether an event has a line feed
abbrev pub brings_rows : EventView → Bool
brings_rows (Paste text) = has_rows text
brings_rows _ = false

-- a line without a line feed is left to the other keys, but for the key that begins a row and a pasted text of several
-- rows
abbrev pub OneRowIsLeft : Type 0
OneRowIsLeft = (goal : Option ℕ) (asked : Asked) → has_rows asked.cut.line ≡ false → brings_rows asked.event ≡ false
    → row_key asked.event ≢ Some Break → row_key_edit goal asked ≡ None
