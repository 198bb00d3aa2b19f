-- What was killed, and how it comes back.
use Rattle.std.specs.Prelude.{ℕ, ◌≡◌, ◌≤◌, ◌<◌, ◌+◌, ◌-◌, ◌==◌, ◌&&◌, ◌||◌, nat_lt, Bool, not, List, [], ◌∷◌, ◌++◌, length, take, drop, map, eqb, codes, string_bytes, Option, Some, None, option_map, if◌then◌else◌, slice_get, ◌≢◌, false, min, max, IsSomeAnd}
use Rattle.std.specs.Option.{option_and_then}
use Rattle.std.specs.String.{string_capacity}
use Rattle.std.specs.Vec.{vec_capacity, vec_len}
use Rattle.std.specs.List.{ends_with, remove_range, slice_index_or}
use Rattle.tw_input.specs.EventView.{EventView, Key}
use Rattle.tw_input.specs.Modifiers.{alt}
use Rattle.tw_line.specs.Cut.{Cut, cut_at}
use Rattle.tw_line.specs.Movements.{destination}
use Rattle.tw_line.specs.declared.movements.Movement.{Movement}
use Rattle.tw_host.specs.ActionView.{ActionView, InsertText, Kill, KillAndMove}
use Rattle.tw_host.specs.KeyTable.{key_press, letter}
use Rattle.std.specs.Cmp.Lexicographic.{pointwise}
use Rattle.tw_key_parts.specs.KeyRules.{Edited, KeyRules, KeyStep, step_of}
use Rattle.tw_key_parts.specs.Keys.{deletes_character, is_key, yank_key}
use Rattle.tw_key_parts.specs.WordEdits.{passed_text}
use Rattle.tw_key_parts.specs.declared.ring.KillRing.{KillRing}
use Rattle.tw_key_parts.specs.declared.ring.Latest.{Latest}
use Rattle.tw_key_parts.specs.declared.ring.Latest.TheVariants as latest
use Rattle.tw_line.specs.Edits.{with_text}

-- the kills, the oldest first, and what was done last
pub record Ring : Type 0 where
  pub kills : List (List ℕ)
  pub latest : Latest

-- a kill that comes back: the cut text into which it comes, its text and its index
pub record Yanked : Type 0 where
  pub cut : Cut
  pub text : List ℕ
  pub index : ℕ

-- the view of a ring
abbrev pub ring_view : KillRing → Ring
ring_view r = record { kills = map string_bytes r.kills.items; latest = r.latest }

-- ---- what is killed

-- how far an action kills
abbrev pub kill_movement : Option ActionView → Option Movement
kill_movement (Some (Kill m)) = Some m
kill_movement (Some (KillAndMove k m)) = Some k
kill_movement _ = None

-- how far the action of an event kills, unless its key deletes a character
abbrev pub killing : EventView → Option ActionView → Option Movement
killing event action = if deletes_character event then None else kill_movement action

-- whether what it kills lies after the cursor
abbrev pub leads_onward : Movement → Cut → Bool
leads_onward m cut = nat_lt cut.cursor (destination m cut)

-- ---- what is kept

-- the kills but for the oldest, where there are ten
abbrev pub with_room : List (List ℕ) → List (List ℕ)
with_room kills = if nat_lt (length kills) 10 then kills else drop 1 kills

-- the newest kill
abbrev pub newest_kill : List (List ℕ) → List ℕ
newest_kill kills = slice_index_or kills (length kills - 1) []

-- what a ring needs to keep what is killed of a cut text: the text itself, and memory
abbrev pub IsReady : KillRing → Cut → Type 0
IsReady r cut =
    (r.probe ≡ cut) × (string_bytes r.spare ≡ []) × (vec_len r.kills < vec_capacity r.kills)
    × (length (newest_kill (map string_bytes r.kills.items)) + length cut.line ≤ string_capacity r.spare)

-- the newest kill with more: what lay after the cursor comes after it, and else before it
abbrev pub joined_kill : Bool → List ℕ → List ℕ → List ℕ
joined_kill ahead newest text = if ahead then newest ++ text else text ++ newest

-- the kills with one more, which joins the newest one where a kill was the last thing done
abbrev pub kills_with : Latest → Bool → List ℕ → List (List ℕ) → List (List ℕ)
kills_with latest.Kill ahead text kills = take (length kills - 1) kills ++ joined_kill ahead (newest_kill kills) text ∷ []
kills_with _ ahead text kills = with_room kills ++ text ∷ []

-- what was done last, where nothing was there to be killed: kills go on, and all else is over
abbrev pub after_nothing : Latest → Latest
after_nothing latest.Kill = latest.Kill
after_nothing _ = latest.Other

-- a text was killed; an empty one is no kill
abbrev pub with_killed : Bool → List ℕ → Ring → Ring
with_killed ahead text r =
    if length text == 0 then record r { latest = after_nothing r.latest }
    else record r { kills = kills_with r.latest ahead text r.kills; latest = latest.Kill }

-- a kill by a movement, if there is one; all else ends kills and yanks
abbrev pub with_killing : Option Movement → Cut → Ring → Ring
with_killing None cut r = record r { latest = latest.Other }
with_killing (Some m) cut r = with_killed (leads_onward m cut) (passed_text m cut) r

-- whether two cut texts are the same
abbrev pub is_same_cut : Cut → Cut → Bool
is_same_cut a b = pointwise eqb a.line b.line && (a.cursor == b.cursor)

-- how far an action kills a cut text that the host left as it was, while the editor does not search
abbrev pub kill_of : Bool → EventView → Option ActionView → Cut → Cut → Option Movement
kill_of searching event action cut new = if searching || not (is_same_cut cut new) then None else killing event action

-- the ring after an action, if there is one
abbrev pub ring_after : KeyStep → Ring → Ring
ring_after step r = with_killing (kill_of step.searching step.event step.action step.before step.after) step.before r

-- ---- what comes back

-- the kill at an index comes back into a cut text, if there is one
abbrev pub yank_of : List (List ℕ) → ℕ → Cut → Option Yanked
yank_of kills index cut = option_map (λ text. record { cut = cut; text = text; index = index }) (slice_get kills index)

-- the cut text without a text before the cursor, if it stands there
abbrev pub taken_out : Cut → List ℕ → Option Cut
taken_out cut text =
    let front = take cut.cursor cut.line in
    if ends_with eqb front text then Some (with_text (take (length front - length text) front) (cut_at (drop cut.cursor cut.line) 0)) else None

-- the index before another, and before the first one the last
abbrev pub index_below : List (List ℕ) → ℕ → ℕ
index_below kills i = if i == 0 then length kills - 1 else i - 1

-- in the place of the kill that came back last comes the one before it
abbrev pub rotated : List (List ℕ) → Latest → Cut → Option Yanked
rotated kills (latest.Yank i) cut = option_and_then (yank_of kills (index_below kills i)) (option_and_then (taken_out cut) (slice_get kills i))
rotated kills _ cut = None

-- what an event brings back, but during a search
abbrev pub yank_by : Bool → EventView → Ring → Cut → Option Yanked
yank_by searching event r cut =
    if searching then None
    else if is_key yank_key event then yank_of r.kills (length r.kills - 1) cut
    else if is_key (key_press alt (letter (codes "y"))) event then rotated r.kills r.latest cut
    else None

-- a kill that comes back, as an edit
abbrev pub yank_edit : Yanked → Edited ℕ
yank_edit y = record { cut = Some y.cut; action = InsertText 1 y.text; kept = y.index }

-- where a kill came back, another one can take its place; all else may be a kill
abbrev pub ring_follows : Ring → Option ℕ → KeyStep → Ring
ring_follows r (Some index) step = record r { latest = latest.Yank index }
ring_follows r None step = ring_after step r

abbrev pub ring_key_rules : KeyRules Ring ℕ
ring_key_rules = record { edits = λ r asked. option_map yank_edit (yank_by asked.searching asked.event r asked.cut); follows = ring_follows; leaves = λ r. record r { latest = latest.Other } }

-- ---- what kills in a row and a yank after them give back

-- the line with the newest kill put back at the cursor, where a kill was the last thing done; else the line
abbrev pub line_before : Latest → List (List ℕ) → Cut → List ℕ
line_before latest.Kill kills cut = (with_text (newest_kill kills) cut).line
line_before _ kills cut = cut.line

-- the line before the kills that were done last
abbrev pub given_back : Ring → Cut → List ℕ
given_back r cut = line_before r.latest r.kills cut

-- the ring after an action of an event, done on the line as it was, outside a search
abbrev pub ring_behind : EventView → ActionView → Cut → Ring → Ring
ring_behind event action cut r = ring_after (step_of event false cut cut (Some action)) r

-- an action of an event kills what is kept by this movement, and leaves the cursor where it killed
pub record KillsInPlace (event : EventView) (action : ActionView) (m : Movement) (old new : Cut) : Type 0 where
  pub kills : killing event (Some action) ≡ Some m
  pub inside : old.cursor ≤ length old.line
  pub line : new.line ≡ remove_range old.line (min old.cursor (destination m old)) (max old.cursor (destination m old))
  pub cursor : new.cursor ≡ min old.cursor (destination m old)

-- a kill keeps the line before the kills that were done last: so one kill or many in a row give the line before the
-- first
abbrev pub KillsKeepLine : Type 0
KillsKeepLine = (event : EventView) (action : ActionView) (m : Movement) (old new : Cut) (r : Ring)
    → KillsInPlace event action m old new → given_back (ring_behind event action old r) new ≡ given_back r old

-- where it killed anything it is what was done last
abbrev pub KillIsLatest : Type 0
KillIsLatest = (event : EventView) (action : ActionView) (m : Movement) (old : Cut) (r : Ring)
    → killing event (Some action) ≡ Some m → passed_text m old ≢ [] → (ring_behind event action old r).latest ≡ latest.Kill

-- a yank right after a kill gives the line before the kills back
abbrev pub YankGivesBack : Type 0
YankGivesBack = (r : Ring) (cut : Cut) → r.latest ≡ latest.Kill → 1 ≤ length r.kills
    → IsSomeAnd (yank_by false (Key yank_key) r cut) (λ y. (with_text y.text y.cut).line ≡ given_back r cut)
