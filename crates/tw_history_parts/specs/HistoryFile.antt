-- How the lines of a history stand in a file, and adding them to a history.
use Rattle.std.specs.Prelude.{◌≡◌, ◌==◌, ◌+◌, ◌-◌, ◌&&◌, ℕ, Bool, true, false, not, if◌then◌else◌, List, [], ◌∷◌, ◌++◌, length, Option, Some, None, is_none, slice_get, Contains, ◌<◌, ◌≤◌, take}
use Rattle.std.specs.List.{count_by, filter, filter_map, flat_map, All, cons_option}
use Rattle.std.specs.Option.{option_and_then, option_map_or, unwrap_or}
use Rattle.std.specs.Str.{is_utf8}
use Rattle.tw_history_parts.specs.declared.file.Unread.{Unread}
use Rattle.tw_history_parts.specs.declared.file.Unread.TheVariants.{Lines}

-- what a byte of a line is written as: a backslash is two of them, and a line feed a backslash and an n
abbrev pub escaped_byte : ℕ → List ℕ
escaped_byte b = if b == 92 then 92 ∷ 92 ∷ [] else if b == 10 then 92 ∷ 110 ∷ [] else b ∷ []

-- what a line is written as, without its end
abbrev pub escaped : List ℕ → List ℕ
escaped line = flat_map escaped_byte line

-- and with the line feed that ends it
abbrev pub written_line : List ℕ → List ℕ
written_line line = escaped line ++ 10 ∷ []

-- what lines are written as, one after the other
abbrev pub written_lines : List (List ℕ) → List ℕ
written_lines lines = flat_map written_line lines

-- the byte that a backslash and another byte stand for
abbrev pub escape_of : ℕ → Option ℕ
escape_of b = if b == 92 then Some 92 else if b == 110 then Some 10 else None

-- a byte in front, if there is both
abbrev pub with_byte : Option ℕ → Option (List ℕ) → Option (List ℕ)
with_byte (Some b) (Some bytes) = Some (b ∷ bytes)
with_byte _ _ = None

-- what a text stands for, after a backslash or not; none where a backslash stands before another byte, or at the end
abbrev pub unescaped_behind : Bool → List ℕ → Option (List ℕ)
unescaped_behind true [] = None
unescaped_behind false [] = Some []
unescaped_behind true (b ∷ text) = with_byte (escape_of b) (unescaped_behind false text)
unescaped_behind false (b ∷ text) = if b == 92 then unescaped_behind true text else with_byte (Some b) (unescaped_behind false text)

abbrev pub unescaped : List ℕ → Option (List ℕ)
unescaped text = unescaped_behind false text

-- bytes that are a text
abbrev pub if_text : List ℕ → Option (List ℕ)
if_text bytes = if is_utf8 bytes then Some bytes else None

-- whether a text has a byte
abbrev pub is_some_text : List ℕ → Bool
is_some_text text = not (length text == 0)

-- the line that a text of a file is, if it is one; an empty text is none
abbrev pub line_of : List ℕ → Option (List ℕ)
line_of text = if is_some_text text then option_and_then if_text (unescaped text) else None

-- a byte in front of the first line
abbrev pub with_byte_in_front : ℕ → List (List ℕ) → List (List ℕ)
with_byte_in_front b [] = []
with_byte_in_front b (line ∷ lines) = (b ∷ line) ∷ lines

-- the texts of a file that a line feed ends
abbrev pub whole_lines : List ℕ → List (List ℕ)
whole_lines [] = []
whole_lines (b ∷ bytes) = if b == 10 then [] ∷ whole_lines bytes else with_byte_in_front b (whole_lines bytes)

-- the lines in a file: of its texts that a line feed ends those that are one
abbrev pub lines_in : List ℕ → List (List ℕ)
lines_in bytes = filter_map line_of (whole_lines bytes)

-- whether the last text of a file is cut off: its last byte, if there is one, is no line feed
abbrev pub is_cut_off : List ℕ → Bool
is_cut_off bytes = option_map_or (λ b. not (b == 10)) (slice_get bytes (length bytes - 1)) false

-- what ends a text that is cut off, so that it is no line: a backslash before a hyphen, and one at the end, of which
-- one stands for no byte whatever comes before
abbrev pub cut_end : List ℕ
cut_end = 92 ∷ 45 ∷ 92 ∷ 10 ∷ []

-- the file with this after a text that is cut off
abbrev pub ended : List ℕ → List ℕ
ended bytes = if is_cut_off bytes then bytes ++ cut_end else bytes

-- whether a text can't be read
abbrev pub is_lost : List ℕ → Bool
is_lost text = is_some_text text && is_none (line_of text)

-- how many texts of a file that a line feed ends can't be read
abbrev pub lost_lines : List ℕ → ℕ
lost_lines bytes = count_by is_lost (whole_lines bytes)

-- and with the one that is cut off
abbrev pub lost_in : List ℕ → ℕ
lost_in bytes = lost_lines bytes + (if is_cut_off bytes then 1 else 0)

-- what of a file is not read, if this number of texts is lost
abbrev pub unread_of : ℕ → Option Unread
unread_of lost = if lost == 0 then None else Some (Lines lost)

abbrev pub unread_lines : List ℕ → Option Unread
unread_lines bytes = unread_of (lost_in bytes)

-- what comes after the first line feed
abbrev pub behind_first_feed : List ℕ → Option (List ℕ)
behind_first_feed [] = None
behind_first_feed (b ∷ bytes) = if b == 10 then Some bytes else behind_first_feed bytes

-- the texts of the end of a file that begin in it
abbrev pub whole_part : List ℕ → List ℕ
whole_part end = unwrap_or (behind_first_feed end) end

-- bytes that are cut at their first line feed
abbrev pub IsCutAtFeed : List ℕ → List ℕ → List ℕ → Type 0
IsCutAtFeed bytes line after = (¬ (Contains line 10)) × (bytes ≡ line ++ (10 ∷ after))

-- the history with these lines added, by what it says of one
abbrev pub AddsAll : {L : Type 0} → (L → List ℕ → L → Type 0) → List (List ℕ) → L → L → Type 0
AddsAll gives [] old new = new ≡ old
AddsAll {L} gives (line ∷ lines) old new = (between : L) × gives old line between × AddsAll gives lines between new

-- and with some of them, the first ones
abbrev pub AddsSome : {L : Type 0} → (L → List (List ℕ)) → (L → List ℕ → L → Type 0) → List (List ℕ) → L → L → Type 0
AddsSome {L} lines_of gives lines old new =
    (first : List (List ℕ)) × (others : List (List ℕ)) × (lines ≡ first ++ others)
    × ((between : L) × AddsAll gives first old between × (lines_of new ≡ lines_of between))

-- lines that are texts
abbrev pub AreTexts : List (List ℕ) → Type 0
AreTexts lines = All (λ line. is_utf8 line ≡ true) lines

-- the lines that are entries of a file: an empty one is none
abbrev pub entries : List (List ℕ) → List (List ℕ)
entries lines = filter is_some_text lines

-- Lines that are written are read as they were, but for empty ones.
abbrev pub WrittenAreRead : Type 0
WrittenAreRead = (lines : List (List ℕ)) → AreTexts lines → lines_in (written_lines lines) ≡ entries lines

-- Of a beginning of what was written those lines are read that are whole in it: with one more it would be longer.
abbrev pub BeginningIsRead : Type 0
BeginningIsRead = (lines : List (List ℕ)) (bytes more : List ℕ) → AreTexts lines → written_lines lines ≡ bytes ++ more
    → (count : ℕ) × (lines_in bytes ≡ entries (take count lines))
    × (length (written_lines (take count lines)) ≤ length bytes)
    × (count < length lines → length bytes < length (written_lines (take (count + 1) lines)))

-- A text between two line feeds is read by itself, whatever stands in it, and takes nothing from the others.
abbrev pub DamageStaysAlone : Type 0
DamageStaysAlone = (before text after : List ℕ) → ¬ (Contains text 10)
    → lines_in ((before ++ 10 ∷ []) ++ (text ++ (10 ∷ after)))
    ≡ lines_in (before ++ 10 ∷ []) ++ cons_option (line_of text) (lines_in after)

-- Lines that are written after a file, whatever it has, are read after its own; a text that was cut off is never one.
abbrev pub ResumedAreRead : Type 0
ResumedAreRead = (bytes : List ℕ) (lines : List (List ℕ)) → AreTexts lines → lines_in (ended bytes ++ written_lines lines) ≡ lines_in bytes ++ entries lines

-- Of the end of a file its last lines are read, and whether the file is cut off is known by it.
abbrev pub EndIsRead : Type 0
EndIsRead = (before end : List ℕ) → 0 < length end
    → ((older : List (List ℕ)) × (lines_in (before ++ end) ≡ older ++ lines_in (whole_part end)))
    × (is_cut_off (before ++ end) ≡ is_cut_off (whole_part end))
