-- Edits of the words and the characters around the cursor, and their keys.
use Rattle.std.specs.Prelude.{ℕ, ◌==◌, ◌++◌, List, length, take, drop, min, max, if◌then◌else◌, Option, Some, None, option_map, unwrap_or, [], ◌∷◌, codes}
use Rattle.std.specs.List.{slice_range}
use Rattle.std.specs.StrCase.Upper.{str_to_uppercase}
use Rattle.std.specs.StrCase.Lower.{str_to_lowercase}
use Rattle.tw_line.specs.Cut.{Cut, cut_at, at_end}
use Rattle.tw_line.specs.Edits.{after_kill, with_text}
use Rattle.tw_line.specs.Movements.{after_move, destination}
use Rattle.tw_line.specs.declared.movements.Movement.{Movement}
use Rattle.tw_line.specs.declared.movements.Movement.TheVariants as movement
use Rattle.tw_key_parts.specs.declared.word_edits.WordCase.{WordCase}
use Rattle.tw_key_parts.specs.declared.word_edits.WordCase.TheVariants.{Upper, Lower, Capitalized}
use Rattle.std.specs.Str.{trim_end}
use Rattle.tw_input.specs.declared.key.KeyEvent.{KeyEvent}
use Rattle.tw_input.specs.EventView.{EventView}
use Rattle.tw_input.specs.Modifiers.{alt, ctrl}
use Rattle.tw_host.specs.KeyTable.{key_press, letter}
use Rattle.tw_key_parts.specs.KeyRules.{Asked, Edited, shown}
use Rattle.tw_key_parts.specs.Keys.{row_with_key}
use Rattle.tw_key_parts.specs.declared.word_keys.WordEdit.{WordEdit}
use Rattle.tw_key_parts.specs.declared.word_keys.WordEdit.TheVariants.{SwapClusters, SwapWords, Write}

-- the text between the cursor and the place where a movement leads
abbrev pub passed_text : Movement → Cut → List ℕ
passed_text m c = slice_range c.line (min c.cursor (destination m c)) (max c.cursor (destination m c))

-- a text in a case, as Unicode maps its characters; a capital is its first grapheme cluster
abbrev pub in_case : WordCase → List ℕ → List ℕ
in_case Upper text = str_to_uppercase text
in_case Lower text = str_to_lowercase text
in_case Capitalized text =
    let n = destination (movement.ForwardChar 1) (cut_at text 0) in
    str_to_uppercase (take n text) ++ str_to_lowercase (drop n text)

-- what stands from the cursor to the end of the word ahead is written in a case, and the cursor stands after it
abbrev pub with_word_in : WordCase → Cut → Cut
with_word_in case c =
    with_text (in_case case (passed_text (movement.ForwardWord 1) c)) (after_kill (movement.ForwardWord 1) movement.None c)

-- where clusters change places: at the end of the line that is before the last cluster
abbrev pub swapping_place : Cut → Cut
swapping_place c = if c.cursor == length c.line then after_move (movement.BackwardChar 1) c else c

-- the cluster before the cursor is taken out, and put in after the one at the cursor, where a cluster stands before it
abbrev pub with_swapped_clusters : Cut → Cut
with_swapped_clusters c =
    let place = swapping_place c in
    let moved = after_move (movement.ForwardChar 1) (after_kill (movement.BackwardChar 1) (movement.BackwardChar 1) place) in
    if place.cursor == 0 then c else with_text (passed_text (movement.BackwardChar 1) place) moved

-- ---- words that change places; a word ends at whitespace

-- what follows the last word before an offset of a line: whitespace up to there, and the rest
abbrev pub after_words : ℕ → List ℕ → List ℕ
after_words end line = drop (length (trim_end (take end line))) line

-- where the last word of a text begins
abbrev pub final_word_start : List ℕ → ℕ
final_word_start text = destination (movement.BackwardWord 1) (at_end text)

-- what stands before the last word of a text
abbrev pub before_last_word : List ℕ → List ℕ
before_last_word text = take (final_word_start text) text

-- the last word of a text
abbrev pub final_word : List ℕ → List ℕ
final_word text = drop (final_word_start text) text

-- the last two words of a text in each other's place, if it has two
abbrev pub swapped_words : List ℕ → Option (List ℕ)
swapped_words text =
    let before = before_last_word text in
    let head = trim_end before in
    if length head == 0 then None
    else Some (before_last_word head ++ final_word text ++ after_words (length before) before ++ final_word head)

-- the cursor goes past the word at it, or past the next word where whitespace stands at it
abbrev pub past_word : Cut → Cut
past_word c =
    let past = after_move (movement.ForwardWord 1) c in
    if length (trim_end (passed_text (movement.ForwardWord 1) c)) == 0 then after_move (movement.ForwardWord 1) past else past

-- the word at the cursor, or the next one, and the word before it change places; the cursor stands after both
abbrev pub with_swapped_words : Cut → Cut
with_swapped_words c =
    let past = past_word c in
    let swapped = swapped_words (trim_end (take past.cursor past.line)) in
    unwrap_or (option_map (λ words. with_text words (cut_at (after_words past.cursor past.line) 0)) swapped) c

-- ---- the keys

-- the keys with their edits
abbrev pub word_keys : List (KeyEvent × WordEdit)
word_keys =
    (key_press ctrl (letter (codes "T")), SwapClusters)
    ∷ (key_press alt (letter (codes "t")), SwapWords)
    ∷ (key_press alt (letter (codes "u")), Write Upper)
    ∷ (key_press alt (letter (codes "l")), Write Lower)
    ∷ (key_press alt (letter (codes "c")), Write Capitalized)
    ∷ (key_press alt (letter (codes "T")), SwapWords)
    ∷ (key_press alt (letter (codes "U")), Write Upper)
    ∷ (key_press alt (letter (codes "L")), Write Lower)
    ∷ (key_press alt (letter (codes "C")), Write Capitalized)
    ∷ []

-- the edit of an event: a key may have one
abbrev pub word_edit : EventView → Option WordEdit
word_edit event = row_with_key word_keys event

-- what an edit makes of a line
abbrev pub edited_cut : WordEdit → Cut → Cut
edited_cut SwapClusters cut = with_swapped_clusters cut
edited_cut SwapWords cut = with_swapped_words cut
edited_cut (Write case) cut = with_word_in case cut

-- the edit of an event, but during a search
abbrev pub word_key_edit : Asked → Option (Edited (Unit {0}))
word_key_edit asked = if asked.searching then None else option_map (λ edit. shown (edited_cut edit asked.cut) tt) (word_edit asked.event)
