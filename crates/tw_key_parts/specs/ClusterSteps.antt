-- Steps by grapheme clusters, how many lead over a word of letters and digits, and the keys for these.
use Rattle.std.specs.Prelude.{ℕ, ◌+◌, Bool, false, not, ◌&&◌, ◌||◌, List, length, drop, Option, option_map, slice_get, unwrap_or, [], ◌∷◌, codes, None, if◌then◌else◌}
use Rattle.tw_line.specs.declared.movements.Movement.{Movement}
use Rattle.tw_line.specs.declared.movements.Movement.TheVariants.{BackwardChar, ForwardChar}
use Rattle.tw_key_parts.specs.declared.steps.Way.{Way}
use Rattle.tw_key_parts.specs.declared.steps.Way.TheVariants.{Back, Ahead}
use Rattle.std.specs.Char.Unicode.Alphabetic.{is_alphabetic}
use Rattle.std.specs.Char.Unicode.Numeric.{is_numeric}
use Rattle.std.specs.Str.{chars}
use Rattle.tw_line.specs.Extremes.{least_from}
use Rattle.tw_line.specs.Cut.{Cut}
use Rattle.tw_line.specs.Movements.{destination}
use Rattle.tw_input.specs.declared.key.KeyCode.TheVariants.{Backspace, Delete, LeftArrow, RightArrow}
use Rattle.tw_input.specs.declared.key.KeyEvent.{KeyEvent}
use Rattle.tw_input.specs.Modifiers.{alt, ctrl}
use Rattle.tw_line.specs.declared.movements.Movement.TheVariants as movement
use Rattle.tw_host.specs.ActionView.{ActionView, Kill, KillAndMove, Move}
use Rattle.tw_host.specs.KeyTable.{key_press, letter}
use Rattle.tw_key_parts.specs.KeyRules.{Asked, Edited, in_place}
use Rattle.tw_key_parts.specs.Keys.{row_with_key}

-- `count` steps that way
abbrev pub cluster_steps : Way → ℕ → Movement
cluster_steps Back count = BackwardChar count
cluster_steps Ahead count = ForwardChar count

-- ---- words of letters and digits

-- whether a text begins with a letter or a digit
abbrev pub begins_with_letter : List ℕ → Bool
begins_with_letter text = unwrap_or (option_map (λ c. is_alphabetic c || is_numeric c) (slice_get (chars text) 0)) false

-- whether a letter stands where `count` steps lead
abbrev pub is_letter_after : Way → Cut → ℕ → Bool
is_letter_after way cut count = begins_with_letter (drop (destination (cluster_steps way count) cut) cut.line)

-- whether one stands there, and none a step further
abbrev pub is_last_letter : Way → Cut → ℕ → Bool
is_last_letter way cut count = is_letter_after way cut count && not (is_letter_after way cut (count + 1))

-- the least number of steps, from one on, that lead to the last letter of a word
abbrev pub last_letter : Way → ℕ → Cut → Option ℕ
last_letter way from cut = least_from (is_last_letter way cut) from (length cut.line)

-- past the last letter of the word ahead, or to the end of the line
abbrev pub steps_to_word_end : Cut → ℕ
steps_to_word_end cut = unwrap_or (option_map (λ count. count + 1) (last_letter Ahead 0 cut)) (length cut.line)

-- to the first letter of the word before, or to the start of the line
abbrev pub steps_to_word_start : Cut → ℕ
steps_to_word_start cut = unwrap_or (last_letter Back 1 cut) (length cut.line)

-- ---- their keys

-- the keys with their actions on a line
abbrev pub letter_table : Cut → List (KeyEvent × ActionView)
letter_table cut =
    (key_press ctrl RightArrow, Move (movement.ForwardChar (steps_to_word_end cut)))
    ∷ (key_press ctrl LeftArrow, Move (movement.BackwardChar (steps_to_word_start cut)))
    ∷ (key_press alt (letter (codes "f")), Move (movement.ForwardChar (steps_to_word_end cut)))
    ∷ (key_press alt (letter (codes "b")), Move (movement.BackwardChar (steps_to_word_start cut)))
    ∷ (key_press alt (letter (codes "d")), KillAndMove (movement.ForwardChar (steps_to_word_end cut)) movement.None)
    ∷ (key_press ctrl Delete, KillAndMove (movement.ForwardChar (steps_to_word_end cut)) movement.None)
    ∷ (key_press alt Backspace, Kill (movement.BackwardChar (steps_to_word_start cut)))
    ∷ []

-- the edit of an event, but during a search: the line stays as it is
abbrev pub letter_edit : Asked → Option (Edited (Unit {0}))
letter_edit asked = if asked.searching then None else in_place (row_with_key (letter_table asked.cut) asked.event) tt
