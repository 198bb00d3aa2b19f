-- The rest of the newest line that goes on from a text.
use Rattle.std.specs.Prelude.{ℕ, ◌-◌, ◌==◌, ◌&&◌, ◌||◌, nat_lt, Bool, true, false, not, List, [], ◌∷◌, ◌++◌, length, take, drop, encode_utf8, eqb, Option, Some, None, option_map, if◌then◌else◌}
use Rattle.std.specs.List.{position_or_len, starts_with}
use Rattle.std.specs.Str.{trim_start}
use Rattle.tw_line.specs.Extremes.{greatest_below}
use Rattle.tw_line.specs.NearestMatch.{line_at}
use Rattle.tw_line.specs.Cut.{Cut}
use Rattle.tw_line.specs.declared.movements.Movement.TheVariants.{ForwardChar, ForwardWord, EndOfLine}
use Rattle.tw_host.specs.ActionView.{ActionView, Move}
use Rattle.tw_host.specs.ElementView.{ElementView}
use Rattle.tw_host.specs.HostRules.{plain_text}
use Rattle.tw_hosts.specs.Words.{after_word}
use Rattle.tw_surface.specs.Characters.{lf}
use Rattle.tw_surface.specs.Defaults.{default_attributes}
use Rattle.tw_surface.specs.declared.cell.Intensity.TheVariants.{Half}
use Rattle.tw_prompt_host.specs.declared.hint.Hints.{Hints}
use Rattle.tw_prompt_host.specs.declared.hint.Hints.TheVariants.{Off, Under, After}

-- whether a line begins with a text and is longer
abbrev pub is_longer : List ℕ → List ℕ → Bool
is_longer text line = starts_with eqb line text && nat_lt (length text) (length line)

-- what stands in a line after a text, if it is longer
abbrev pub continuation_of : List ℕ → List ℕ → Option (List ℕ)
continuation_of text line = if is_longer text line then Some (drop (length text) line) else None

-- what the newest line that is longer has after a text
abbrev pub newest_rest : List (List ℕ) → List ℕ → Option (List ℕ)
newest_rest lines text =
    option_map (λ i. drop (length text) (line_at lines i)) (greatest_below (λ i. is_longer text (line_at lines i)) (length lines))

-- nothing is proposed for the empty line
abbrev pub hint_of : List (List ℕ) → List ℕ → Option (List ℕ)
hint_of lines text = if length text == 0 then None else newest_rest lines text

-- a movement ahead by characters or words, or to the end of the line
abbrev pub is_forward : Option ActionView → Bool
is_forward (Some (Move (ForwardChar n))) = true
is_forward (Some (Move (ForwardWord n))) = true
is_forward (Some (Move EndOfLine)) = true
is_forward _ = false

-- an action that would move ahead from the end of the line
abbrev pub is_taking : Option ActionView → Cut → Bool
is_taking action cut = is_forward action && (cut.cursor == length cut.line)

-- a hint up to the end of its first word; spaces part words
abbrev pub word_of : List ℕ → List ℕ
word_of rest = take (length rest - length (after_word (trim_start rest))) rest

-- how much of a hint an action takes: a movement by words a word, and any other one all of it
abbrev pub part_taken : Option ActionView → List ℕ → List ℕ
part_taken (Some (Move (ForwardWord n))) rest = word_of rest
part_taken _ rest = rest

-- what an action puts in after the line, by the lines that are lent and by whether the hint is hidden
abbrev pub hint_taken_by : List (List ℕ) → Bool → Option ActionView → Cut → Option (List ℕ)
hint_taken_by lent hidden action cut =
    if hidden || not (is_taking action cut) then None else option_map (part_taken action) (hint_of lent cut.line)

-- hints after the line in half intensity
abbrev pub dim_hints : Hints
dim_hints = After (record default_attributes { intensity = Half })

-- whether there are hints
abbrev pub are_on : Hints → Bool
are_on Off = false
are_on _ = true

-- the hint under the line, if hints stand there
abbrev pub hint_if_under : Hints → Option (List ℕ) → Option (List ℕ)
hint_if_under Under hint = hint
hint_if_under _ hint = None

-- the first row of a hint, before … if there are others
abbrev pub hint_row : List ℕ → List ℕ
hint_row rest =
    let end = position_or_len (λ b. b == lf) rest in
    if end == length rest then rest else take end rest ++ encode_utf8 8230

-- what another host shows under the line, or where it shows nothing the hint
abbrev pub shown_under : List ElementView → Option (List ℕ) → List ElementView
shown_under [] None = []
shown_under [] (Some rest) = plain_text (hint_row rest)
shown_under (element ∷ elements) hint = element ∷ elements
