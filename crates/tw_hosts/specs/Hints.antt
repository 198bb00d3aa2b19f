-- Hints under the line, by its first word.
use Rattle.std.specs.Prelude.{ℕ, List, [], ◌∷◌, Option, option_map, string_bytes}
use Rattle.std.specs.List.{find}
use Rattle.std.specs.Option.{option_map_or}
use Rattle.tw_host.specs.ElementView.{ElementView, Text}
use Rattle.tw_hosts.specs.Words.{is_same, leading_word}
use Rattle.tw_hosts.specs.declared.hints.Hint.{Hint}

-- the text of the first hint for a word
abbrev pub hint_for : List Hint → List ℕ → Option (List ℕ)
hint_for hints word = option_map (λ hint. string_bytes hint.text) (find (λ hint. is_same (string_bytes hint.word) word) hints)

-- what is shown under a line, if there is a hint for it
abbrev pub hint_elements : List Hint → List ℕ → List ElementView
hint_elements hints line = option_map_or (λ text. Text text ∷ []) (hint_for hints (leading_word line)) []
