-- Words of a line, lists of words, and what completes the word before the cursor.
use Rattle.std.specs.Prelude.{ℕ, ◌-◌, ◌==◌, Bool, not, ◌&&◌, List, String, string_bytes, length, take, drop, map, eqb, nat_lt, true, false, filter, nat_le}
use Rattle.std.specs.declared.alloc.Global.{Global}
use Rattle.std.specs.List.{before_first, after_last, list_any, position_or_len, starts_with, suffix_len}
use Rattle.std.specs.Cmp.Lexicographic.{pointwise}
use Rattle.std.specs.Str.{str_eq_ignore_ascii_case}
use Rattle.tw_host.specs.CandidateView.{CandidateView}
use Rattle.tw_line.specs.Cut.{Cut}

-- the texts of words
abbrev pub texts_of : List (String Global) → List (List ℕ)
texts_of words = map string_bytes words

-- whether two texts are the same
abbrev pub is_same : List ℕ → List ℕ → Bool
is_same text other = pointwise eqb text other

-- whether a word is one of these
abbrev pub is_known : List (List ℕ) → List ℕ → Bool
is_known words word = list_any (λ known. is_same known word) words

-- whether a word begins with a text
abbrev pub begins_with : List ℕ → List ℕ → Bool
begins_with text word = starts_with eqb word text

-- what stands before the first space of a text, or all of it where it has none
abbrev pub leading_word : List ℕ → List ℕ
leading_word text = before_first (λ byte. byte == 32) text

-- what follows the first word
abbrev pub after_word : List ℕ → List ℕ
after_word text = drop (length (leading_word text)) text

-- whether a byte is a delimiter: one of these characters, and one of ASCII
abbrev pub is_delimiter : List ℕ → ℕ → Bool
is_delimiter delimiters byte = nat_lt byte 128 && list_any (λ delimiter. delimiter == byte) delimiters

-- how many bytes stand before the first delimiter, or all
abbrev pub word_end : List ℕ → List ℕ → ℕ
word_end delimiters text = position_or_len (is_delimiter delimiters) text

-- where the word begins with which a text ends: after the last delimiter
abbrev pub word_start : List ℕ → List ℕ → ℕ
word_start delimiters text = length text - suffix_len (λ byte. not (is_delimiter delimiters byte)) text

-- that word, and what stands before it
abbrev pub begun_part : List ℕ → List ℕ → List ℕ
begun_part delimiters text = drop (word_start delimiters text) text

abbrev pub before_word : List ℕ → List ℕ → List ℕ
before_word delimiters text = take (word_start delimiters text) text

-- what stands after the last space of a text, or all of it where it has none
abbrev pub last_word : List ℕ → List ℕ
last_word text = after_last (λ byte. byte == 32) text

-- what stands after its last line feed, or all of it where it has none
abbrev pub end_row : List ℕ → List ℕ
end_row text = after_last (λ byte. byte == 10) text

-- a text in the place of a part of the line
abbrev pub word_candidate : ℕ → ℕ → List ℕ → CandidateView
word_candidate start end text = record { start = start; end = end; text = text }

-- whether a word begins with a text, where the case of ASCII letters does not count, or does
abbrev pub begins_in : Bool → List ℕ → List ℕ → Bool
begins_in true text word = nat_le (length text) (length word) && str_eq_ignore_ascii_case text (take (length text) word)
begins_in false text word = begins_with text word

-- those of the words that begin with a text, each for the bytes that the text has before a cursor
abbrev pub words_from : Bool → List (List ℕ) → List ℕ → ℕ → List CandidateView
words_from ignores_case words text cursor =
    map (word_candidate (cursor - length text) cursor) (filter (begins_in ignores_case text) words)

-- what completes the word before the cursor
abbrev pub word_completions : List (List ℕ) → Cut → List CandidateView
word_completions words cut = words_from false words (last_word (take cut.cursor cut.line)) cut.cursor
