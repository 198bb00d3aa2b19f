-- The lines of a script that are directives.
use Rattle.std.specs.Prelude.{◌≡◌, ◌≤◌, ℕ, eqb, List, length, Some, codes, IsUtf8}
use Rattle.std.specs.List.{before_first, after_first}
use Rattle.std.specs.Str.Parse.{IsNumeral, digits_value}
use Rattle.script_player.specs.KeyNames.{IsKey, key_name}
use Rattle.script_player.specs.declared.directive.Directive.{Directive}
use Rattle.script_player.specs.declared.directive.Directive.TheVariants.{Cols, Prompt, Preview, History, Candidate, «Type», Paste, Key, Read}

-- what stands before the first space of a line, or the whole line
abbrev pub first_word : List ℕ → List ℕ
first_word line = before_first (λ b. eqb b 32) line

-- what stands after the first space of a line, or nothing
abbrev pub behind_word : List ℕ → List ℕ
behind_word line = after_first (λ b. eqb b 32) line

-- a number of 1 to 9 digits
abbrev pub IsNumber : List ℕ → ℕ → Type 0
IsNumber text n = IsNumeral 10 text × (length text ≤ 9) × (n ≡ digits_value 10 text)

-- two numbers, and after a space a text
abbrev pub IsRangeAndText : List ℕ → ℕ → ℕ → List ℕ → Type 0
IsRangeAndText line start end text =
    IsNumber (first_word line) start × IsNumber (first_word (behind_word line)) end × (text ≡ behind_word (behind_word line))

-- the word of a directive, and a space and a text, which is empty where there is no space
abbrev pub IsWordAndText : List ℕ → List ℕ → List ℕ → Type 0
IsWordAndText line word text = (first_word line ≡ word) × (text ≡ behind_word line)

-- the line on which a directive stands
abbrev pub IsLineOf : List ℕ → Directive → Type 0
IsLineOf line (Cols n) = (first_word line ≡ codes "cols") × IsNumber (behind_word line) n
IsLineOf line (Prompt text) = IsWordAndText line (codes "prompt") text.now
IsLineOf line (Preview text) = IsWordAndText line (codes "preview") text.now
IsLineOf line (History text) = IsWordAndText line (codes "history") text.now
IsLineOf line (Candidate range text) = (first_word line ≡ codes "cand") × IsRangeAndText (behind_word line) range.start range.end text.now
IsLineOf line («Type» text) = IsWordAndText line (codes "type") text.now
IsLineOf line (Paste text) = IsWordAndText line (codes "paste") text.now
IsLineOf line (Key key) = (first_word line ≡ codes "key") × IsKey key × (key_name key ≡ Some (behind_word line))
IsLineOf line Read = line ≡ codes "read"

-- a line of UTF-8 on which some directive stands
abbrev pub IsDirective : List ℕ → Type 0
IsDirective line = IsUtf8 line × ((directive : Directive) × IsLineOf line directive)
