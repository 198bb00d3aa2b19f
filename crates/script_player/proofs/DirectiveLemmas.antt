-- Lines that are no directives.
use Rattle.std.proofs.Common.{◌≡◌, ◌≢◌, ◌≤◌, ℕ, List, length, codes, refl, sym, ap, ◌∙◌}
use Rattle.std.specs.Cmp.Lexicographic.{other_text}
use Rattle.std.specs.Str.Parse.{IsNumeral}
use Rattle.script_player.specs.Directives.{IsDirective, IsLineOf, IsRangeAndText, first_word, behind_word}
use Rattle.script_player.specs.declared.directive.Directive.{Directive}
use Rattle.script_player.specs.declared.directive.Directive.TheVariants.{Cols, Prompt, Preview, History, Candidate, «Type», Paste, Key, Read}

-- the word of a directive
abbrev pub word_of : Directive → List ℕ
word_of (Cols n) = codes "cols"
word_of (Prompt text) = codes "prompt"
word_of (Preview text) = codes "preview"
word_of (History text) = codes "history"
word_of (Candidate range text) = codes "cand"
word_of («Type» text) = codes "type"
word_of (Paste text) = codes "paste"
word_of (Key key) = codes "key"
word_of Read = codes "read"

-- the line of a directive begins with its word
pub begins_with : (line : List ℕ) (directive : Directive) → IsLineOf line directive → first_word line ≡ word_of directive
begins_with line (Cols n) is = is.0
begins_with line (Prompt text) is = is.0
begins_with line (Preview text) is = is.0
begins_with line (History text) is = is.0
begins_with line (Candidate range text) is = is.0
begins_with line («Type» text) is = is.0
begins_with line (Paste text) is = is.0
begins_with line (Key key) is = is.0
begins_with line Read is = ap first_word is

-- a line of the word `cols` with no number
pub no_number : (line rest : List ℕ) → first_word line ≡ codes "cols" → rest ≡ behind_word line
    → ¬ (IsNumeral 10 rest × (length rest ≤ 9)) → ¬ (IsDirective line)
no_number line rest word behind lacks (utf8, (directive, is)) = by directive is (sym word ∙ begins_with line directive is)
  where
    by : (directive : Directive) → IsLineOf line directive → codes "cols" ≡ word_of directive → ⊥
    by (Cols n) is same = lacks (rw behind (is.1.0, is.1.1))
    by _ is same = other_text _ _ refl same

-- a line of the word `cand` with no range
pub no_range : (line rest : List ℕ) → first_word line ≡ codes "cand" → rest ≡ behind_word line
    → ((start end : ℕ) → ¬ (IsRangeAndText rest start end (behind_word (behind_word rest)))) → ¬ (IsDirective line)
no_range line rest word behind lacks (utf8, (directive, is)) = by directive is (sym word ∙ begins_with line directive is)
  where
    by : (directive : Directive) → IsLineOf line directive → codes "cand" ≡ word_of directive → ⊥
    by (Candidate range text) is same = lacks range.start range.end (rw behind (is.1.0, is.1.1, refl))
    by _ is same = other_text _ _ refl same

-- a line of the word `read` with more than that word
pub no_read : (line : List ℕ) → first_word line ≡ codes "read" → line ≢ codes "read" → ¬ (IsDirective line)
no_read line word longer (utf8, (directive, is)) = by directive is (sym word ∙ begins_with line directive is)
  where
    by : (directive : Directive) → IsLineOf line directive → codes "read" ≡ word_of directive → ⊥
    by Read is same = longer is
    by _ is same = other_text _ _ refl same

-- a line of any other word
pub no_word : (line word : List ℕ) → word ≡ first_word line
    → word ≢ codes "cols" → word ≢ codes "prompt" → word ≢ codes "preview" → word ≢ codes "history" → word ≢ codes "cand"
    → word ≢ codes "type" → word ≢ codes "paste" → word ≢ codes "key" → word ≢ codes "read" → ¬ (IsDirective line)
no_word line word first cols prompt preview history cand types paste keys read (utf8, (directive, is)) = by directive (first ∙ begins_with line directive is)
  where
    by : (directive : Directive) → word ≢ word_of directive
    by (Cols n) = cols
    by (Prompt text) = prompt
    by (Preview text) = preview
    by (History text) = history
    by (Candidate range text) = cand
    by («Type» text) = types
    by (Paste text) = paste
    by (Key key) = keys
    by Read = read
