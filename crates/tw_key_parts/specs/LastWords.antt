-- A host with the last words of the history's lines.
use Rattle.std.specs.Prelude.{ℕ, List, Option, Some, None, option_map, slice_get, if◌then◌else◌}
use Rattle.std.specs.Option.{option_and_then}
use Rattle.std.specs.Str.{trim_end}
use Rattle.tw_line.specs.Cut.{Cut}
use Rattle.tw_host.specs.ActionView.{InsertText}
use Rattle.tw_hosts.specs.Words.{end_row, last_word}
use Rattle.tw_key_parts.specs.KeyRules.{Asked, Edited, KeyRules, KeyStep}
use Rattle.tw_key_parts.specs.Keys.{is_key, last_word_key}
use Rattle.tw_key_parts.specs.Recalled.{line_before_recall, older_index, recalled_kept}
use Rattle.tw_key_parts.specs.declared.recalled.Recalled.{Recalled}

-- the last word of a line in its row, whatever whitespace follows it, put into a cut text
abbrev pub recalled_word : Cut → ℕ → List ℕ → Edited Recalled
recalled_word cut i line = record { cut = Some cut; action = InsertText 1 (last_word (end_row (trim_end line))); kept = record { before = cut; index = i } }

-- the word that an event puts in, but during a search: a word that was put in right before gives way to the next one,
-- from the line before
abbrev pub word_by : Option Recalled → Asked → Option (Edited Recalled)
word_by word asked =
    if asked.searching then None
    else if is_key last_word_key asked.event then
    option_and_then (λ i. option_map (recalled_word (line_before_recall word asked.cut) i) (slice_get asked.lines i)) (older_index word asked.lines)
    else None

abbrev pub last_word_after : Option Recalled → Option Recalled → KeyStep → Option Recalled
last_word_after word (Some new) step = Some new
last_word_after word None step = recalled_kept (is_key last_word_key step.event) step.action word

abbrev pub last_word_rules : KeyRules (Option Recalled) Recalled
last_word_rules = record { edits = word_by; follows = last_word_after; leaves = λ word. None }
