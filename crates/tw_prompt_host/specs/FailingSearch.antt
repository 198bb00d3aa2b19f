-- A search that finds nothing.
use Rattle.std.specs.Prelude.{ℕ, ◌&&◌, Bool, List, codes, length, Option, Some, if◌then◌else◌}
use Rattle.std.specs.Option.{is_none}
use Rattle.tw_line.specs.Extremes.{greatest_below, iterate}
use Rattle.tw_line.specs.NearestMatch.{matches}
use Rattle.tw_line.specs.Cut.{Cut}
use Rattle.tw_line.specs.Edits.{after_kill, with_char, with_text}
use Rattle.tw_host.specs.ActionView.{ActionView, InsertChar, InsertText, Kill, KillAndMove}
use Rattle.tw_key_parts.specs.SearchWatch.{has_lines, searches_after}

-- no line contains a pattern
abbrev pub is_failing : List (List ℕ) → List ℕ → Bool
is_failing lines pattern = is_none (greatest_below (matches lines pattern) (length lines))

-- the pattern of a search after an action that leaves the search on
abbrev pub pattern_after : Option ActionView → Cut → Cut
pattern_after (Some (InsertChar count x)) cut = iterate (with_char x) count cut
pattern_after (Some (InsertText count text)) cut = iterate (with_text text) count cut
pattern_after (Some (Kill m)) cut = after_kill m m cut
pattern_after (Some (KillAndMove k m)) cut = after_kill k m cut
pattern_after _ cut = cut

-- the editor searches, and goes on after an action for what no line contains
abbrev pub fails_after : List (List ℕ) → Bool → Option ActionView → Cut → Bool
fails_after lines searching action cut =
    (searching && searches_after (has_lines lines) action searching) && is_failing lines (pattern_after action cut).line

-- what is said after the line of a search that fails, and of a history that has no lines to search
abbrev pub failing_text : Bool → List ℕ
failing_text searching = if searching then codes "  failing: no line has it" else codes "  no history to search"
