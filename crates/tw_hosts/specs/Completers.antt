-- Where in a line a completion is asked for, and what completes there.
use Rattle.std.specs.Prelude.{ℕ, List, [], Option, option_map, ◌==◌, Bool, true, not, ◌&&◌, length, string_bytes}
use Rattle.std.specs.List.{find}
use Rattle.std.specs.Str.{trim_start}
use Rattle.tw_host.specs.CandidateView.{CandidateView}
use Rattle.tw_line.specs.Cut.{Cut}
use Rattle.tw_hosts.specs.Words.{after_word, begins_with, is_same, leading_word}
use Rattle.tw_hosts.specs.FileNames.{file_candidates}
use Rattle.tw_hosts.specs.WordLists.{listed_candidates, row_before}
use Rattle.tw_hosts.specs.declared.completers.Completer.{Completer}
use Rattle.tw_hosts.specs.declared.completers.Completer.TheVariants as completer
use Rattle.tw_hosts.specs.declared.completers.Context.{Context}
use Rattle.tw_hosts.specs.declared.completers.Context.TheVariants as context
use Rattle.tw_hosts.specs.declared.completers.ContextCompleter.{ContextCompleter}
use Rattle.tw_hosts.specs.declared.file_names.Listing.{Listing}

-- whether a text has no space after its first word
abbrev pub is_word_alone : List ℕ → Bool
is_word_alone text = length (after_word text) == 0

-- whether what stands before a cursor is in a context, whatever whitespace it begins with
abbrev pub is_in : Context → List ℕ → Bool
is_in context.Anywhere before = true
is_in (context.FirstWord prefix) before = is_word_alone (trim_start before) && begins_with (string_bytes prefix) (leading_word (trim_start before))
is_in (context.ArgumentOf command) before = not (is_word_alone (trim_start before)) && is_same (leading_word (trim_start before)) (string_bytes command)

-- the completer of the first context in which stands what is before a cursor
abbrev pub completer_for : List ContextCompleter → List ℕ → Option Completer
completer_for rows before = option_map (λ row. row.completer) (find (λ row. is_in row.context before) rows)

-- what a completer offers
abbrev pub candidates_by : List Listing → Completer → Cut → List CandidateView
candidates_by listings (completer.Words list) cut = listed_candidates list cut
candidates_by listings completer.FileNames cut = file_candidates listings cut
candidates_by listings completer.Nothing cut = []

-- what completers offer, if one of them is asked there
abbrev pub context_candidates : List ContextCompleter → List Listing → Cut → Option (List CandidateView)
context_candidates rows listings cut = option_map (λ completer. candidates_by listings completer cut) (completer_for rows (row_before cut))
