-- File names that complete what is begun, by listings of directories.
use Rattle.std.specs.Prelude.{ℕ, ◌-◌, List, [], ◌∷◌, ◌++◌, codes, length, filter, map, string_bytes, if◌then◌else◌}
use Rattle.tw_host.specs.CandidateView.{CandidateView}
use Rattle.tw_hosts.specs.Words.{word_candidate, before_word, begins_with, begun_part, is_same, last_word}
use Rattle.tw_line.specs.Cut.{Cut}
use Rattle.tw_hosts.specs.WordLists.{row_before}
use Rattle.tw_hosts.specs.declared.file_names.DirectoryEntry.{DirectoryEntry}
use Rattle.tw_hosts.specs.declared.file_names.Listing.{Listing}

-- the entries of the first listing of a directory, and none where it has no listing
abbrev pub entries_in : List Listing → List ℕ → List DirectoryEntry
entries_in [] directory = []
entries_in (listing ∷ listings) directory = if is_same (string_bytes listing.directory) directory then listing.entries.items else entries_in listings directory

-- a name, with a slash after that of a directory
abbrev pub entry_text : DirectoryEntry → List ℕ
entry_text entry = if entry.is_directory then string_bytes entry.name ++ codes "/" else string_bytes entry.name

-- the entries whose names begin with a text, each for the bytes that the text has before a cursor
abbrev pub names_from : List DirectoryEntry → ℕ → List ℕ → List CandidateView
names_from entries cursor text =
    map (λ entry. word_candidate (cursor - length text) cursor (entry_text entry)) (filter (λ entry. begins_with text (string_bytes entry.name)) entries)

-- what completes the path before the cursor, which goes back to a space or to the start of its row: names in the directory
-- that stands before its last slash
abbrev pub file_candidates : List Listing → Cut → List CandidateView
file_candidates listings cut =
    let path = last_word (row_before cut) in
    names_from (entries_in listings (before_word (codes "/") path)) cut.cursor (begun_part (codes "/") path)
