-- Words that complete what is begun, up to a delimiter.
use Rattle.std.specs.Prelude.{ℕ, List, take, string_bytes}
use Rattle.tw_host.specs.CandidateView.{CandidateView}
use Rattle.tw_hosts.specs.Words.{words_from, begun_part, end_row, texts_of}
use Rattle.tw_line.specs.Cut.{Cut}
use Rattle.tw_hosts.specs.declared.word_lists.WordList.{WordList}

-- what stands before the cursor in its row, which begins after a line feed
abbrev pub row_before : Cut → List ℕ
row_before cut = end_row (take cut.cursor cut.line)

-- what completes the word before the cursor
abbrev pub listed_candidates : WordList → Cut → List CandidateView
listed_candidates list cut =
    words_from list.ignores_case (texts_of list.words.items) (begun_part (string_bytes list.delimiters) (row_before cut)) cut.cursor
