-- The steps of an incremental search.
use Rattle.std.specs.Prelude.{⊤, ℕ, List, Option, Some, None}
use Rattle.tw_line.specs.Cut.{Cut, cut_at, empty_cut}
use Rattle.tw_line.specs.NearestMatch.{MatchView, nearest_match, last_index, next_index}
use Rattle.tw_session.specs.EditState.{EditState, ModeView, Editing, Searching}
use Rattle.tw_line.specs.declared.history.SearchStyle.{SearchStyle}
use Rattle.tw_line.specs.declared.history.SearchStyle.TheVariants.{Substring}
use Rattle.tw_line.specs.declared.history.SearchDirection.{SearchDirection}

-- the mode is that of a search
abbrev pub IsSearching : ModeView → Type 0
IsSearching (Searching style direction matching) = ⊤
IsSearching _ = ⊥

-- the state with a search left, by its mode
abbrev pub search_left_in : EditState → ModeView → EditState
search_left_in s (Searching style direction matching) = record s { cut = matching; mode = Editing }
search_left_in s _ = s

-- a search is left: the matching line comes in
abbrev pub search_left : EditState → EditState
search_left s = search_left_in s s.mode

-- the nearest match from an index on, if there is an index
abbrev pub nearest_match_from : List (List ℕ) → Option ℕ → SearchDirection → List ℕ → Option MatchView
nearest_match_from lines None direction pattern = None
nearest_match_from lines (Some start) direction pattern = nearest_match lines start direction pattern

-- a search shows a match; without one it shows what it showed
abbrev pub shown_match : SearchStyle → SearchDirection → Cut → EditState → Option MatchView → EditState
shown_match style direction matching s None = record s { mode = Searching style direction matching }
shown_match style direction matching s (Some m) = record s { history_index = Some m.idx; mode = Searching style direction (cut_at m.line m.cursor) }

-- the state with the pattern applied again, by its mode
abbrev pub searched_again_in : List (List ℕ) → EditState → ModeView → EditState
searched_again_in lines s (Searching style direction matching) =
    shown_match style direction matching (record s { history_index = None }) (nearest_match_from lines (last_index lines) direction s.cut.line)
searched_again_in lines s _ = s

-- while searching, the pattern is applied again from the last line on
unfoldable pub searched_again : List (List ℕ) → EditState → EditState
searched_again lines s = searched_again_in lines s s.mode

-- where a search starts: beside the index, or without one at the last line
abbrev pub search_start : List (List ℕ) → SearchDirection → Option ℕ → Option ℕ
search_start lines direction None = last_index lines
search_start lines direction (Some index) = next_index direction index

-- the pattern is sought from an index on; without one nothing is done
abbrev pub search_step_from : List (List ℕ) → SearchStyle → SearchDirection → Cut → EditState → Option ℕ → EditState
search_step_from lines style direction matching s None = s
search_step_from lines style direction matching s (Some start) = shown_match style direction matching s (nearest_match lines start direction s.cut.line)

-- a search begins with the empty pattern
abbrev pub begun_search : List (List ℕ) → SearchDirection → EditState → EditState
begun_search lines direction s =
    search_step_from lines Substring direction empty_cut (record s { cut = empty_cut; history_index = None }) (last_index lines)

-- a search goes on, or one begins
abbrev pub search_step_in : List (List ℕ) → SearchDirection → EditState → ModeView → EditState
search_step_in lines direction s (Searching style before matching) =
    search_step_from lines style direction matching s (search_start lines direction s.history_index)
search_step_in lines direction s _ = begun_search lines direction s

-- one step of a search
unfoldable pub search_step : List (List ℕ) → SearchDirection → EditState → EditState
search_step lines direction s = search_step_in lines direction s s.mode
