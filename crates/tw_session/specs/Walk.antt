-- Steps through the history, while not searching.
use Rattle.std.specs.Prelude.{ℕ, ◌+◌, ◌-◌, List, Option, Some, None, slice_get}
use Rattle.tw_line.specs.Cut.{Cut, at_end, empty_cut}
use Rattle.tw_line.specs.NearestMatch.{last_index}
use Rattle.tw_session.specs.EditState.{EditState}

-- the line of an index comes in
abbrev pub with_line_of : EditState → ℕ → List ℕ → EditState
with_line_of s i line = record s { cut = at_end line; history_index = Some i }

-- the line of an index comes in, if there is one
abbrev pub with_line_if : EditState → ℕ → Option (List ℕ) → EditState
with_line_if s i None = s
with_line_if s i (Some line) = with_line_of s i line

-- the typed line is kept, and the last line comes in, if there is one
abbrev pub previous_of_typed : List (List ℕ) → EditState → Option ℕ → EditState
previous_of_typed lines s None = s
previous_of_typed lines s (Some last) = with_line_if (record s { typed_line = Some s.cut.line }) last (slice_get lines last)

-- the line before an index comes in; without an index the last line
abbrev pub previous_from : List (List ℕ) → EditState → Option ℕ → EditState
previous_from lines s (Some p) = with_line_if s (p - 1) (slice_get lines (p - 1))
previous_from lines s None = previous_of_typed lines s (last_index lines)

-- one step back
unfoldable pub previous_step : List (List ℕ) → EditState → EditState
previous_step lines s = previous_from lines s s.history_index

-- the typed line, or without one the empty line
abbrev pub typed_cut : Option (List ℕ) → Cut
typed_cut None = empty_cut
typed_cut (Some line) = at_end line

-- after the last line the history is left: the typed line comes back, or the line is cleared; then nothing is kept, and
-- there is no index
abbrev pub with_typed_line : EditState → EditState
with_typed_line s = record s { cut = typed_cut s.typed_line; history_index = None; typed_line = None }

-- the line of an index comes in, or where there is none the history is left
abbrev pub with_line_or_typed : EditState → ℕ → Option (List ℕ) → EditState
with_line_or_typed s i None = with_typed_line s
with_line_or_typed s i (Some line) = with_line_of s i line

-- the line after an index comes in; without an index nothing does
abbrev pub next_from : List (List ℕ) → EditState → Option ℕ → EditState
next_from lines s None = s
next_from lines s (Some p) = with_line_or_typed s (p + 1) (slice_get lines (p + 1))

-- one step forth
unfoldable pub next_step : List (List ℕ) → EditState → EditState
next_step lines s = next_from lines s s.history_index
