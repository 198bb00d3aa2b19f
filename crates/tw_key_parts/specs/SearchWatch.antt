-- Whether the editor searches its history, as its actions tell.
use Rattle.std.specs.Prelude.{ℕ, Bool, true, false, ◌||◌, List, [], ◌∷◌, Option, Some}
use Rattle.tw_host.specs.ActionView.{ActionView, AcceptLine, Cancel, EndOfFile, Move, Complete, HistoryIncSearchBackwards, HistoryIncSearchForwards}

-- whether there are lines
abbrev pub has_lines : List (List ℕ) → Bool
has_lines [] = false
has_lines (line ∷ lines) = true

-- whether the editor searches after an action, if there is one, in a history that has lines or none: a search begins
-- where there are lines; a movement, a completion and what ends the reading leave it; all else lets it be as it was
abbrev pub searches_after : Bool → Option ActionView → Bool → Bool
searches_after lines (Some HistoryIncSearchBackwards) before = before || lines
searches_after lines (Some HistoryIncSearchForwards) before = before || lines
searches_after lines (Some (Move m)) before = false
searches_after lines (Some Complete) before = false
searches_after lines (Some AcceptLine) before = false
searches_after lines (Some Cancel) before = false
searches_after lines (Some EndOfFile) before = false
searches_after lines _ before = before
