-- Lines that stand one after the other in one text.
use Rattle.std.specs.Prelude.{◌≡◌, ℕ, ◌+◌, ◌≤◌, List, [], ◌∷◌, length, slice_range}
use Rattle.std.specs.Str.{IsCharBoundary}

-- the end offset of each line, where the first one starts at an offset
abbrev pub ends_from : ℕ → List (List ℕ) → List ℕ
ends_from start [] = []
ends_from start (line ∷ lines) = (start + length line) ∷ ends_from (start + length line) lines

-- the lines of a text from an offset on, by the end offset of each
abbrev pub lines_from : List ℕ → ℕ → List ℕ → List (List ℕ)
lines_from text start [] = []
lines_from text start (end ∷ ends) = slice_range text start end ∷ lines_from text end ends

-- lines with these end offsets make up the text from an offset on
abbrev pub AreEnds : List ℕ → ℕ → List ℕ → Type 0
AreEnds text start [] = start ≡ length text
AreEnds text start (end ∷ ends) = record { order : start ≤ end; boundary : IsCharBoundary text end; rest : AreEnds text end ends }
