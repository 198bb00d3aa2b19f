-- The lines of a text between its pairs of CR and LF.
use Rattle.tw_surface.specs.Characters.{cr, lf}
use Rattle.std.specs.Prelude.{ℕ, ◌+◌, ◌-◌, ◌/◌, max, ◌&&◌, eqb, if◌then◌else◌, List, [], ◌∷◌, ◌++◌, length}

-- a character before a text with these lines: CR before a line that begins with LF ends an empty line there
abbrev pub before_lines : ℕ → List (List ℕ) → List (List ℕ)
before_lines b [] = (b ∷ []) ∷ []
before_lines b ([] ∷ more) = (b ∷ []) ∷ more
before_lines b ((c ∷ line) ∷ more) = if eqb b cr && eqb c lf then [] ∷ line ∷ more else (b ∷ c ∷ line) ∷ more

-- the lines of a text between its pairs of CR and LF
abbrev pub lines_of : List ℕ → List (List ℕ)
lines_of [] = [] ∷ []
lines_of (b ∷ text) = before_lines b (lines_of text)

-- the text of a list of lines, with CR LF between each two
abbrev pub text_of_lines : List (List ℕ) → List ℕ
text_of_lines [] = []
text_of_lines (line ∷ []) = line
text_of_lines (line ∷ next ∷ more) = line ++ cr ∷ lf ∷ text_of_lines (next ∷ more)

-- the rows that a line takes
abbrev pub rows_of : ℕ → List ℕ → ℕ
rows_of width line = max 1 ((length line + width - 1) / width)
