-- The text that a directive's text stands for.
use Rattle.std.specs.Prelude.{ℕ, ◌&&◌, eqb, if◌then◌else◌, List, [], ◌∷◌}

-- CR LF in place of each backslash that stands before the letter n, with that letter; all else is itself
abbrev pub unescaped_text : List ℕ → List ℕ
unescaped_text [] = []
unescaped_text (b ∷ []) = b ∷ []
unescaped_text (b ∷ c ∷ text) = if eqb b 92 && eqb c 110 then 13 ∷ 10 ∷ unescaped_text text else b ∷ unescaped_text (c ∷ text)
