-- A name in quotes.
use Rattle.std.specs.Prelude.{ℕ, ◌==◌, List, [], ◌∷◌, ◌++◌, chars, encode_utf8, if◌then◌else◌}
use Rattle.std.specs.List.{flat_map}

-- a character of a name as it stands in quotes
abbrev pub doubled : ℕ → List ℕ
doubled c = if c == 34 then 34 ∷ 34 ∷ [] else encode_utf8 c

-- a name in quotes
abbrev pub quoted_name : List ℕ → List ℕ
quoted_name name = (34 ∷ flat_map doubled (chars name)) ++ 34 ∷ []
