-- Words, whatever the case of their ASCII letters.
use Rattle.std.specs.Prelude.{ℕ, Bool, List}
use Rattle.std.specs.Str.{str_eq_ignore_ascii_case}

-- whether two texts are the same but for case
abbrev pub eq_ignore_case : List ℕ → List ℕ → Bool
eq_ignore_case text other = str_eq_ignore_ascii_case text other
