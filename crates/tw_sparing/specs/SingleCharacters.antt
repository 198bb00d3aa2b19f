-- Characters that take one cell.
use Rattle.std.specs.Prelude.{ℕ, zero, suc, ◌≡◌, ◌/◌, ◌%◌, ◌&&◌, ◌||◌, eqb, ltb, Bool, true, if◌then◌else◌, List, [], ◌∷◌, ◌++◌, encode_utf8}
use Rattle.std.specs.Char.{IsScalar}
use Rattle.tw_surface.specs.Characters.{is_printable}
use Rattle.tw_surface.specs.Width.{char_columns}
use Rattle.laws_screens.specs.StyledCells.{cluster_number}

-- a character of one column: a printable one of ASCII, or one above U+00A0
abbrev pub is_single : ℕ → Bool
is_single c = is_printable c || (ltb 160 c && eqb (char_columns c) 1)

-- the number that a cell has of a character: the number of its bytes
abbrev pub character_number : ℕ → ℕ
character_number c = if ltb c 128 then c else cluster_number (encode_utf8 c)

-- the number of a character of one column
abbrev pub IsSingle : ℕ → Type 0
IsSingle n = (c : ℕ) × IsScalar c × (is_single c ≡ true) × (n ≡ character_number c)

-- a number to base 256: its last k digits at most, and what is left before them
abbrev pub base_digits : ℕ → ℕ → List ℕ
base_digits zero n = n ∷ []
base_digits (suc k) n = if ltb n 256 then n ∷ [] else base_digits k (n / 256) ++ n % 256 ∷ []

-- the bytes of the character of a number
abbrev pub number_bytes : ℕ → List ℕ
number_bytes n = base_digits 3 n
