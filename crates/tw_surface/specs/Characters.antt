-- Printable ASCII, and the two characters that move the cursor.
use Rattle.std.specs.Prelude.{ℕ, Bool, ◌&&◌, ◌||◌, eqb, leb}

-- a printable character of ASCII
abbrev pub is_printable : ℕ → Bool
is_printable b = leb 32 b && leb b 126

-- carriage return
abbrev pub cr : ℕ
cr = 13

-- line feed
abbrev pub lf : ℕ
lf = 10

-- a printable character, CR or LF
abbrev pub is_plain : ℕ → Bool
is_plain b = eqb b cr || eqb b lf || is_printable b
