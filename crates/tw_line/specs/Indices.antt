-- The index of a character, and the byte offset at which it starts.
use Rattle.std.specs.Prelude.{ℕ, List, length, take, encode_utf8_all}
use Rattle.std.specs.Str.{chars}

-- how many characters stand before the offset
unfoldable pub index_of : List ℕ → ℕ → ℕ
index_of text at = length (chars (take at text))

-- the offset at which the character of this index starts, or the length for the number of characters
unfoldable pub offset_of : List ℕ → ℕ → ℕ
offset_of text index = length (encode_utf8_all (take index (chars text)))
