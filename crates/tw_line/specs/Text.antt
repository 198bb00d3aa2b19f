-- What is seen of a text: its bytes and characters, and how many it has room for.
use Rattle.std.specs.Prelude.{ℕ, ◌+◌, ◌<◌, ◌⊎◌, List, length}
use Rattle.std.specs.Str.{chars}
use Rattle.std.specs.String.{string_bytes, string_capacity}
use Rattle.std.specs.Vec.{vec_capacity}
use Rattle.tw_line.specs.Indices.{index_of}
use Rattle.tw_line.specs.declared.text.Text.{Text}

-- the bytes of the text
abbrev pub bytes_of : Text → List ℕ
bytes_of t = string_bytes t.line

-- the characters of the text
abbrev pub chars_of : Text → List ℕ
chars_of t = chars (bytes_of t)

-- how many characters of the text stand before the offset
abbrev pub index_in : Text → ℕ → ℕ
index_in t at = index_of (bytes_of t) at

-- how many bytes the text can hold without more memory
abbrev pub room_of : Text → ℕ
room_of t = string_capacity t.line

-- how many starts of characters the text can hold without more memory
abbrev pub places_of : Text → ℕ
places_of t = vec_capacity t.starts

-- there is no room, without more memory, for so many bytes more or for so many characters more
abbrev pub LacksRoom : ℕ → ℕ → Text → Type 0
LacksRoom bytes characters t =
    (room_of t < length (bytes_of t) + bytes) ⊎ (places_of t < length (chars_of t) + characters)
