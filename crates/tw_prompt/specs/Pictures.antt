-- Texts from elsewhere, as they can be shown at a terminal.
use Rattle.std.specs.Prelude.{ℕ, ◌+◌, ◌&&◌, ◌||◌, ◌==◌, Bool, true, false, List, chars, encode_utf8_all, if◌then◌else◌, leb, map}

-- whether a character is from one to another
abbrev pub is_within : ℕ → ℕ → ℕ → Bool
is_within low high c = leb low c && leb c high

-- a control character above ASCII, one that changes the direction of a text, or a separator of lines or paragraphs
abbrev pub is_unseen : ℕ → Bool
is_unseen c = is_within 128 159 c || (c == 1564 || (is_within 8206 8207 c || (is_within 8232 8238 c || is_within 8294 8297 c)))

-- the picture of a character that would do something at a terminal, and else the character; line feeds may stay
abbrev pub control_picture : Bool → ℕ → ℕ
control_picture keeps_rows c =
    if keeps_rows && c == 10 then c
    else if leb c 31 then c + 9216
    else if c == 127 then 9249
    else if is_unseen c then 63
    else c

abbrev pub with_pictures : Bool → List ℕ → List ℕ
with_pictures keeps_rows text = encode_utf8_all (map (control_picture keeps_rows) (chars text))

-- with line feeds, and without
abbrev pub visible : List ℕ → List ℕ
visible text = with_pictures false text

abbrev pub visible_rows : List ℕ → List ℕ
visible_rows text = with_pictures true text
