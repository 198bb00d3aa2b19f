-- What the bytes from a terminal say.
use Rattle.std.specs.Prelude.{ℕ, Bool, ◌+◌, ◌-◌, ◌*◌, ◌%◌, ◌^◌, ◌&&◌, ◌||◌, not, eqb, leb, ltb, min, if◌then◌else◌, List, [], ◌∷◌, Option, Some, None, length, take, drop, bit_or}
use Rattle.std.specs.List.{list_all, prefix_len, before_first, after_first, starts_with}
use Rattle.std.specs.Option.{option_map}
use Rattle.tw_input.specs.declared.key.KeyCode.{KeyCode}
use Rattle.tw_input.specs.declared.key.KeyCode.TheVariants.{Char, Backspace, Tab, Enter, Escape, Insert, Delete, Home, End, PageUp, PageDown, LeftArrow, RightArrow, UpArrow, DownArrow, ApplicationLeftArrow, ApplicationRightArrow, ApplicationUpArrow, ApplicationDownArrow, Function}
use Rattle.tw_input.specs.Modifiers.{modifier_bits, modifiers_of, none, shift, alt, ctrl}
use Rattle.tw_ansi.specs.declared.token.Token.{Token}
use Rattle.tw_ansi.specs.declared.token.Token.TheVariants.{Key, Size, Paste, Unknown}
use Rattle.tw_ansi.specs.declared.token.Scanned.{Scanned}

-- a number at which a key's sequence differs from the others of its kind, and the key
abbrev pub KeyRows : Type 0
KeyRows = List (ℕ × KeyCode)

-- the keys of single control characters
abbrev pub control_characters : KeyRows
control_characters = (8, Backspace) ∷ (9, Tab) ∷ (10, Enter) ∷ (13, Enter) ∷ (27, Escape) ∷ (127, Backspace) ∷ []

-- the keys of ESC O and a letter: those of the application mode, the keypad's signs and digits among them
abbrev pub application_keys : KeyRows
application_keys =
    (65, ApplicationUpArrow) ∷ (66, ApplicationDownArrow) ∷ (67, ApplicationRightArrow) ∷ (68, ApplicationLeftArrow)
    ∷ (70, End) ∷ (72, Home) ∷ (77, Enter) ∷ (80, Function 1) ∷ (81, Function 2) ∷ (82, Function 3) ∷ (83, Function 4)
    ∷ (88, Char 61) ∷ (106, Char 42) ∷ (107, Char 43) ∷ (108, Char 44) ∷ (109, Char 45) ∷ (110, Char 46) ∷ (111, Char 47)
    ∷ (112, Char 48) ∷ (113, Char 49) ∷ (114, Char 50) ∷ (115, Char 51) ∷ (116, Char 52) ∷ (117, Char 53)
    ∷ (118, Char 54) ∷ (119, Char 55) ∷ (120, Char 56) ∷ (121, Char 57) ∷ []

-- the keys of ESC [ and a letter
abbrev pub letter_keys : KeyRows
letter_keys =
    (65, UpArrow) ∷ (66, DownArrow) ∷ (67, RightArrow) ∷ (68, LeftArrow) ∷ (70, End) ∷ (72, Home)
    ∷ (80, Function 1) ∷ (81, Function 2) ∷ (82, Function 3) ∷ (83, Function 4) ∷ []

-- the keys of ESC [, a number and ~
abbrev pub number_keys : KeyRows
number_keys =
    (1, Home) ∷ (2, Insert) ∷ (3, Delete) ∷ (4, End) ∷ (5, PageUp) ∷ (6, PageDown) ∷ (7, Home) ∷ (8, End)
    ∷ (11, Function 1) ∷ (12, Function 2) ∷ (13, Function 3) ∷ (14, Function 4) ∷ (15, Function 5)
    ∷ (17, Function 6) ∷ (18, Function 7) ∷ (19, Function 8) ∷ (20, Function 9) ∷ (21, Function 10)
    ∷ (23, Function 11) ∷ (24, Function 12) ∷ []

-- the key of the row with this number
abbrev pub key_in : KeyRows → ℕ → Option KeyCode
key_in [] n = None
key_in (row ∷ rows) n = if eqb n row.0 then Some row.1 else key_in rows n

-- a key with the bits of its modifiers
abbrev pub key_token : KeyCode → ℕ → Token
key_token key bits = Key (record { key = key; modifiers = modifiers_of bits })

-- a token that takes so many bytes
abbrev pub scanned_as : Token → ℕ → Option Scanned
scanned_as token used = Some (record { token = token; used = used })

-- a byte that is no part of a character
abbrev pub replacement : Option Scanned
replacement = scanned_as (key_token (Char 65533) none) 1

-- more bytes are wanted, unless these are the last ones
abbrev pub unless_last : Bool → Option Scanned → Option Scanned
unless_last is_last at_the_end = if is_last then at_the_end else None

-- whether a byte can follow the first one of a character
abbrev pub is_continuation : ℕ → Bool
is_continuation b = leb 128 b && ltb b 192

-- how many bytes follow the first byte of a character
abbrev pub following_len : ℕ → ℕ
following_len b = if ltb b 224 then 1 else if ltb b 240 then 2 else 3

-- the code that the bytes of a character write in UTF-8, by its first byte and those that follow
abbrev pub code_of : ℕ → List ℕ → ℕ
code_of b (c ∷ []) = b % 32 * 64 + c % 64
code_of b (c ∷ d ∷ []) = b % 16 * 4096 + c % 64 * 64 + d % 64
code_of b (c ∷ d ∷ e ∷ []) = b % 8 * 262144 + c % 64 * 4096 + d % 64 * 64 + e % 64
code_of b _ = 0

-- the least code that takes so many bytes after the first one
abbrev pub least_code : ℕ → ℕ
least_code following = if eqb following 1 then 128 else if eqb following 2 then 2048 else 65536

-- whether a number is the code of a character
abbrev pub is_code : ℕ → Bool
is_code c = ltb c 55296 || (leb 57344 c && ltb c 1114112)

-- a character that is written in as few bytes as it takes
abbrev pub whole_character : ℕ → List ℕ → Option Scanned
whole_character b following =
    let code = code_of b following in
    if leb (least_code (length following)) code && is_code code then scanned_as (key_token (Char code) none) (1 + length following) else replacement

-- a character of several bytes: the first byte, and those that are there of the ones that should follow
abbrev pub wide_character : Bool → ℕ → List ℕ → Option Scanned
wide_character is_last b following =
    if not (list_all is_continuation following) then replacement
    else if ltb (length following) (following_len b) then unless_last is_last replacement
    else whole_character b following

-- a character that is no control character, by its first byte and what stands after it
abbrev pub typed_at : Bool → ℕ → List ℕ → Option Scanned
typed_at is_last b bytes =
    if ltb b 127 then scanned_as (key_token (Char b) none) 1
    else if ltb b 194 || leb 245 b then replacement
    else wide_character is_last b (take (following_len b) bytes)

-- the key of a control character that has no key of its own: a letter or a sign with CTRL
abbrev pub with_control : ℕ → Option Scanned
with_control b = if eqb b 0 then scanned_as (key_token (Char 32) ctrl) 1 else scanned_as (key_token (Char (b + 64)) ctrl) 1

-- the first of two answers
abbrev pub key_or : Option KeyCode → Option Scanned → Option Scanned
key_or (Some key) other = scanned_as (key_token key none) 1
key_or None other = other

-- a character or a control key, by its first byte and what stands after it
abbrev pub character_at : Bool → ℕ → List ℕ → Option Scanned
character_at is_last b bytes =
    key_or (key_in control_characters b) (if ltb b 32 then with_control b else typed_at is_last b bytes)

-- the same key, with ALT held too, after an ESC
abbrev pub with_alt : Token → Token
with_alt (Key event) = key_token event.key (bit_or (modifier_bits event.modifiers) alt)
with_alt other = other

abbrev pub behind_escape : Option Scanned → Option Scanned
behind_escape (Some s) = scanned_as (with_alt s.token) (s.used + 1)
behind_escape None = None

-- after ESC O: a key of the application mode, or ALT and O
abbrev pub application_key : Option KeyCode → Option Scanned
application_key (Some key) = scanned_as (key_token key none) 3
application_key None = scanned_as (key_token (Char 79) alt) 2

abbrev pub application_at : Bool → List ℕ → Option Scanned
application_at is_last [] = unless_last is_last (scanned_as (key_token (Char 79) alt) 2)
application_at is_last (b ∷ bytes) = application_key (key_in application_keys b)

-- whether a byte stands between ESC [ and the letter that ends the sequence
abbrev pub is_parameter : ℕ → Bool
is_parameter b = leb 32 b && ltb b 64

-- whether a byte ends such a sequence
abbrev pub is_letter : ℕ → Bool
is_letter b = leb 64 b && ltb b 127

-- whether a byte is a digit
abbrev pub is_digit : ℕ → Bool
is_digit b = leb 48 b && ltb b 58

-- whether a byte is a digit or a semicolon
abbrev pub is_numeric : ℕ → Bool
is_numeric b = is_digit b || eqb b 59

abbrev pub is_semicolon : ℕ → Bool
is_semicolon b = eqb b 59

-- the greatest number that is told from the ones above it
abbrev pub most : ℕ
most = 2 ^ 32 - 1

-- the number that digits write after those of n
abbrev pub value_after : ℕ → List ℕ → ℕ
value_after n [] = n
value_after n (digit ∷ digits) = value_after (n * 10 + (digit - 48)) digits

-- the number that digits write, and the greatest one in place of one above it
abbrev pub number_of : List ℕ → ℕ
number_of digits = min (value_after 0 digits) most

-- the first number of some parameters, 0 where none stands there
abbrev pub first_number : List ℕ → ℕ
first_number parameters = number_of (before_first is_semicolon parameters)

-- the second one
abbrev pub second_number : List ℕ → ℕ
second_number parameters = first_number (after_first is_semicolon parameters)

-- the third one
abbrev pub third_number : List ℕ → ℕ
third_number parameters = second_number (after_first is_semicolon parameters)

-- the bits of the modifiers that a number tells: one more than a sum of 1 for SHIFT, 2 for ALT, 4 for CTRL, 8 for SUPER
abbrev pub told_bits : ℕ → ℕ
told_bits number = (number - 1) % 16 * 2

-- the key of a sequence, by its first number and its letter
abbrev pub sequence_key : ℕ → ℕ → Option KeyCode
sequence_key number letter = if eqb letter 126 then key_in number_keys number else key_in letter_keys letter

abbrev pub key_or_unknown : Option KeyCode → ℕ → Token
key_or_unknown (Some key) bits = key_token key bits
key_or_unknown None bits = Unknown

-- what two numbers and a letter say: the cursor's place, Tab with SHIFT, or a key
abbrev pub numbers_token : ℕ → ℕ → ℕ → Token
numbers_token first second letter =
    if eqb letter 82 && (ltb 1 first && ltb 0 second) then Size second first
    else if eqb letter 90 then key_token Tab shift
    else key_or_unknown (sequence_key first letter) (told_bits second)

-- a size that the terminal tells by itself
abbrev pub size_token : ℕ → ℕ → Token
size_token rows cols = if ltb 0 rows && ltb 0 cols then Size cols rows else Unknown

-- what some parameters and a letter say: a size after 48 and before t, as terminals tell it in mode 2048
unfoldable pub parameters_token : List ℕ → ℕ → Token
parameters_token parameters letter =
    if eqb letter 116 && eqb (first_number parameters) 48 then size_token (second_number parameters) (third_number parameters)
    else numbers_token (first_number parameters) (second_number parameters) letter

-- what ends a pasted text
abbrev pub paste_end : List ℕ
paste_end = 27 ∷ 91 ∷ 50 ∷ 48 ∷ 49 ∷ 126 ∷ []

-- the bytes before the first end of a pasted text
abbrev pub paste_len : List ℕ → Option ℕ
paste_len [] = None
paste_len (b ∷ bytes) = if starts_with eqb (b ∷ bytes) paste_end then Some 0 else option_map (λ n. n + 1) (paste_len bytes)

-- a pasted text after a sequence of so many bytes: all up to its first end, or to the last byte
abbrev pub paste_of : Bool → ℕ → ℕ → Option ℕ → Option Scanned
paste_of is_last from left (Some len) = scanned_as (Paste from len) (from + len + 6)
paste_of is_last from left None = unless_last is_last (scanned_as (Paste from left) (from + left))

abbrev pub paste_at : Bool → ℕ → List ℕ → Option Scanned
paste_at is_last from bytes = paste_of is_last from (length bytes) (paste_len bytes)

-- a mouse's report after ESC [ M: three bytes, of which so many are there
abbrev pub mouse_report : Bool → ℕ → Option Scanned
mouse_report is_last left =
    if ltb left 3 then unless_last is_last (scanned_as Unknown (3 + left)) else scanned_as Unknown 6

-- a sequence with these parameters and this letter, and what stands after it
abbrev pub sequence_at : Bool → List ℕ → ℕ → List ℕ → Option Scanned
sequence_at is_last parameters letter bytes =
    if not (list_all is_numeric parameters) then scanned_as Unknown (3 + length parameters)
    else if eqb letter 126 && eqb (first_number parameters) 200 then paste_at is_last (3 + length parameters) bytes
    else if eqb letter 77 && eqb (length parameters) 0 then mouse_report is_last (length bytes)
    else scanned_as (parameters_token parameters letter) (3 + length parameters)

-- parameters, and the byte after them: where it ends no sequence it is not taken
abbrev pub ended_at : Bool → List ℕ → List ℕ → Option Scanned
ended_at is_last parameters [] = unless_last is_last (scanned_as (key_token (Char 91) alt) 2)
ended_at is_last parameters (b ∷ bytes) =
    if is_letter b then sequence_at is_last parameters b bytes else scanned_as Unknown (2 + length parameters)

-- after ESC [: parameters, a letter and what stands after it
abbrev pub control_at : Bool → List ℕ → Option Scanned
control_at is_last bytes =
    ended_at is_last (take (prefix_len is_parameter bytes) bytes) (drop (prefix_len is_parameter bytes) bytes)

-- whether a byte begins a control string after ESC: ] or P
abbrev pub opens_string : ℕ → Bool
opens_string b = eqb b 93 || eqb b 80

-- whether a byte stands first in a string that a terminal answers: a digit, ! or >
abbrev pub begins_answer : ℕ → Bool
begins_answer b = is_digit b || (eqb b 33 || eqb b 62)

-- whether a byte can stand in a string: each but a control character
abbrev pub is_string_byte : ℕ → Bool
is_string_byte b = leb 32 b && not (eqb b 127)

-- a string of so many bytes before an ESC, by what stands after that: with \ it ends the string, else it is not taken
abbrev pub string_before_escape : Bool → ℕ → List ℕ → Option Scanned
string_before_escape is_last used [] = unless_last is_last (scanned_as Unknown used)
string_before_escape is_last used (b ∷ bytes) =
    if eqb b 92 then scanned_as Unknown (used + 2) else scanned_as Unknown used

-- a string of so many bytes, by what stands after them: BEL ends it, and so does ESC \, and no other byte is taken
abbrev pub string_of : Bool → ℕ → List ℕ → Option Scanned
string_of is_last used [] = unless_last is_last (scanned_as Unknown used)
string_of is_last used (b ∷ bytes) =
    if eqb b 27 then string_before_escape is_last used bytes
    else if eqb b 7 then scanned_as Unknown (used + 1)
    else scanned_as Unknown used

-- after ESC ] or ESC P: all up to the first control character, and what ends the string
abbrev pub whole_string : Bool → List ℕ → Option Scanned
whole_string is_last bytes =
    let len = prefix_len is_string_byte bytes in string_of is_last (2 + len) (drop len bytes)

-- after ESC ] or ESC P: a string, where a byte stands there that begins an answer, or else that character with ALT
abbrev pub string_at : Bool → ℕ → List ℕ → Option Scanned
string_at is_last opening [] = unless_last is_last (scanned_as (key_token (Char opening) alt) 2)
string_at is_last opening (b ∷ bytes) =
    if begins_answer b then whole_string is_last (b ∷ bytes) else scanned_as (key_token (Char opening) alt) 2

-- an ESC that stands for itself
abbrev pub escape_alone : Option Scanned
escape_alone = scanned_as (key_token Escape none) 1

-- the key of a letter after ESC ESC [ or ESC ESC O, with ALT, or an ESC that stands for itself
abbrev pub alt_key : Option KeyCode → Option Scanned
alt_key (Some key) = scanned_as (key_token key alt) 4
alt_key None = escape_alone

abbrev pub alt_key_at : Bool → KeyRows → List ℕ → Option Scanned
alt_key_at is_last rows [] = unless_last is_last escape_alone
alt_key_at is_last rows (letter ∷ bytes) = alt_key (key_in rows letter)

-- after ESC ESC: the bytes of an arrow or of another key with a letter, whose ALT some terminals tell so
abbrev pub second_escape_at : Bool → List ℕ → Option Scanned
second_escape_at is_last [] = unless_last is_last escape_alone
second_escape_at is_last (b ∷ bytes) =
    if eqb b 91 then alt_key_at is_last letter_keys bytes
    else if eqb b 79 then alt_key_at is_last application_keys bytes
    else escape_alone

-- after ESC: nothing or another ESC, a sequence, a string, or a key with ALT
abbrev pub escape_at : Bool → List ℕ → Option Scanned
escape_at is_last [] = escape_alone
escape_at is_last (b ∷ bytes) =
    if eqb b 27 then second_escape_at is_last bytes
    else if eqb b 91 then control_at is_last bytes
    else if eqb b 79 then application_at is_last bytes
    else if opens_string b then string_at is_last b bytes
    else behind_escape (character_at is_last b bytes)

-- the token at the front of some bytes, or none where more are wanted
unfoldable pub token_at : Bool → List ℕ → Option Scanned
token_at is_last [] = None
token_at is_last (b ∷ bytes) = if eqb b 27 then escape_at is_last bytes else character_at is_last b bytes
