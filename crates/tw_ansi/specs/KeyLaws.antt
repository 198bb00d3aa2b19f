-- Laws of the tokens.
use Rattle.std.specs.Prelude.{◌≡◌, ◌≢◌, ◌≤◌, ◌<◌, ◌+◌, ◌*◌, ◌^◌, min, ℕ, Bool, true, false, List, [], ◌∷◌, ◌++◌, Some, None, IfSome, IsSome, ◌⊎◌, take, length, encode_utf8, codes}
use Rattle.std.specs.Char.{IsScalar}
use Rattle.std.specs.Fmt.{decimal}
use Rattle.std.specs.List.{AllByRecursion, list_all}
use Rattle.tw_input.specs.declared.key.KeyCode.{KeyCode}
use Rattle.tw_input.specs.declared.key.KeyCode.TheVariants.{Char, Escape, Tab}
use Rattle.tw_input.specs.Modifiers.{none, shift, alt, ctrl}
use Rattle.tw_ansi.specs.declared.token.Token.{Token}
use Rattle.tw_ansi.specs.declared.token.Token.TheVariants.{Size, Paste, Unknown}
use Rattle.tw_ansi.specs.declared.token.Scanned.{Scanned}
use Rattle.tw_ansi.specs.KeyBytes.{token_at, escape_alone, scanned_as, key_token, behind_escape, key_in, control_characters, application_keys, letter_keys, number_keys, most, paste_end, replacement, following_len, is_continuation, is_parameter, is_numeric, is_letter, opens_string, begins_answer, is_string_byte, unless_last}
use Rattle.tw_ansi.specs.Sequences.{sequence}

-- an ESC alone is Escape, and may begin another key where bytes follow
abbrev pub lone_escape : List ℕ
lone_escape = 27 ∷ []

-- what is found stays found, whatever bytes follow: so tokens do not depend on how the bytes come in pieces
abbrev pub StaysFound : Type 0
StaysFound = (is_last : Bool) (bytes more : List ℕ) (s : Scanned)
    → bytes ≢ lone_escape → token_at false bytes ≡ Some s → token_at is_last (bytes ++ more) ≡ Some s

-- a token takes at least one byte, and none that is not there
abbrev pub TakesBytes : Type 0
TakesBytes = (is_last : Bool) (bytes : List ℕ) → IfSome (token_at is_last bytes) (λ s. (0 < s.used) × (s.used ≤ length bytes))

-- where no bytes follow there is a token
abbrev pub EndsWithToken : Type 0
EndsWithToken = (bytes : List ℕ) → 0 < length bytes → IsSome (token_at true bytes)

-- bytes that give a token and are taken whole, whatever bytes follow
abbrev pub IsTaken : List ℕ → Token → Type 0
IsTaken bytes token = (is_last : Bool) (rest : List ℕ) → token_at is_last (bytes ++ rest) ≡ scanned_as token (length bytes)

-- bytes that give a key with these modifiers and are taken whole, whatever bytes follow
abbrev pub IsTyped : List ℕ → KeyCode → ℕ → Type 0
IsTyped bytes key bits = IsTaken bytes (key_token key bits)

-- a printable character of ASCII is the key of that character
abbrev pub PrintableKeys : Type 0
PrintableKeys = (b : ℕ) → 32 ≤ b → b < 127 → IsTyped (b ∷ []) (Char b) none

-- ESC where no byte follows
abbrev pub EscapeKey : Type 0
EscapeKey = (is_last : Bool) → token_at is_last lone_escape ≡ scanned_as (key_token Escape none) 1

-- these bytes begin with an ESC that stands for itself, whatever follows
abbrev pub IsEscape : List ℕ → Type 0
IsEscape bytes = (is_last : Bool) (rest : List ℕ) → token_at is_last (bytes ++ rest) ≡ escape_alone

-- ESC before another ESC, but for the bytes of a key that has a letter
abbrev pub EscapePair : Type 0
EscapePair = ((b : ℕ) → b ≢ 91 → b ≢ 79 → IsEscape (27 ∷ 27 ∷ b ∷ []))
    × ((b : ℕ) → key_in letter_keys b ≡ None → IsEscape (27 ∷ 27 ∷ 91 ∷ b ∷ []))
    × ((b : ℕ) → key_in application_keys b ≡ None → IsEscape (27 ∷ 27 ∷ 79 ∷ b ∷ []))

-- and where nothing follows
abbrev pub EscapesAtTheEnd : Type 0
EscapesAtTheEnd = (token_at true (27 ∷ 27 ∷ []) ≡ escape_alone)
    × (token_at true (27 ∷ 27 ∷ 91 ∷ []) ≡ escape_alone)
    × (token_at true (27 ∷ 27 ∷ 79 ∷ []) ≡ escape_alone)

-- ESC before the bytes of a key that has a letter is ALT with it
abbrev pub AltLetterKeys : Type 0
AltLetterKeys = AllByRecursion (λ row. IsTyped (27 ∷ 27 ∷ 91 ∷ row.0 ∷ []) row.1 alt) letter_keys
    × AllByRecursion (λ row. IsTyped (27 ∷ 27 ∷ 79 ∷ row.0 ∷ []) row.1 alt) application_keys

-- ESC before a key's bytes that begin no sequence with it is ALT
abbrev pub AltKeys : Type 0
AltKeys = (is_last : Bool) (b : ℕ) (rest : List ℕ) → b ≢ 27 → b ≢ 91 → b ≢ 79 → b ≢ 93 → b ≢ 80
    → token_at is_last (27 ∷ b ∷ rest) ≡ behind_escape (token_at is_last (b ∷ rest))

-- and so it is before ] or P, where no byte follows, or one that begins no answer
abbrev pub AltOpenings : Type 0
AltOpenings = (opening : ℕ) → opens_string opening ≡ true
    → (token_at true (27 ∷ opening ∷ []) ≡ scanned_as (key_token (Char opening) alt) 2)
    × ((is_last : Bool) (b : ℕ) (rest : List ℕ) → begins_answer b ≡ false → token_at is_last (27 ∷ opening ∷ b ∷ rest) ≡ scanned_as (key_token (Char opening) alt) 2)

-- a character of several bytes in UTF-8 is the key of that character
abbrev pub CharacterKeys : Type 0
CharacterKeys = (c : ℕ) → 128 ≤ c → IsScalar c → IsTyped (encode_utf8 c) (Char c) none

-- and with ESC before it the key with ALT
abbrev pub AltCharacterKeys : Type 0
AltCharacterKeys = (c : ℕ) → 128 ≤ c → IsScalar c → IsTyped (27 ∷ encode_utf8 c) (Char c) alt

-- a control character with a row of its own, but for ESC
abbrev pub ControlKeys : Type 0
ControlKeys = AllByRecursion (λ row. row.0 ≢ 27 → IsTyped (row.0 ∷ []) row.1 none) control_characters

-- any other control character is a letter or a sign with CTRL
abbrev pub ControlLetters : Type 0
ControlLetters = (b : ℕ) → 0 < b → b < 32 → key_in control_characters b ≡ None → IsTyped (b ∷ []) (Char (b + 64)) ctrl

-- ESC O and a letter
abbrev pub ApplicationKeys : Type 0
ApplicationKeys = AllByRecursion (λ row. IsTyped (27 ∷ 79 ∷ row.0 ∷ []) row.1 none) application_keys

-- ESC [ and a letter
abbrev pub LetterKeys : Type 0
LetterKeys = AllByRecursion (λ row. IsTyped (27 ∷ 91 ∷ row.0 ∷ []) row.1 none) letter_keys

-- ESC [, 1, a semicolon, one more than the sum of the modifiers, and a letter
abbrev pub HeldLetterKeys : Type 0
HeldLetterKeys = AllByRecursion (λ row. (sum : ℕ) → sum < 16 → IsTyped (sequence (49 ∷ 59 ∷ decimal (sum + 1)) (row.0 ∷ [])) row.1 (sum * 2)) letter_keys

-- ESC [, a number and ~
abbrev pub NumberKeys : Type 0
NumberKeys = AllByRecursion (λ row. IsTyped (sequence (decimal row.0) (126 ∷ [])) row.1 none) number_keys

-- ESC [, a number, a semicolon, one more than the sum of the modifiers, and ~
abbrev pub HeldNumberKeys : Type 0
HeldNumberKeys = AllByRecursion (λ row. (sum : ℕ) → sum < 16 → IsTyped (sequence (decimal row.0 ++ 59 ∷ decimal (sum + 1)) (126 ∷ [])) row.1 (sum * 2)) number_keys

-- Tab with SHIFT
abbrev pub BackTab : Type 0
BackTab = IsTyped (27 ∷ 91 ∷ 90 ∷ []) Tab shift

-- a report of the cursor's place: ESC [, its row, a semicolon, its column and R
-- a number above the greatest one that is told counts as that
abbrev pub CursorReports : Type 0
CursorReports = (row col : ℕ) → 1 < row → row < 2 ^ 64 → 0 < col → col < 2 ^ 64
    → IsTaken (sequence (decimal row ++ 59 ∷ decimal col) (82 ∷ [])) (Size (min col most) (min row most))

-- a size that a terminal tells by itself: ESC [ 48, its rows and its columns after a semicolon each, and more numbers
-- before t
abbrev pub SizeReports : Type 0
SizeReports = (rows cols : ℕ) (more : List ℕ) → 0 < rows → rows < 2 ^ 64 → 0 < cols → cols < 2 ^ 64 → list_all is_numeric more ≡ true
    → IsTaken (sequence (codes "48;" ++ decimal rows ++ 59 ∷ (decimal cols ++ 59 ∷ more)) (116 ∷ [])) (Size (min cols most) (min rows most))

-- what begins a pasted text: ESC [ 200 ~
abbrev pub paste_start : List ℕ
paste_start = 27 ∷ 91 ∷ 50 ∷ 48 ∷ 48 ∷ 126 ∷ []

-- a pasted text stands after ESC [ 200 ~ and before the first ESC [ 201 ~
abbrev pub PastedTexts : Type 0
PastedTexts = (text : List ℕ) → ((front back : List ℕ) → text ≢ front ++ paste_end ++ back)
    → IsTaken (paste_start ++ text ++ paste_end) (Paste (length paste_start) (length text))

-- ESC [, bytes from 32 to 63, and at most one from 64 to 126
pub record IsControlSequence (bytes : List ℕ) : Type 0 where
  pub parameters : List ℕ
  pub final : List ℕ
  pub parts : bytes ≡ sequence parameters final
  pub between : list_all is_parameter parameters ≡ true
  pub ends : list_all is_letter final ≡ true
  pub at_most_one : length final ≤ 1

-- ESC ] or ESC P, bytes that are no control characters, and BEL, ESC \ or nothing
pub record IsControlString (bytes : List ℕ) : Type 0 where
  pub opening : ℕ
  pub text : List ℕ
  pub final : List ℕ
  pub parts : bytes ≡ 27 ∷ opening ∷ (text ++ final)
  pub opens : opens_string opening ≡ true
  pub between : list_all is_string_byte text ≡ true
  pub ends : (final ≡ []) ⊎ ((final ≡ 7 ∷ []) ⊎ (final ≡ 27 ∷ 92 ∷ []))

-- ESC [ M and at most three bytes
pub record IsMouseReport (bytes : List ℕ) : Type 0 where
  pub told : List ℕ
  pub parts : bytes ≡ 27 ∷ 91 ∷ 77 ∷ told
  pub at_most_three : length told ≤ 3

-- what is not known is a control sequence, a control string or a mouse's report, and no byte after it
abbrev pub UnknownSequences : Type 0
UnknownSequences = (is_last : Bool) (bytes : List ℕ) (used : ℕ) → token_at is_last bytes ≡ scanned_as Unknown used
    → IsControlSequence (take used bytes) ⊎ (IsControlString (take used bytes) ⊎ IsMouseReport (take used bytes))

-- ESC [ M and three bytes, as a mouse is told of
abbrev pub MouseReports : Type 0
MouseReports = (a b c : ℕ) → IsTaken (27 ∷ 91 ∷ 77 ∷ a ∷ b ∷ c ∷ []) Unknown

-- where fewer than three bytes stand after ESC [ M more are wanted, unless these are the last ones
abbrev pub OpenMouseReports : Type 0
OpenMouseReports = (is_last : Bool) (told : List ℕ) → length told < 3
    → token_at is_last (27 ∷ 91 ∷ 77 ∷ told) ≡ unless_last is_last (scanned_as Unknown (3 + length told))

-- ESC ] or ESC P, a byte that begins an answer, and bytes that are no control characters
pub record IsStringFront (bytes : List ℕ) : Type 0 where
  pub opening : ℕ
  pub first : ℕ
  pub text : List ℕ
  pub parts : bytes ≡ 27 ∷ opening ∷ first ∷ text
  pub opens : opens_string opening ≡ true
  pub answers : begins_answer first ≡ true
  pub between : list_all is_string_byte text ≡ true

-- such bytes are taken whole with BEL or ESC \ after them, whatever follows
abbrev pub EndedStrings : Type 0
EndedStrings = (front : List ℕ) → IsStringFront front → IsTaken (front ++ 7 ∷ []) Unknown × IsTaken (front ++ 27 ∷ 92 ∷ []) Unknown

-- and without another control character that stands after them: so a string without an end swallows no key
abbrev pub CutStrings : Type 0
CutStrings = (front : List ℕ) → IsStringFront front → (is_last : Bool) (b : ℕ) (rest : List ℕ)
    → (is_string_byte b ≡ false → b ≢ 7 → b ≢ 27 → token_at is_last (front ++ b ∷ rest) ≡ scanned_as Unknown (length front))
    × (b ≢ 92 → token_at is_last (front ++ 27 ∷ b ∷ rest) ≡ scanned_as Unknown (length front))

-- where nothing stands after them more bytes are wanted, unless these are the last ones
abbrev pub OpenStrings : Type 0
OpenStrings = (front : List ℕ) → IsStringFront front → (is_last : Bool)
    → token_at is_last front ≡ unless_last is_last (scanned_as Unknown (length front))

-- a byte of 128 or above where no character's bytes stand is U+FFFD, and takes no other byte
abbrev pub LostBytes : Type 0
LostBytes = (is_last : Bool) (b : ℕ) (bytes : List ℕ) → 128 ≤ b → ((c : ℕ) (rest : List ℕ) → IsScalar c → b ∷ bytes ≢ encode_utf8 c ++ rest)
    → IfSome (token_at is_last (b ∷ bytes)) (λ s. Some s ≡ replacement)

-- a byte of 128 or above that can begin no character is U+FFFD, whatever follows
abbrev pub LoneBytes : Type 0
LoneBytes = (b : ℕ) → 128 ≤ b → (b < 194) ⊎ (245 ≤ b) → IsTyped (b ∷ []) (Char 65533) none

-- and so is one that can, where a byte that cannot follow stands among those that should
abbrev pub CutCharacters : Type 0
CutCharacters = (is_last : Bool) (b d : ℕ) (front rest : List ℕ) → 128 ≤ b → length front < following_len b → is_continuation d ≡ false
    → token_at is_last (b ∷ front ++ d ∷ rest) ≡ replacement

-- more bytes are wanted after such a byte only where fewer stand there than should, and each of them can follow
abbrev pub WaitsForCharacter : Type 0
WaitsForCharacter = (b : ℕ) (bytes : List ℕ) → 128 ≤ b → token_at false (b ∷ bytes) ≡ None → (length bytes < following_len b) × (list_all is_continuation bytes ≡ true)
