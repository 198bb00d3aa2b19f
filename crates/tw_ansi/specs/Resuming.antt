-- Reading bytes from where it stopped for want of more.
use Rattle.std.specs.Prelude.{◌≡◌, ◌≤◌, ◌+◌, ◌-◌, ◌&&◌, ◌||◌, eqb, ltb, if◌then◌else◌, ℕ, Bool, false, List, [], ◌∷◌, ◌++◌, Option, length, take, drop}
use Rattle.std.specs.List.{prefix_len, starts_with}
use Rattle.std.specs.Option.{option_map}
use Rattle.tw_ansi.specs.declared.token.Scanned.{Scanned}
use Rattle.tw_ansi.specs.declared.resume.Progress.{Progress}
use Rattle.tw_ansi.specs.declared.resume.Progress.TheVariants.{Start, Parameters, ControlString, Paste}
use Rattle.tw_ansi.specs.KeyBytes.{token_at, ended_at, string_of, paste_of, paste_len, is_parameter, is_string_byte, opens_string, begins_answer}

-- after ESC [, the first so many bytes being parameters
abbrev pub parameters_on : Bool → ℕ → List ℕ → Option Scanned
parameters_on is_last len bytes =
    let all = len + prefix_len is_parameter (drop len bytes) in
    ended_at is_last (take all bytes) (drop all bytes)

-- after ESC ] or ESC P, the first so many bytes being a string's
abbrev pub string_on : Bool → ℕ → List ℕ → Option Scanned
string_on is_last len bytes =
    let all = len + prefix_len is_string_byte (drop len bytes) in
    string_of is_last (2 + all) (drop all bytes)

-- a pasted text, whose end is sought after its first so many bytes
abbrev pub paste_on : Bool → ℕ → ℕ → List ℕ → Option Scanned
paste_on is_last from searched bytes =
    paste_of is_last from (length bytes) (option_map (λ n. n + searched) (paste_len (drop searched bytes)))

-- the token at the front, by going on
abbrev pub token_resumed : Progress → Bool → List ℕ → Option Scanned
token_resumed Start is_last bytes = token_at is_last bytes
token_resumed (Parameters len) is_last bytes = parameters_on is_last len (drop 2 bytes)
token_resumed (ControlString len) is_last bytes = string_on is_last len (drop 2 bytes)
token_resumed (Paste from searched) is_last bytes = paste_on is_last from searched (drop from bytes)

-- how many bytes are not looked at again
abbrev pub passed_len : Progress → ℕ
passed_len Start = 0
passed_len (Parameters len) = 2 + len
passed_len (ControlString len) = 2 + len
passed_len (Paste from searched) = from + searched

-- These bytes were read so far: whatever follows them, going on gives the token at the front of them all.
pub record Fits (p : Progress) (bytes : List ℕ) : Type 0 where
  pub within : passed_len p ≤ length bytes
  pub goes_on : (is_last : Bool) (more : List ℕ) → token_resumed p is_last (bytes ++ more) ≡ token_at is_last (bytes ++ more)

-- how many bytes of a pasted text are passed where no end was found in all of them: one may begin in the last five
abbrev pub searched_to : ℕ → ℕ → ℕ
searched_to searched len = searched + (len - searched - 5)

-- how far the bytes after ESC [ were read, where they are no token yet: fewer than four do not hold 200 ~
abbrev pub behind_parameters : ℕ → List ℕ → Progress
behind_parameters len bytes =
    let all = len + prefix_len is_parameter (drop len bytes) in
    if eqb all (length bytes) || ltb (length bytes) 4 then Parameters all
    else Paste (3 + all) (searched_to 0 (length bytes - all - 1))

-- how far the bytes after ESC ] or ESC P were read, where they are a string without an end yet
abbrev pub behind_string : ℕ → List ℕ → Progress
behind_string len bytes = ControlString (len + prefix_len is_string_byte (drop len bytes))

-- whether some bytes begin a control string
abbrev pub begins_string : List ℕ → Bool
begins_string (escape ∷ opening ∷ b ∷ bytes) = eqb escape 27 && (opens_string opening && begins_answer b)
begins_string _ = false

-- what begins a control sequence
abbrev pub sequence_start : List ℕ
sequence_start = 27 ∷ 91 ∷ []

-- how far some bytes were read from their first one on, where they are no token yet
abbrev pub behind_start : List ℕ → Progress
behind_start bytes =
    if starts_with eqb bytes sequence_start then behind_parameters 0 (drop 2 bytes)
    else if begins_string bytes then behind_string 0 (drop 2 bytes)
    else Start

-- how far some bytes were read that are no token yet
abbrev pub read_on : Progress → List ℕ → Progress
read_on Start bytes = behind_start bytes
read_on (Parameters len) bytes = behind_parameters len (drop 2 bytes)
read_on (ControlString len) bytes = behind_string len (drop 2 bytes)
read_on (Paste from searched) bytes = Paste from (searched_to searched (length (drop from bytes)))
