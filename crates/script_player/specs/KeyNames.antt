-- The names of keys in a script.
use Rattle.std.specs.Prelude.{ℕ, ◌==◌, if◌then◌else◌, List, [], ◌∷◌, ◌++◌, Option, Some, None, codes, encode_utf8}
use Rattle.std.specs.Char.{IsScalar}
use Rattle.tw_input.specs.declared.key.KeyCode.{KeyCode}
use Rattle.tw_input.specs.declared.key.KeyCode.TheVariants.{Char, Backspace, Tab, Enter, Escape, Delete, Home, End, LeftArrow, RightArrow, UpArrow, DownArrow, ApplicationLeftArrow, ApplicationRightArrow, ApplicationUpArrow, ApplicationDownArrow}
use Rattle.tw_input.specs.declared.key.KeyEvent.{KeyEvent}
use Rattle.tw_input.specs.Modifiers.{modifier_bits, none, shift, alt, ctrl}

-- the character of a key, if it has one, is one that a `char` can be
abbrev pub IsKeyCode : KeyCode → Type 0
IsKeyCode (Char c) = IsScalar c
IsKeyCode key = Unit {0}

-- the same of a key with its modifiers
abbrev pub IsKey : KeyEvent → Type 0
IsKey event = IsKeyCode event.key

-- with no modifier
abbrev pub plain_name : KeyCode → Option (List ℕ)
plain_name Enter = Some (codes "Enter")
plain_name Tab = Some (codes "Tab")
plain_name Backspace = Some (codes "Backspace")
plain_name Delete = Some (codes "Delete")
plain_name Home = Some (codes "Home")
plain_name End = Some (codes "End")
plain_name LeftArrow = Some (codes "Left")
plain_name RightArrow = Some (codes "Right")
plain_name UpArrow = Some (codes "Up")
plain_name DownArrow = Some (codes "Down")
plain_name ApplicationLeftArrow = Some (codes "AppLeft")
plain_name ApplicationRightArrow = Some (codes "AppRight")
plain_name ApplicationUpArrow = Some (codes "AppUp")
plain_name ApplicationDownArrow = Some (codes "AppDown")
plain_name Escape = Some (codes "Escape")
plain_name _ = None

-- with ALT
abbrev pub alt_name : KeyCode → Option (List ℕ)
alt_name LeftArrow = Some (codes "A-Left")
alt_name RightArrow = Some (codes "A-Right")
alt_name ApplicationLeftArrow = Some (codes "A-AppLeft")
alt_name ApplicationRightArrow = Some (codes "A-AppRight")
alt_name (Char c) = Some (codes "A-" ++ encode_utf8 c)
alt_name _ = None

-- a character, after the letter of its modifier and a hyphen
abbrev pub character_name : List ℕ → KeyCode → Option (List ℕ)
character_name letter (Char c) = Some (letter ++ encode_utf8 c)
character_name letter _ = None

-- the name of a key with the bits of its modifiers, if it has one
abbrev pub name_with : ℕ → KeyCode → Option (List ℕ)
name_with bits key =
    if bits == none then plain_name key
    else (if bits == alt then alt_name key
    else (if bits == ctrl then character_name (codes "C-") key
    else (if bits == shift then character_name (codes "S-") key else None)))

-- the name of a key, if it has one
abbrev pub key_name : KeyEvent → Option (List ℕ)
key_name event = name_with (modifier_bits event.modifiers) event.key

-- the names without a character
abbrev pub key_names : List (List ℕ)
key_names =
    codes "Enter" ∷ codes "Tab" ∷ codes "Backspace" ∷ codes "Delete" ∷ codes "Home" ∷ codes "End"
    ∷ codes "Left" ∷ codes "Right" ∷ codes "Up" ∷ codes "Down"
    ∷ codes "AppLeft" ∷ codes "AppRight" ∷ codes "AppUp" ∷ codes "AppDown" ∷ codes "Escape"
    ∷ codes "A-Left" ∷ codes "A-Right" ∷ codes "A-AppLeft" ∷ codes "A-AppRight" ∷ []

-- the names of a character's keys
abbrev pub character_names : ℕ → List (List ℕ)
character_names c = (codes "C-" ++ encode_utf8 c) ∷ (codes "A-" ++ encode_utf8 c) ∷ (codes "S-" ++ encode_utf8 c) ∷ []
