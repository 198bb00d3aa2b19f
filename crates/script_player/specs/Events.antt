-- The events of a directive, and the names of events.
use Rattle.std.specs.Prelude.{◌≡◌, ◌⊎◌, ℕ, List, [], ◌∷◌, ◌++◌, Some, codes, encode_utf8, map}
use Rattle.std.specs.Str.{chars}
use Rattle.std.specs.Str.Parse.{IsNumeral, digits_value, without_leading_plus}
use Rattle.tw_input.specs.EventView.{EventView}
use Rattle.tw_input.specs.EventView.EventView.{Key, Resized, Paste, Wake}
use Rattle.tw_input.specs.Modifiers.{modifiers_of, modifier_bits, none}
use Rattle.tw_input.specs.declared.key.KeyCode.{KeyCode}
use Rattle.tw_input.specs.declared.key.KeyCode.TheVariants.{Char, Function}
use Rattle.tw_input.specs.declared.key.KeyEvent.{KeyEvent}
use Rattle.script_player.specs.KeyNames.{key_name}
use Rattle.script_player.specs.declared.directive.Directive.{Directive}
use Rattle.script_player.specs.declared.directive.Directive.TheVariants as directive

-- the key of a character, with no modifier
abbrev pub typed_key : ℕ → EventView
typed_key c = Key (record { key = Char c; modifiers = modifiers_of none })

-- a key for each character of a text
abbrev pub typed_keys : List ℕ → List EventView
typed_keys text = map typed_key (chars text)

-- the events of a directive
abbrev pub directive_events : Directive → List EventView
directive_events (directive.«Type» text) = typed_keys text.now
directive_events (directive.Paste text) = Paste text.now ∷ []
directive_events (directive.Key key) = Key key ∷ []
directive_events _ = []

-- a number in digits, after a plus sign or not
abbrev pub IsWholeNumber : List ℕ → ℕ → Type 0
IsWholeNumber text n = let digits = without_leading_plus text in IsNumeral 10 digits × (n ≡ digits_value 10 digits)

-- a character alone, or the letter F and the number of a function key
abbrev pub IsPlainName : List ℕ → KeyCode → Type 0
IsPlainName name (Char c) = name ≡ encode_utf8 c
IsPlainName name (Function n) = (digits : List ℕ) × (name ≡ codes "F" ++ digits) × IsWholeNumber digits n
IsPlainName name _ = ⊥

-- the same, of a key with no modifier
abbrev pub IsPlainKeyName : List ℕ → KeyEvent → Type 0
IsPlainKeyName name event = (modifier_bits event.modifiers ≡ none) × IsPlainName name event.key

-- columns and rows, with an x between them
abbrev pub IsSizeName : List ℕ → ℕ → ℕ → Type 0
IsSizeName name cols rows =
    (first : List ℕ) × (second : List ℕ)
    × (name ≡ first ++ (codes "x" ++ second)) × IsWholeNumber first cols × IsWholeNumber second rows

-- a name of an event
abbrev pub IsEventName : List ℕ → EventView → Type 0
IsEventName name (Key event) = (key_name event ≡ Some name) ⊎ IsPlainKeyName name event
IsEventName name (Resized cols rows) = IsSizeName name cols rows
IsEventName name (Paste text) = name ≡ codes "paste:" ++ text
IsEventName name Wake = ⊥
