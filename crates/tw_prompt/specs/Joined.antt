-- The events of a prompt: characters that are at hand at once come as one pasted text.
use Rattle.std.specs.Prelude.{◌≡◌, ℕ, ◌≤◌, ◌==◌, Bool, true, false, List, [], ◌∷◌, ◌++◌, encode_utf8_all, length, map, not, Option, Some, None, ⊤, if◌then◌else◌}
use Rattle.std.specs.Char.{is_control}
use Rattle.std.specs.List.{flat_map, list_all}
use Rattle.tw_input.specs.declared.key.KeyCode.{KeyCode}
use Rattle.tw_input.specs.declared.key.KeyCode.TheVariants.{Char}
use Rattle.tw_input.specs.EventView.{EventView, event_view, Key, Resized, Paste, Wake}
use Rattle.tw_input.specs.Modifiers.{modifier_bits, modifiers_of, none}
use Rattle.tw_terminal.specs.declared.terminal.ScreenSize.{ScreenSize}
use Rattle.tw_device.specs.Calls.{IsCalled, all_events}
use Rattle.tw_prompt_host.specs.Going.{gives_up}
use Rattle.tw_prompt.specs.Sizes.{fitting}
use Rattle.tw_prompt.specs.declared.events.Pending.{Pending}
use Rattle.tw_prompt.specs.declared.events.Pending.TheVariants.{Nothing, Event, Fault}

-- the key that types a character
abbrev pub key_of_character : ℕ → EventView
key_of_character c = Key (record { key = Char c; modifiers = modifiers_of none })

-- each character but a control character
abbrev pub is_joining : ℕ → Bool
is_joining c = not (is_control c)

-- such a character of a key
abbrev pub character_of : KeyCode → Option ℕ
character_of (Char c) = if is_joining c then Some c else None
character_of _ = None

-- such a character that an event types without a modifier
abbrev pub character_in : EventView → Option ℕ
character_in (Key key) = if modifier_bits key.modifiers == none then character_of key.key else None
character_in (Resized cols rows) = None
character_in (Paste text) = None
character_in Wake = None

-- a piece of what was typed: a run of characters, or one event
pub data Piece : Type 0 where
  Run : List ℕ → Piece
  Single : EventView → Piece

-- the events of the source that a piece is
abbrev pub piece_events : Piece → List EventView
piece_events (Run text) = map key_of_character text
piece_events (Single event) = event ∷ []

-- an event for the prompt: a size that no screen has is none
abbrev pub sized : Option ScreenSize → List EventView
sized None = []
sized (Some size) = Resized size.cols size.rows ∷ []

abbrev pub fitted : EventView → List EventView
fitted (Key key) = Key key ∷ []
fitted (Resized cols rows) = sized (fitting (record { rows = rows; cols = cols }))
fitted (Paste text) = Paste text ∷ []
fitted Wake = Wake ∷ []

-- the events of a prompt for a piece: a run is one pasted text
abbrev pub told_in : Piece → List EventView
told_in (Run text) = Paste (encode_utf8_all text) ∷ []
told_in (Single event) = fitted event

-- a run has two characters or more and no control character, and there is none unless characters may join
abbrev pub IsRight : Bool → Piece → Type 0
IsRight joins (Run text) = (joins ≡ true) × (2 ≤ length text) × (list_all is_joining text ≡ true)
IsRight joins (Single event) = ⊤

abbrev pub AreRight : Bool → List Piece → Type 0
AreRight joins [] = ⊤
AreRight joins (piece ∷ pieces) = IsRight joins piece × AreRight joins pieces

-- the events of the source in pieces, and those of the prompt
abbrev pub typed_in_all : List Piece → List EventView
typed_in_all pieces = flat_map piece_events pieces

abbrev pub told_in_all : List Piece → List EventView
told_in_all pieces = flat_map told_in pieces

-- a Wake, or nothing
abbrev pub wake_if : Bool → List EventView
wake_if true = Wake ∷ []
wake_if false = []

-- after a key that gives a search up comes a Wake, with which the prompt's line comes back
abbrev pub woken : EventView → List EventView
woken event = event ∷ wake_if (gives_up event)

abbrev pub woken_all : List EventView → List EventView
woken_all events = flat_map woken events

-- a character and more of them: the key, or a pasted text
abbrev pub run_event : ℕ → List ℕ → EventView
run_event first [] = key_of_character first
run_event first (c ∷ more) = Paste (encode_utf8_all (first ∷ c ∷ more))

-- the key of a character that was taken, if one was
abbrev pub keys_of : Option ℕ → List EventView
keys_of None = []
keys_of (Some c) = key_of_character c ∷ []

-- what is held back
abbrev pub pending_events : Pending → List EventView
pending_events Nothing = []
pending_events (Event event) = event_view event ∷ []
pending_events (Fault fault) = []

abbrev pub is_pending : Pending → Bool
is_pending Nothing = false
is_pending (Event event) = true
is_pending (Fault fault) = true

module _ {S : Type 0} (told : S → List EventView) (Follows : S → S → List EventView → Type 0) where
  -- Calls of the source lead from one to the other. What was held back and what it told since is what was taken, and
  -- then what is held back now.
  abbrev pub Moves : S → List EventView → S → List EventView → List EventView → Type 0
  Moves old held new left taken = (calls : IsCalled told Follows old new) × (held ++ all_events calls.0 ≡ taken ++ left)

  -- so these pieces were taken, in this order: no event is lost, and none comes twice
  abbrev pub Pieced : Bool → S → List EventView → S → List EventView → List Piece → Type 0
  Pieced joins old held new left pieces = AreRight joins pieces × Moves old held new left (typed_in_all pieces)
