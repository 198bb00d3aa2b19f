-- The events that bytes tell, by where reading them paused.
use Rattle.std.specs.Prelude.{◌≡◌, ℕ, ◌&&◌, ◌==◌, not, eqb, Bool, true, false, if◌then◌else◌, List, [], ◌∷◌, ◌++◌, take, drop, length, Option, Some, None, ◌⊎◌}
use Rattle.std.specs.Io.KnownBytes.{Keeps, Consumes, IsAtEnd}
use Rattle.tw_input.specs.EventView.{EventView}
use Rattle.tw_terminal.specs.declared.terminal.TerminalFault.{TerminalFault}
use Rattle.tw_terminal.specs.declared.terminal.TerminalFault.TheVariants.{Device, Memory}
use Rattle.tw_ansi.specs.declared.token.Token.{Token}
use Rattle.tw_ansi.specs.declared.token.Token.TheVariants.{Key, Size, Paste, Unknown}
use Rattle.tw_ansi.specs.declared.token.Scanned.{Scanned}
use Rattle.tw_ansi.specs.KeyBytes.{token_at}
use Rattle.tw_device.specs.declared.escape.Escape.{Escape}
use Rattle.tw_device.specs.declared.escape.Escape.TheVariants.{Waits, AtOnce}
use Rattle.tw_device.specs.declared.pasted.Pasted.{Pasted}
use Rattle.tw_device.specs.Told.{token_events}

-- What a reader of keys has: what its owner chose for an ESC alone and for pasted texts, the bytes that were read and
-- are not yet taken, whether the last read gave as many as were asked for, and what is left to be read, where that is
-- known.
pub record Held : Type 0 where
  pub escape : Escape
  pub pasted : Pasted
  pub unread : List ℕ
  pub was_full : Bool
  pub left : Option (List ℕ)

-- how many bytes are asked for at once
abbrev pub piece : ℕ
piece = 16384

-- an ESC, and nothing after it
abbrev pub is_lone_escape : List ℕ → Bool
is_lone_escape [] = false
is_lone_escape (b ∷ []) = eqb b 27
is_lone_escape (b ∷ c ∷ more) = false

-- whether an ESC alone waits for what follows it: where its owner chose so, and after a full read
abbrev pub escape_waits : Escape → Bool → Bool
escape_waits Waits was_full = true
escape_waits AtOnce was_full = was_full

-- The token at the front, or none where more bytes are wanted. An ESC that waits is none yet, unless no byte follows.
abbrev pub next_token : Bool → Held → Option Scanned
next_token is_last held =
    if escape_waits held.escape held.was_full && is_lone_escape held.unread && not is_last then None
    else token_at is_last held.unread

-- whether a token is a key or a pasted text, and so an event at any source
abbrev pub is_key_or_paste : Token → Bool
is_key_or_paste (Key key) = true
is_key_or_paste (Size cols rows) = false
is_key_or_paste (Paste from len) = true
is_key_or_paste Unknown = false

-- whether there is a token, and it is a key or a pasted text
abbrev pub is_event_in : Option Scanned → Bool
is_event_in None = false
is_event_in (Some s) = is_key_or_paste s.token

-- whether a key or a pasted text stands whole at the front of what was read
abbrev pub is_at_hand : Held → Bool
is_at_hand held = is_event_in (next_token false held)

-- once these bytes were read, and so many are left
abbrev pub held_after_read : List ℕ → Option (List ℕ) → Held → Held
held_after_read more left held =
    record held { unread = held.unread ++ more; was_full = length more == piece; left = left }

-- once so many bytes were taken
abbrev pub held_after_token : ℕ → Held → Held
held_after_token used held = record held { unread = drop used held.unread }

-- a step of reading: these bytes came, or the token at the front was taken, as one of the last bytes or not
pub data ReadStep : Type 0 where
  Came : List ℕ → ReadStep
  Took : Bool → ReadStep

-- Such steps lead from the one to the other, and tell these events. Bytes are read only where more are wanted for a
-- token, and a token is taken as one of the last bytes only where nothing is left to be read.
abbrev pub Lead : List ReadStep → Held → Held → List EventView → Type 0
Lead [] old new events = (new ≡ record old { left = new.left }) × Keeps old.left new.left × (events ≡ [])
Lead (Came more ∷ steps) old new events =
    (next_token false old ≡ None) × ((left : Option (List ℕ)) × Consumes old.left left more
    × Lead steps (held_after_read more left old) new events)
Lead (Took is_last ∷ steps) old new events =
    (is_last ≡ true → IsAtEnd old.left) × ((s : Scanned) × (next_token is_last old ≡ Some s)
    × ((later : List EventView) × (events ≡ token_events old.pasted s.token old.unread ++ later)
    × Lead steps (held_after_token s.used old) new later))

-- so many steps lead from the one to the other, and tell these events
abbrev pub TellsIn : ℕ → Held → Held → List EventView → Type 0
TellsIn count old new events = (steps : List ReadStep) × (length steps ≡ count) × Lead steps old new events

-- some steps do
abbrev pub TellsTyped : Held → Held → List EventView → Type 0
TellsTyped old new events = (count : ℕ) × TellsIn count old new events

-- a pasted text
abbrev pub IsPasted : Token → Type 0
IsPasted token = (from : ℕ) × (len : ℕ) × (token ≡ Paste from len)

-- a pasted text stands at the front
abbrev pub HasPaste : Held → Type 0
HasPaste held = (is_last : Bool) × (s : Scanned) × (next_token is_last held ≡ Some s) × IsPasted s.token

-- as many steps as one call can take
abbrev pub most_steps : ℕ
most_steps = 18446744073709551615

-- Why a call is refused. The device refuses only where more bytes are wanted, or where the call took as many steps as
-- it can; memory is short only where room is wanted, for more bytes or for a pasted text.
abbrev pub IsHeldUp : TerminalFault → Held → Held → Type 0
IsHeldUp Device old new = (next_token false new ≡ None) ⊎ TellsIn most_steps old new []
IsHeldUp Memory old new = (next_token false new ≡ None) ⊎ HasPaste new

-- the bytes that came
abbrev pub given_bytes : List ReadStep → List ℕ
given_bytes [] = []
given_bytes (Came more ∷ steps) = more ++ given_bytes steps
given_bytes (Took is_last ∷ steps) = given_bytes steps

-- the bytes of a token at the front of these, and then what is taken of those after it
abbrev pub taken_by : Option Scanned → List ℕ → (List ℕ → List ℕ) → List ℕ
taken_by (Some s) bytes taken_behind = take s.used bytes ++ taken_behind (drop s.used bytes)
taken_by None bytes taken_behind = []

-- the events of a token at the front of these bytes, and then those of the bytes after it
abbrev pub told_by : Pasted → Option Scanned → List ℕ → (List ℕ → List EventView) → List EventView
told_by pasted (Some s) bytes told_behind = token_events pasted s.token bytes ++ told_behind (drop s.used bytes)
told_by pasted None bytes told_behind = []

-- the bytes that are taken, from these on
abbrev pub taken_bytes : List ReadStep → List ℕ → List ℕ
taken_bytes [] unread = []
taken_bytes (Came more ∷ steps) unread = taken_bytes steps (unread ++ more)
taken_bytes (Took is_last ∷ steps) unread = taken_by (token_at is_last unread) unread (taken_bytes steps)

-- the events of these bytes, by where reading them paused
abbrev pub events_of : Pasted → List ReadStep → List ℕ → List EventView
events_of pasted [] unread = []
events_of pasted (Came more ∷ steps) unread = events_of pasted steps (unread ++ more)
events_of pasted (Took is_last ∷ steps) unread = told_by pasted (token_at is_last unread) unread (events_of pasted steps)

-- Such steps lose no byte and make none, what came is what the reader gave, and what is told is the events of it.
abbrev pub NoneIsLost : Type 0
NoneIsLost = (steps : List ReadStep) (old new : Held) (events : List EventView) → Lead steps old new events
    → (old.unread ++ given_bytes steps ≡ taken_bytes steps old.unread ++ new.unread)
    × Consumes old.left new.left (given_bytes steps)
    × (events ≡ events_of old.pasted steps old.unread)
