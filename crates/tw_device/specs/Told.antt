-- What a token tells.
use Rattle.std.specs.Prelude.{ℕ, ◌&&◌, ◌||◌, eqb, if◌then◌else◌, List, [], ◌∷◌, ◌++◌, take, drop, chars, Option, Some, None, Result, Ok, Err}
use Rattle.std.specs.Char.{is_control}
use Rattle.std.specs.Str.{encode_utf8_all}
use Rattle.std.specs.Str.Lossy.{utf8_lossy}
use Rattle.tw_surface.specs.Characters.{cr, lf}
use Rattle.tw_input.specs.declared.event.InputEvent.{InputEvent}
use Rattle.tw_input.specs.EventView.{EventView, event_view}
use Rattle.tw_input.specs.EventView as event
use Rattle.tw_ansi.specs.declared.token.Token.{Token}
use Rattle.tw_ansi.specs.declared.token.Token.TheVariants.{Key, Size, Paste, Unknown}
use Rattle.tw_device.specs.declared.pasted.Pasted.{Pasted}
use Rattle.tw_device.specs.declared.pasted.Pasted.TheVariants.{OneRow, Rows}

-- what a character is told as that is in no row end: a space for a control character
abbrev pub spaced : ℕ → ℕ
spaced c = if is_control c then 32 else c

-- What a character of a pasted text becomes, after another one. In rows a CR and an LF are each a line feed, but an LF
-- after a CR is nothing, since that CR is one.
abbrev pub pasted_character : Pasted → ℕ → ℕ → List ℕ
pasted_character OneRow before c = spaced c ∷ []
pasted_character Rows before c =
    if eqb c lf && eqb before cr then [] else if eqb c lf || eqb c cr then lf ∷ [] else spaced c ∷ []

-- such characters one after the other, the first of them behind one
abbrev pub pasted_behind : Pasted → ℕ → List ℕ → List ℕ
pasted_behind pasted before [] = []
pasted_behind pasted before (c ∷ text) = pasted_character pasted before c ++ pasted_behind pasted c text

-- a text of such characters
abbrev pub pasted_characters : Pasted → ℕ → List ℕ → List ℕ
pasted_characters pasted before text = encode_utf8_all (pasted_behind pasted before (chars text))

-- a pasted text: U+FFFD where the bytes are no text, and its characters
abbrev pub pasted_text : Pasted → List ℕ → List ℕ
pasted_text pasted bytes = pasted_characters pasted 0 (utf8_lossy bytes)

-- the events of a token that stands at the front of these bytes: one, or none where it means nothing
abbrev pub token_events : Pasted → Token → List ℕ → List EventView
token_events pasted (Key key) bytes = event.Key key ∷ []
token_events pasted (Size cols rows) bytes = event.Resized cols rows ∷ []
token_events pasted (Paste from len) bytes = event.Paste (pasted_text pasted (take len (drop from bytes))) ∷ []
token_events pasted Unknown bytes = []

-- an event, if there is one
abbrev pub events_in_option : Option InputEvent → List EventView
events_in_option (Some event) = event_view event ∷ []
events_in_option None = []

-- the events that an answer tells: a refusal tells none
abbrev pub answer_events : {E : Type 0} → Result (Option InputEvent) E → List EventView
answer_events (Ok found) = events_in_option found
answer_events (Err e) = []
