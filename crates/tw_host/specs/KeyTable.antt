-- The key table: which action an event stands for.
use Rattle.std.specs.Prelude.{◌≢◌, ℕ, Bool, true, false, ◌&&◌, ◌||◌, ◌==◌, if◌then◌else◌, List, [], ◌∷◌, codes, Option, Some, None}
use Rattle.std.specs.Option.{option_or}
use Rattle.tw_input.specs.declared.key.KeyCode.{KeyCode}
use Rattle.tw_input.specs.declared.key.KeyCode.TheVariants.{Char, Backspace, Tab, Enter, Escape, Insert, Delete, Home, End, PageUp, PageDown, LeftArrow, RightArrow, UpArrow, DownArrow, ApplicationLeftArrow, ApplicationRightArrow, ApplicationUpArrow, ApplicationDownArrow, Function}
use Rattle.tw_input.specs.declared.key.KeyEvent.{KeyEvent}
use Rattle.tw_input.specs.EventView.{EventView, Key, Resized, Paste, Wake}
use Rattle.tw_input.specs.Modifiers.{modifier_bits, modifiers_of, none, shift, alt, ctrl}
use Rattle.tw_host.specs.ActionView.{ActionView, AcceptLine, Cancel, EndOfFile, InsertChar, InsertText, Repaint, Move, Kill, KillAndMove, HistoryPrevious, HistoryNext, Complete, HistoryIncSearchBackwards, HistoryIncSearchForwards}
use Rattle.tw_line.specs.declared.movements.Movement.TheVariants as movement

-- a key with the bits of its modifiers
abbrev pub key_press : ℕ → KeyCode → KeyEvent
key_press bits key = record { key = key; modifiers = modifiers_of bits }

-- the key of a text's first character
abbrev pub letter : List ℕ → KeyCode
letter [] = Escape
letter (c ∷ rest) = Char c

-- the keys with an action of their own
abbrev pub key_table : List (KeyEvent × ActionView)
key_table =
    (key_press ctrl (letter (codes "C")), Cancel)
    ∷ (key_press ctrl (letter (codes "D")), EndOfFile)
    ∷ (key_press ctrl (letter (codes "J")), AcceptLine)
    ∷ (key_press ctrl (letter (codes "M")), AcceptLine)
    ∷ (key_press ctrl (letter (codes "H")), Kill (movement.BackwardChar 1))
    ∷ (key_press ctrl (letter (codes "P")), HistoryPrevious)
    ∷ (key_press ctrl (letter (codes "N")), HistoryNext)
    ∷ (key_press ctrl (letter (codes "B")), Move (movement.BackwardChar 1))
    ∷ (key_press ctrl (letter (codes "F")), Move (movement.ForwardChar 1))
    ∷ (key_press ctrl (letter (codes "W")), Kill (movement.BackwardWord 1))
    ∷ (key_press ctrl (letter (codes "A")), Move movement.StartOfLine)
    ∷ (key_press ctrl (letter (codes "E")), Move movement.EndOfLine)
    ∷ (key_press ctrl (letter (codes "L")), Repaint)
    ∷ (key_press ctrl (letter (codes "K")), Kill movement.EndOfLine)
    ∷ (key_press ctrl (letter (codes "R")), HistoryIncSearchBackwards)
    ∷ (key_press ctrl (letter (codes "S")), HistoryIncSearchForwards)
    ∷ (key_press none Tab, Complete)
    ∷ (key_press none Enter, AcceptLine)
    ∷ (key_press none Backspace, Kill (movement.BackwardChar 1))
    ∷ (key_press none Delete, KillAndMove (movement.ForwardChar 1) movement.None)
    ∷ (key_press none UpArrow, HistoryPrevious)
    ∷ (key_press none ApplicationUpArrow, HistoryPrevious)
    ∷ (key_press none DownArrow, HistoryNext)
    ∷ (key_press none ApplicationDownArrow, HistoryNext)
    ∷ (key_press none LeftArrow, Move (movement.BackwardChar 1))
    ∷ (key_press none ApplicationLeftArrow, Move (movement.BackwardChar 1))
    ∷ (key_press none RightArrow, Move (movement.ForwardChar 1))
    ∷ (key_press none ApplicationRightArrow, Move (movement.ForwardChar 1))
    ∷ (key_press none Home, Move movement.StartOfLine)
    ∷ (key_press none End, Move movement.EndOfLine)
    ∷ (key_press alt (letter (codes "b")), Move (movement.BackwardWord 1))
    ∷ (key_press alt LeftArrow, Move (movement.BackwardWord 1))
    ∷ (key_press alt ApplicationLeftArrow, Move (movement.BackwardWord 1))
    ∷ (key_press alt (letter (codes "f")), Move (movement.ForwardWord 1))
    ∷ (key_press alt RightArrow, Move (movement.ForwardWord 1))
    ∷ (key_press alt ApplicationRightArrow, Move (movement.ForwardWord 1))
    ∷ []

-- whether two keys are one
abbrev pub is_same_code : KeyCode → KeyCode → Bool
is_same_code (Char a) (Char b) = a == b
is_same_code Backspace Backspace = true
is_same_code Tab Tab = true
is_same_code Enter Enter = true
is_same_code Escape Escape = true
is_same_code Insert Insert = true
is_same_code Delete Delete = true
is_same_code Home Home = true
is_same_code End End = true
is_same_code PageUp PageUp = true
is_same_code PageDown PageDown = true
is_same_code LeftArrow LeftArrow = true
is_same_code RightArrow RightArrow = true
is_same_code UpArrow UpArrow = true
is_same_code DownArrow DownArrow = true
is_same_code ApplicationLeftArrow ApplicationLeftArrow = true
is_same_code ApplicationRightArrow ApplicationRightArrow = true
is_same_code ApplicationUpArrow ApplicationUpArrow = true
is_same_code ApplicationDownArrow ApplicationDownArrow = true
is_same_code (Function a) (Function b) = a == b
is_same_code _ _ = false

-- whether two keys are one, and their modifiers too
abbrev pub is_same_key : KeyEvent → KeyEvent → Bool
is_same_key a b = (modifier_bits a.modifiers == modifier_bits b.modifiers) && is_same_code a.key b.key

-- the action of the first row with this key
abbrev pub looked_up : List (KeyEvent × ActionView) → KeyEvent → Option ActionView
looked_up [] k = None
looked_up (row ∷ rest) k = if is_same_key row.0 k then Some row.1 else looked_up rest k

-- the character that a key types is inserted once
abbrev pub typed_code : KeyCode → Option ActionView
typed_code (Char c) = Some (InsertChar 1 c)
typed_code _ = None

-- a character is typed with no modifier, or with SHIFT alone
abbrev pub typed_action : KeyEvent → Option ActionView
typed_action k = if (modifier_bits k.modifiers == none) || (modifier_bits k.modifiers == shift) then typed_code k.key else None

-- the action of a key: its row's, or the typed character's
abbrev pub key_action_of : KeyEvent → Option ActionView
key_action_of k = option_or (looked_up key_table k) (typed_action k)

-- the action of an event: a pasted text is inserted once
abbrev pub action_of : EventView → Option ActionView
action_of (Key k) = key_action_of k
action_of (Paste text) = Some (InsertText 1 text)
action_of (Resized cols rows) = None
action_of Wake = None

-- a text was pasted that is not empty
abbrev pub IsPaste : EventView → Type 0
IsPaste (Paste text) = text ≢ []
IsPaste (Key k) = ⊥
IsPaste (Resized cols rows) = ⊥
IsPaste Wake = ⊥
