-- Where an ESC alone waits, what is told of some bytes does not depend on how they came.
use Rattle.std.specs.Prelude.{◌≡◌, ℕ, zero, suc, List, [], ◌∷◌, ◌++◌, length, Option, Some, None, true, ⊤}
use Rattle.tw_input.specs.EventView.{EventView}
use Rattle.tw_device.specs.Typed.{Held, ReadStep, Took, Lead, given_bytes, events_of}
use Rattle.tw_device.specs.declared.escape.Escape.TheVariants.{Waits}
use Rattle.tw_device.specs.declared.pasted.Pasted.{Pasted}

-- so many times the same step
abbrev pub times : ℕ → ReadStep → List ReadStep
times zero step = []
times (suc n) step = step ∷ times n step

-- the events of bytes that came all at once and are the last ones: there are no more tokens than bytes
abbrev pub events_at_once : Pasted → List ℕ → List EventView
events_at_once pasted bytes = events_of pasted (times (length bytes) (Took true)) bytes

-- what a reader has left is known
abbrev pub IsKnown : Option (List ℕ) → Type 0
IsKnown None = ⊥
IsKnown (Some bytes) = ⊤

-- A reader that waits after an ESC, and takes all bytes that came, tells what they tell at once, wherever it paused.
abbrev pub PiecesDoNotMatter : Type 0
PiecesDoNotMatter = (steps : List ReadStep) (old new : Held) (events : List EventView) → Lead steps old new events
    → old.escape ≡ Waits → IsKnown old.left → new.unread ≡ []
    → events ≡ events_at_once old.pasted (old.unread ++ given_bytes steps)
