-- What contracts see of a reader of keys.
use Rattle.std.specs.Prelude.{ℕ, List, Option, Bool, true, false}
use Rattle.tw_device.specs.declared.keys.KeyReader.{KeyReader}
use Rattle.tw_device.specs.declared.keys.SourceState.{SourceState}
use Rattle.tw_device.specs.declared.keys.SourceState.TheVariants.{AtEnd}
use Rattle.tw_input.specs.EventView.{EventView}
use Rattle.tw_device.specs.Joined.{IsAsked}
use Rattle.tw_device.specs.Typed.{Held, TellsTyped}

-- what it has, by what its reader has left
abbrev pub held_by : {R : Type 0} → (R → Option (List ℕ)) → KeyReader R → Held
held_by remaining it = record { escape = it.escape; pasted = it.pasted; unread = it.unread; was_full = it.was_full; left = remaining it.reader }

-- whether a source answered last that it had no more events
abbrev pub is_at_end : SourceState → Bool
is_at_end AtEnd = true
is_at_end _ = false

-- what calls of a reader of keys told is what its bytes tell
abbrev pub AskedIsTyped : {R : Type 0} → (R → Option (List ℕ)) → Type 0
AskedIsTyped {R} remaining = (events : List EventView) (old new : KeyReader R)
    → IsAsked (λ it. it.told) (λ a b told. TellsTyped (held_by remaining a) (held_by remaining b) told) events old new
    → TellsTyped (held_by remaining old) (held_by remaining new) events
