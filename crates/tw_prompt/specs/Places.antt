-- What is known of a line that a prompt reads.
use Rattle.std.specs.Prelude.{◌≡◌, ◌⊎◌, List, [], ◌∷◌, ℕ, Bool, true, Option, Some, None, string_bytes, ⊤}
use Rattle.tw_line.specs.NearestMatch.{last_line}
use Rattle.tw_terminal.specs.TerminalState.{TerminalState}
use Rattle.tw_lineedit.specs.HostRules.{HostRules}
use Rattle.tw_lineedit.specs.declared.Overrides.{Overrides}
use Rattle.tw_device.specs.Hooked.{HookRules, IsReadHooked}
use Rattle.tw_device.specs.Joined.{seen_of}
use Rattle.tw_lineedit.specs.declared.Error.{Error}
use Rattle.tw_device.specs.Live.{IsRefusedTold, IsToldAnswer, fresh_frame}
use Rattle.tw_device.specs.Steps.{IsPrompt, Seen, events_in, state_in}
use Rattle.tw_device.specs.declared.reading.Answer.{Answer}
use Rattle.tw_device.specs.declared.reading.Answer.TheVariants.{Line}
use Rattle.tw_prompt.specs.declared.prompt.Place.{Place}
use Rattle.tw_prompt.specs.declared.prompt.Place.TheVariants.{Terminal, Pipe}

-- what is seen of the device of a prompt at a terminal
abbrev pub seen_in : {T : Type 0} → (T → TerminalState) → Place T → Option Seen
seen_in state (Terminal place) = Some (seen_of state place.device)
seen_in state Pipe = None

-- A prompt reads where it did. At a terminal, if nothing that was taken was unsent at each waiting, it is so still.
abbrev pub StaysPrompt : Option Seen → Option Seen → Type 0
StaysPrompt (Some old) (Some new) = IsPrompt old → IsPrompt new
StaysPrompt None None = ⊤
StaysPrompt _ _ = ⊥

-- the line that was accepted, or none
abbrev pub accepted_in : Answer → List ℕ
accepted_in (Line line) = string_bytes line
accepted_in _ = []

-- An accepted line that is not empty is the last of the history, if it is to be remembered, or memory was lacking for it.
-- Otherwise the host's value is as the reading left it.
abbrev pub IsRemembered : {V : Type 0} → (V → List (List ℕ)) → Bool → List ℕ → V → V → Type 0
IsRemembered lines true (byte ∷ line) left after = (last_line (lines after) ≡ Some (byte ∷ line)) ⊎ (lines after ≡ lines left)
IsRemembered lines _ _ left after = after ≡ left

-- What a line is read with.
pub record Begun (V : Type 0) : Type 0 where
  pub rules : HostRules V
  pub overrides : Overrides
  pub prompt : List ℕ
  pub value : V

abbrev pub line_begun : {V : Type 0} → HostRules V → Overrides → List ℕ → V → Begun V
line_begun rules overrides prompt value = record { rules = rules; overrides = overrides; prompt = prompt; value = value }

-- A line was read from a device: the answer, what is seen of it and the host's value are those of a run over exactly the
-- events that were told.
abbrev pub IsReadFrom : {V : Type 0} → Begun V → Seen → Seen → V → Answer → Type 0
IsReadFrom line old new left answer = IsToldAnswer line.rules line.overrides (events_in old.log) (events_in new.log) (state_in new.log)
    (fresh_frame line.prompt line.value old.terminal) left new.terminal answer

-- a refusal, what is seen and the host's value are those of a run over exactly the events that were told
abbrev pub IsRefusedFrom : {V : Type 0} → Begun V → Seen → Seen → V → Error → Type 0
IsRefusedFrom line old new left e = IsRefusedTold line.rules line.overrides (events_in old.log) (events_in new.log) (state_in new.log)
    (fresh_frame line.prompt line.value old.terminal) left new.terminal e

-- no line was read: nothing was done, or it was refused so
abbrev pub IsUnreadFrom : {V : Type 0} → Begun V → Seen → Seen → V → Type 0
IsUnreadFrom line old new left = ((new ≡ old) × (left ≡ line.value)) ⊎ ((e : Error) × IsRefusedFrom line old new left e)

-- so it is of a prompt; at a pipe nothing is done
abbrev pub UnreadIn : {V : Type 0} → Begun V → Option Seen → Option Seen → V → Type 0
UnreadIn line (Some old) (Some new) left = IsUnreadFrom line old new left
UnreadIn line None None left = left ≡ line.value
UnreadIn line _ _ left = ⊥

-- no line was read of a prompt
pub record IsUnreadIn {V : Type 0} (line : Begun V) (old new : Option Seen) (left : V) : Type 0 where
  pub unread : UnreadIn line old new left

module _ {H V : Type 0} (value : H → V) (hook : HookRules H) (line : Begun V) where
  -- A line was read from a device with a hook.
  pub record IsHookedFrom (old new : Seen) (left : V) (answer : Answer) : Type 0 where
    pub read : IsReadHooked line.rules line.overrides value hook old new (fresh_frame line.prompt line.value old.terminal) left answer

  -- A line was read so, and then the hook changed what is left.
  pub record IsAskedFrom (old new : Seen) (left : V) (answer : Answer) : Type 0 where
    pub before : H
    pub after : H
    pub read : IsHookedFrom old new (value before) answer
    pub changes : hook.changes before after
    pub leaves : value after ≡ left

-- what was read so of a prompt, of which nothing is said at a pipe
abbrev pub ReadIn : {V : Type 0} → (Seen → Seen → V → Answer → Type 0) → Option Seen → Option Seen → V → Answer → Type 0
ReadIn Reads (Some old) (Some new) left answer = Reads old new left answer
ReadIn Reads _ _ left answer = ⊤

-- so a line was read of a prompt
pub record IsReadIn {V : Type 0} (Reads : Seen → Seen → V → Answer → Type 0) (old new : Option Seen) (left : V) (answer : Answer) : Type 0 where
  pub read : ReadIn Reads old new left answer

-- A line was read so, and then it was remembered.
pub record IsReadAndKept {V : Type 0} (Reads : Begun V → Seen → Seen → V → Answer → Type 0) (line : Begun V) (remembers : Bool)
    (old new : Option Seen) (after : V) (answer : Answer) : Type 0 where
  pub left : V
  pub read : IsReadIn (Reads line) old new left answer
  pub kept : IsRemembered line.rules.lines remembers (accepted_in answer) left after
