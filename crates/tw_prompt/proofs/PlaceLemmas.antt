-- What a prompt reads at a terminal that was asked to mark pasted texts.
use Rattle.std.proofs.Common.{◌≡◌, Bool, IfOk, OnErr, inl, List, ℕ, Option, Some, None, Result, Ok, Err, ap, refl, subst, sym, ◌∙◌}
use Rattle.tw_lineedit.specs.HostRules.{HostRules}
use Rattle.tw_lineedit.specs.declared.Overrides.{Overrides}
use Rattle.tw_device.specs.Hooked.{HookRules, IsReadHooked}
use Rattle.tw_device.specs.Live.{fresh_frame}
use Rattle.tw_device.specs.Steps.{Seen}
use Rattle.tw_device.specs.declared.reading.Answer.{Answer}
use Rattle.tw_terminal.specs.TerminalState.{TerminalState}
use Rattle.tw_device.specs.Joined.{seen_of}
use Rattle.tw_prompt.specs.declared.prompt.Place.{Place}
use Rattle.tw_prompt.specs.declared.prompt.Place.TheVariants.{Pipe, Terminal}
use Rattle.tw_prompt.specs.declared.prompt.TerminalPlace.{TerminalPlace}
use Rattle.tw_prompt.specs.Places.{seen_in, Begun, IsUnreadFrom, IsUnreadIn, UnreadIn, IsAskedFrom, IsHookedFrom, IsReadAndKept, IsRemembered, IsReadIn, accepted_in, line_begun}

-- a line that is read with the same
pub begun_as : {V : Type 0} (rules : HostRules V) (overrides : Overrides) (p q : List ℕ) (v w : V) → p ≡ q → v ≡ w → line_begun rules overrides p v ≡ line_begun rules overrides q w
begun_as rules overrides p q v w same-prompt same-value = ap (λ it. line_begun rules overrides it v) same-prompt ∙ ap (λ it. line_begun rules overrides q it) same-value

-- what was read of a prompt with a hook, which then changes what is left
pub asked_after : {H V E : Type 0} (value : H → V) (hook : HookRules H) (line : Begun V) (result : Result Answer E) (old new : Option Seen) (before after : H)
    → IfOk result (IsReadIn (IsHookedFrom value hook line) old new (value before)) → hook.changes before after → IfOk result (IsReadIn (IsAskedFrom value hook line) old new (value after))
asked_after value hook line (Err e) old new before after read changes = tt
asked_after value hook line (Ok answer) (Some old) (Some new) before after read changes = record { read = record { before = before; after = after; read = read.read; changes = changes; leaves = refl } }
asked_after value hook line (Ok answer) (Some old) None before after read changes = record { read = tt }
asked_after value hook line (Ok answer) None new before after read changes = record { read = tt }

-- what was read with a hook from a device is read from one of which the same is seen
pub hooked_from : {H V : Type 0} (rules : HostRules V) (overrides : Overrides) (value : H → V) (hook : HookRules H) (prompt : List ℕ) (v : V) (old mid new : Seen) (left : V) (answer : Answer)
    → mid ≡ old → IsReadHooked rules overrides value hook mid new (fresh_frame prompt v mid.terminal) left answer
    → IsReadHooked rules overrides value hook old new (fresh_frame prompt v old.terminal) left answer
hooked_from rules overrides value hook prompt v old mid new left answer same read =
    subst (λ it. IsReadHooked rules overrides value hook it new (fresh_frame prompt v it.terminal) left answer) same read

-- so is what was read from one
pub read_from : {V A : Type 0} (Reads : Begun V → Seen → Seen → V → A → Type 0) (line : Begun V) (old mid new : Seen) (left : V) (answer : A) → mid ≡ old
    → Reads line mid new left answer → Reads line old new left answer
read_from Reads line old mid new left answer same read = subst (λ it. Reads line it new left answer) same read

-- no line was read of a prompt, since it was not begun
pub fails_begun : {V : Type 0} (line : Begun V) (old new : Option Seen) (left : V) → new ≡ old → left ≡ line.value → IsUnreadIn line old new left
fails_begun line old new left same kept = record { unread = subst (λ it. UnreadIn line old it left) (sym same) (still old) }
  where
    still : (seen : Option Seen) → UnreadIn line seen seen left
    still None = kept
    still (Some seen) = inl (refl, kept)

-- no line was read of a prompt, before and after
pub fails_between : {V E : Type 0} (result answer : Result Answer E) (line other : Begun V) (old was is new : Option Seen) (left after : V) → answer ≡ result → other ≡ line
    → was ≡ old → new ≡ is → OnErr result (IsUnreadIn other was is left) → OnErr result (after ≡ left) → OnErr answer (IsUnreadIn line old new after)
fails_between (Ok it) answer line other old was is new left after same same-line same-old same-new fails kept =
    subst (λ r. OnErr r (IsUnreadIn line old new after)) (sym same) tt
fails_between (Err e) answer line other old was is new left after same same-line same-old same-new fails kept =
    subst (λ r. OnErr r (IsUnreadIn line old new after)) (sym same) (subst (λ l. IsUnreadIn l old new after) same-line (subst (λ it. IsUnreadIn other it new after) same-old
    (subst (λ it. IsUnreadIn other was it after) (sym same-new) (subst (λ v. IsUnreadIn other was is v) (sym kept) fails))))

module _ {V : Type 0} (Reads : Begun V → Seen → Seen → V → Answer → Type 0) (line : Begun V) where
  -- what was read of a prompt, before and after
  read_between : (old was is new : Option Seen) (left : V) (answer : Answer) → was ≡ old → new ≡ is → IsReadIn (Reads line) was is left answer → IsReadIn (Reads line) old new left answer
  read_between old was is new left answer same-old same-new read =
      subst (λ it. IsReadIn (Reads line) old it left answer) (sym same-new) (subst (λ it. IsReadIn (Reads line) it is left answer) same-old read)

  -- a line that was read is answered, once it is remembered
  pub answered : {E : Type 0} (other : Begun V) (result answer : Result Answer E) (remembers also : Bool) (old was is new : Option Seen) (left after : V)
      → other ≡ line → answer ≡ result → also ≡ remembers → was ≡ old → new ≡ is
      → IfOk result (IsReadIn (Reads other) was is left) → IfOk result (λ it. IsRemembered other.rules.lines also (accepted_in it) left after)
      → IfOk answer (IsReadAndKept Reads line remembers old new after)
  answered other (Err e) answer remembers also old was is new left after same-line same same-choice same-old same-new read kept =
      subst (λ r. IfOk r (IsReadAndKept Reads line remembers old new after)) (sym same) tt
  answered other (Ok it) answer remembers also old was is new left after same-line same same-choice same-old same-new read kept =
      subst (λ r. IfOk r (IsReadAndKept Reads line remembers old new after)) (sym same) (record {
        left = left;
        read = read_between old was is new left it same-old same-new (subst (λ l. IsReadIn (Reads l) was is left it) same-line read);
        kept = subst (λ b. IsRemembered line.rules.lines b (accepted_in it) left after) same-choice (subst (λ l. IsRemembered l.rules.lines also (accepted_in it) left after) same-line kept);
      })

-- what is known of a refusal
pub on_err : {A E P : Type 0} (result : Result A E) → P → OnErr result P
on_err (Ok it) is = tt
on_err (Err e) is = is

-- no line was read at a terminal
pub unread_at : {T V E : Type 0} (state : T → TerminalState) (line : Begun V) (result : Result Answer E) (was is : Place T) (old new : TerminalPlace T) (left : V) → was ≡ Terminal old → is ≡ Terminal new
    → OnErr result (IsUnreadFrom line (seen_of state old.device) (seen_of state new.device) left) → OnErr result (IsUnreadIn line (seen_in state was) (seen_in state is) left)
unread_at state line (Ok it) was is old new left at to unread = tt
unread_at state line (Err e) was is old new left at to unread =
    subst (λ place. IsUnreadIn line (seen_in state place) (seen_in state is) left) (sym at) (subst (λ place. IsUnreadIn line (seen_in state (Terminal old)) (seen_in state place) left) (sym to) (record { unread = unread }))

-- a line was read at a terminal
pub read_at : {T V E : Type 0} (state : T → TerminalState) (Reads : Seen → Seen → V → Answer → Type 0) (result : Result Answer E) (was is : Place T) (old new : TerminalPlace T) (left : V) → was ≡ Terminal old → is ≡ Terminal new
    → IfOk result (Reads (seen_of state old.device) (seen_of state new.device) left) → IfOk result (IsReadIn Reads (seen_in state was) (seen_in state is) left)
read_at state Reads (Err e) was is old new left at to read = tt
read_at state Reads (Ok it) was is old new left at to read =
    subst (λ place. IsReadIn Reads (seen_in state place) (seen_in state is) left it) (sym at) (subst (λ place. IsReadIn Reads (seen_in state (Terminal old)) (seen_in state place) left it) (sym to) (record { read = read }))

-- or at a pipe
pub read_at_pipe : {T V E : Type 0} (state : T → TerminalState) (Reads : Seen → Seen → V → Answer → Type 0) (result : Result Answer E) (was is : Place T) (left : V) → was ≡ Pipe → IfOk result (IsReadIn Reads (seen_in state was) (seen_in state is) left)
read_at_pipe state Reads (Err e) was is left at = tt
read_at_pipe state Reads (Ok it) was is left at = subst (λ place. IsReadIn Reads (seen_in state place) (seen_in state is) left it) (sym at) (record { read = tt })
