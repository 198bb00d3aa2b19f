-- What is done to a terminal at a device, deed by deed, and what a terminal over a writer sends for it.
use Rattle.std.specs.Prelude.{◌≡◌, ◌≢◌, ◌≤◌, ℕ, Bool, true, false, List, [], ◌∷◌, ◌++◌, map, Option}
use Rattle.std.specs.List.{list_all, AllByRecursion}
use Rattle.std.specs.Io.KnownBytes.{Appends}
use Rattle.tw_surface.specs.ChangeView.{Batch}
use Rattle.tw_surface.specs.Defaults.{default_attributes}
use Rattle.tw_input.specs.EventView.{EventView, Key, Resized, Paste, Wake}
use Rattle.tw_terminal.specs.TerminalState.{count_up, usize_max}
use Rattle.tw_terminal.specs.Uses.{Call, Took, Refused, Other, Uses, with_taken}
use Rattle.tw_terminal.specs.declared.terminal.ScreenSize.{ScreenSize}
use Rattle.tw_ansi.specs.declared.encode.Encoder.{Encoder}
use Rattle.tw_ansi.specs.Encoding.{Sent, sends, sent_then, sent_batch, without_attributes}
use Rattle.tw_ansi.specs.EcmaPaintings.{sent_batches}
use Rattle.tw_ansi.specs.Sequences.{set_attributes}
use Rattle.tw_device.specs.Steps as step
use Rattle.tw_device.specs.Steps.{Step, batches_in, events_in}
use Rattle.tw_device.specs.Terminal.{terminal_state}
use Rattle.tw_device.specs.declared.terminal.AnsiTerminal.{AnsiTerminal}

-- a deed: a call of an editor, a size that the owner gives, or a text that the owner sends
pub data Deed : Type 0 where
  Called : Call → Deed
  Sized : ScreenSize → Deed
  Said : List ℕ → Deed

-- what a call sends, by what is known of the terminal: the bytes of its batch, or nothing
abbrev pub sent_call : Call → Encoder → Sent
sent_call (Took batch) e = sent_batch batch e
sent_call Refused e = sends [] e
sent_call Other e = sends [] e

-- what a deed sends: for a size nothing, and its columns are known; for a text a reset of all attributes, and the text
abbrev pub sent_deed : Deed → Encoder → Sent
sent_deed (Called call) e = sent_call call e
sent_deed (Sized size) e = sends [] (record e { cols = size.cols })
sent_deed (Said text) e = sends (set_attributes default_attributes ++ text) (without_attributes e)

-- what deeds send, one after the other
abbrev pub sent_by : List Deed → Encoder → Sent
sent_by [] e = sends [] e
sent_by (deed ∷ deeds) e = sent_then (sent_deed deed e) (sent_by deeds)

-- the batches that deeds took, in their order
abbrev pub batches_by : List Deed → List Batch
batches_by [] = []
batches_by (Called call ∷ deeds) = with_taken call (batches_by deeds)
batches_by (Sized size ∷ deeds) = batches_by deeds
batches_by (Said text ∷ deeds) = batches_by deeds

-- the sizes that were given
abbrev pub sizes_by : List Deed → List ScreenSize
sizes_by [] = []
sizes_by (Called call ∷ deeds) = sizes_by deeds
sizes_by (Sized size ∷ deeds) = size ∷ sizes_by deeds
sizes_by (Said text ∷ deeds) = sizes_by deeds

-- the texts that the owner sent
abbrev pub texts_by : List Deed → List (List ℕ)
texts_by [] = []
texts_by (Called call ∷ deeds) = texts_by deeds
texts_by (Sized size ∷ deeds) = texts_by deeds
texts_by (Said text ∷ deeds) = text ∷ texts_by deeds

-- the sizes that events tell
abbrev pub sizes_in : List EventView → List ScreenSize
sizes_in [] = []
sizes_in (Key key ∷ events) = sizes_in events
sizes_in (Resized cols rows ∷ events) = record { rows = rows; cols = cols } ∷ sizes_in events
sizes_in (Paste text ∷ events) = sizes_in events
sizes_in (Wake ∷ events) = sizes_in events

-- whether a deed is no batch that was refused
abbrev pub is_whole : Deed → Bool
is_whole (Called Refused) = false
is_whole _ = true

-- none of the deeds is a batch that was refused
abbrev pub none_refused : List Deed → Bool
none_refused deeds = list_all is_whole deeds

-- the deeds of steps at the terminal: batches, and the sizes that events tell
abbrev pub deeds_of : List Step → List Deed
deeds_of [] = []
deeds_of (step.Took batch ∷ steps) = Called (Took batch) ∷ deeds_of steps
deeds_of (step.Told event ∷ steps) = map Sized (sizes_in (event ∷ [])) ++ deeds_of steps
deeds_of (_ ∷ steps) = deeds_of steps

-- deeds without the calls that render nothing
abbrev pub telling : List Deed → List Deed
telling [] = []
telling (Called Other ∷ deeds) = telling deeds
telling (deed ∷ deeds) = deed ∷ telling deeds

-- these deeds were done to the terminal, and calls that render nothing
abbrev pub IsDone : {T : Type 0} → (T → T → Deed → Type 0) → List Deed → T → T → Type 0
IsDone Does deeds old new = (all : List Deed) × (telling all ≡ deeds) × Uses Does all old new

-- The size that an event tells is set, if it tells one, and nothing else is done.
abbrev pub IsSizedBy : {T : Type 0} → (T → T → Deed → Type 0) → EventView → T → T → Type 0
IsSizedBy Does event old new = Uses Does (map Sized (sizes_in (event ∷ []))) old new

module _ {W : Type 0} (contents : W → Option (List ℕ)) where
  -- The bytes of the deed are appended to what is written, and no other; what is known is what is known after them; and
  -- its batch, if it has one, is the last one taken.
  pub record Sends (deed : Deed) (old new : AnsiTerminal W) : Type 0 where
    pub bytes : Appends (contents old.writer) (contents new.writer) (sent_deed deed old.sent.encoder).bytes
    pub known : new.sent.encoder ≡ (sent_deed deed old.sent.encoder).next
    pub batches : (terminal_state new).batches ≡ (terminal_state old).batches ++ batches_by (deed ∷ [])
    pub failures : old.sent.failures ≤ new.sent.failures

  -- A batch is refused, which is counted. What is written is not told, and what is known is as before.
  pub record FailsToSend (old new : AnsiTerminal W) : Type 0 where
    pub known : new.sent.encoder ≡ old.sent.encoder
    pub batches : (terminal_state new).batches ≡ (terminal_state old).batches
    pub failures : new.sent.failures ≡ count_up old.sent.failures

  -- such a deed leads from the one to the other
  abbrev pub Does : AnsiTerminal W → AnsiTerminal W → Deed → Type 0
  Does old new (Called Refused) = FailsToSend old new
  Does old new (Called (Took batch)) = Sends (Called (Took batch)) old new
  Does old new (Called Other) = Sends (Called Other) old new
  Does old new (Sized size) = Sends (Sized size) old new
  Does old new (Said text) = Sends (Said text) old new

  -- Where no batch was refused, what was written is what was there, and then the bytes of the deeds; what is known is
  -- what is known after them; and the batches are those that were there, and then those that the deeds took.
  abbrev pub DeedsAreSent : Type 0
  DeedsAreSent = (deeds : List Deed) (old new : AnsiTerminal W) → Uses Does deeds old new → none_refused deeds ≡ true
      → Appends (contents old.writer) (contents new.writer) (sent_by deeds old.sent.encoder).bytes
      × (new.sent.encoder ≡ (sent_by deeds old.sent.encoder).next)
      × ((terminal_state new).batches ≡ (terminal_state old).batches ++ batches_by deeds)

  -- None was refused where no failure was counted, and one could have been.
  abbrev pub FailuresAreCounted : Type 0
  FailuresAreCounted = (deeds : List Deed) (old new : AnsiTerminal W) → Uses Does deeds old new
      → new.sent.failures ≡ old.sent.failures → old.sent.failures ≢ usize_max → none_refused deeds ≡ true

  -- So of the deeds of steps, where no event told another number of columns: what was written is what was there, and
  -- then the bytes of the batches that were taken.
  abbrev pub DoneIsSent : Type 0
  DoneIsSent = (steps : List Step) (old new : AnsiTerminal W) → IsDone Does (deeds_of steps) old new
      → AllByRecursion (λ size. size.cols ≡ old.sent.encoder.cols) (sizes_in (events_in steps))
      → ((terminal_state new).batches ≡ (terminal_state old).batches ++ batches_in steps)
      × Appends (contents old.writer) (contents new.writer) (sent_batches (batches_in steps) old.sent.encoder).bytes
      × (new.sent.encoder ≡ (sent_batches (batches_in steps) old.sent.encoder).next)
