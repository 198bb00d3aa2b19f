-- From bytes to cells: what a reading has written.
use Rattle.std.specs.Prelude.{◌≡◌, ℕ, Some, Option, List, ◌++◌, [], ◌∷◌, map}
use Rattle.std.specs.List.{AllByRecursion}
use Rattle.tw_surface.specs.ChangeView.{Batch}
use Rattle.tw_surface.specs.PaintingBatches.{closing_if}
use Rattle.tw_input.specs.EventView.{EventView}
use Rattle.tw_host.specs.HostRules.{HostRules}
use Rattle.tw_lineedit.specs.Frame.{Frame}
use Rattle.tw_lineedit.specs.Run.{run_of}
use Rattle.tw_ansi.specs.EcmaPaintings.{sent_batches}
use Rattle.tw_device.specs.Deeds.{Does, IsDone, deeds_of, sizes_in}
use Rattle.tw_device.specs.Live.{IsRead, fresh_frame, taken_over}
use Rattle.tw_device.specs.Steps.{Step, IsDueBy, IsInTime, state_in, events_in}
use Rattle.tw_device.specs.Terminal.{terminal_state}
use Rattle.tw_device.specs.declared.reading.Answer.{Answer}
use Rattle.tw_device.specs.declared.terminal.AnsiTerminal.{AnsiTerminal}
use Rattle.laws_screens.specs.SizedBatches.{SizedBatch, sized_at, sized_batches}
use Rattle.tw_lineedit.specs.ScreenRuns.{sized_scene}
use Rattle.tw_lineedit.specs.Stations.{Station, stations_of}
use Rattle.tw_ansi.specs.declared.encode.Encoder.{Encoder}
use Rattle.tw_ansi.specs.Encoding.{Sent, sends, sent_then, sent_batch}
use Rattle.laws_runs.specs.SentRuns.{IsSentAt, taken_since}

-- the frame with these events left
abbrev pub with_events : {V : Type 0} → List EventView → Frame V → Frame V
with_events events f = record f { terminal = record f.terminal { events = events } }

-- where a reading of these events begins
abbrev pub reading_frame : {V W : Type 0} → List ℕ → V → AnsiTerminal W → List EventView → Frame V
reading_frame prompt value old events = with_events events (fresh_frame prompt value (terminal_state old))

module _ {V W : Type 0} (rules : HostRules V) (contents : W → Option (List ℕ)) where
  -- A reading was answered over exactly these events, at a terminal over a writer that holds these bytes: such steps
  -- were noted, and the terminal did their deeds.
  pub record IsReadBy (prompt : List ℕ) (value : V) (old new : AnsiTerminal W) (events : List EventView) (held : List ℕ) : Type 0 where
    pub before : List Step
    pub steps : List Step
    pub told : events_in steps ≡ events
    pub left : V
    pub answer : Answer
    pub read : let after = before ++ steps in
        IsRead rules (events_in before) (events_in after) (state_in after) (fresh_frame prompt value (terminal_state old)) left (terminal_state new) answer
    pub done : IsDone (Does contents) (deeds_of steps) old new
    pub holds : contents old.writer ≡ Some held

  -- None of the events tells another number of columns.
  pub record IsSentReading (prompt : List ℕ) (value : V) (old new : AnsiTerminal W) (events : List EventView) (held : List ℕ) : Type 0 where
    pub reading : IsReadBy prompt value old new events held
    pub cols : AllByRecursion (λ size. size.cols ≡ old.sent.encoder.cols) (sizes_in events)

  -- Where its run takes these batches, all that it has written are their bytes and those of the closing batch, and what
  -- is known of the terminal is known after them: so it shows what a terminal shows of the run.
  abbrev pub ReadingsAreSent : Type 0
  ReadingsAreSent = (prompt : List ℕ) (value : V) (old new : AnsiTerminal W) (events : List EventView) (held : List ℕ) (batches : List Batch)
      → IsSentReading prompt value old new events held
      → let f = reading_frame prompt value old events in
      let sent = sent_batches (batches ++ closing_if (run_of rules f).mark) old.sent.encoder in
      (run_of rules f).taken ≡ f.terminal.batches ++ batches
      → (contents new.writer ≡ Some (held ++ sent.bytes)) × (new.sent.encoder ≡ sent.next)

-- ---- where events tell other numbers of columns

-- what a batch is sent as, for the columns that the screen has when it comes
abbrev pub sent_at : SizedBatch → Encoder → Sent
sent_at sized e = sent_batch sized.batch (record e { cols = sized.cols })

-- and batches, one after the other
abbrev pub sent_sized : List SizedBatch → Encoder → Sent
sent_sized [] e = sends [] e
sent_sized (sized ∷ more) e = sent_then (sent_at sized e) (sent_sized more)

module _ {V : Type 0} (rules : HostRules V) where
  -- the batches of stations, each with the columns of its station
  abbrev pub stations_sized : List (Station V) → List SizedBatch
  stations_sized stations = sized_batches (map (sized_scene rules) stations)

  -- all batches of a run, and its closing batch with the columns that there are at its end
  abbrev pub run_sized : Frame V → List SizedBatch
  run_sized f = stations_sized (stations_of rules f) ++ sized_at (run_of rules f).size.cols (closing_if (run_of rules f).mark)

module _ {V W : Type 0} (rules : HostRules V) (contents : W → Option (List ℕ)) where
  -- The events tell whatever sizes they do, in time; the columns were known at the beginning.
  pub record IsSizedReading (prompt : List ℕ) (value : V) (old new : AnsiTerminal W) (events : List EventView) (held : List ℕ) : Type 0 where
    pub reading : IsReadBy rules contents prompt value old new events held
    pub in_time : IsInTime (IsDueBy (taken_over rules (fresh_frame prompt value (terminal_state old)))) (terminal_state old).batches reading.steps
    pub cols : old.sent.encoder.cols ≡ old.size.cols

  -- What it has written is what was there, and then the batches of its run, each sent for the columns of its station;
  -- what is known is what is known after them, and the columns are known again.
  abbrev pub ReadingsAreSized : Type 0
  ReadingsAreSized = (prompt : List ℕ) (value : V) (old new : AnsiTerminal W) (events : List EventView) (held : List ℕ)
      → IsSizedReading prompt value old new events held
      → let sent = sent_sized (run_sized rules (reading_frame prompt value old events)) old.sent.encoder in
      (contents new.writer ≡ Some (held ++ sent.bytes)) × (new.sent.encoder ≡ sent.next) × (new.sent.encoder.cols ≡ new.size.cols)

  -- It comes to a clearing: the stations since then, up to this one, are sent at w columns to a terminal of h rows.
  pub record IsSizedSince (prompt : List ℕ) (value : V) (old new : AnsiTerminal W) (events : List EventView) (held : List ℕ)
      (w : ℕ) (earlier since : List (Station V)) (station : Station V) (later : List (Station V)) : Type 0 where
    pub reading : IsSizedReading prompt value old new events held
    pub stations : stations_of rules (reading_frame prompt value old events) ≡ earlier ++ (since ++ station ∷ later)
    pub sent : AllByRecursion (IsSentAt w) (map (sized_scene rules) (since ++ station ∷ []))

  -- what is sent up to the clearing, at whatever columns, and what batches are sent as from there on
  abbrev pub sent_before : AnsiTerminal W → List (Station V) → Sent
  sent_before old earlier = sent_sized (stations_sized rules earlier) old.sent.encoder

  abbrev pub sent_from : AnsiTerminal W → ℕ → List (Station V) → List Batch → Sent
  sent_from old w earlier batches = sent_batches batches (record (sent_before old earlier).next { cols = w })

  -- A changed size is followed from the next clearing on: the bytes of the stations since then come after those of the
  -- earlier ones, whatever columns these were sent at. Without earlier ones they are the first bytes.
  abbrev pub SinceIsSent : Type 0
  SinceIsSent = (prompt : List ℕ) (value : V) (old new : AnsiTerminal W) (events : List EventView) (held : List ℕ)
      (w : ℕ) (earlier since : List (Station V)) (station : Station V) (later : List (Station V))
      → IsSizedSince prompt value old new events held w earlier since station later
      → let sent = sent_from old w earlier (taken_since rules earlier since station) in
      (rest : List ℕ) × (contents new.writer ≡ Some (held ++ ((sent_before old earlier).bytes ++ (sent.bytes ++ rest))))

  -- What was written ends with them and with those of the closing batch, and what is known of the terminal is known
  -- after those.
  abbrev pub EndsSince : Frame V → AnsiTerminal W → AnsiTerminal W → List ℕ → ℕ → List (Station V) → List (Station V) → Station V → Type 0
  EndsSince f old new held w earlier since station =
      let sent = sent_from old w earlier (taken_since rules earlier since station ++ closing_if (run_of rules f).mark) in
      (contents new.writer ≡ Some (held ++ ((sent_before old earlier).bytes ++ sent.bytes))) × (new.sent.encoder ≡ sent.next)

  -- So it is where that station is the last one.
  abbrev pub SinceIsSentWhole : Type 0
  SinceIsSentWhole = (prompt : List ℕ) (value : V) (old new : AnsiTerminal W) (events : List EventView) (held : List ℕ)
      (w : ℕ) (earlier since : List (Station V)) (station : Station V)
      → IsSizedSince prompt value old new events held w earlier since station []
      → EndsSince (reading_frame prompt value old events) old new held w earlier since station
