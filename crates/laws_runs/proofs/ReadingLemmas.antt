-- The bytes that a reading has written are those of its run's batches, each for the columns of its station.
use Rattle.std.proofs.Common.{◌≡◌, ℕ, Some, None, Option, List, ◌++◌, ap, subst, ◌∙◌, sym, append_assoc, Bool, true, false, cond, Result, Ok, Err, [], ◌∷◌, length, map, refl, append-nil, arith}
use Rattle.std.specs.Prelude.{MatchOption, ⊤}
use Rattle.std.specs.Io.KnownBytes.{Appends, append_known}
use Rattle.std.proofs.lemmas.List.{append_cancel_left, map-append}
use Rattle.tw_surface.specs.ChangeView.{Batch}
use Rattle.tw_surface.specs.PaintingBatches.{closing_if, Shot, clearing, start_of, SizedScene, shot_of, mark_after}
use Rattle.tw_input.specs.EventView.{EventView}
use Rattle.tw_host.specs.HostRules.{HostRules}
use Rattle.tw_lineedit.specs.Frame.{Frame}
use Rattle.tw_lineedit.specs.Reading.{Reads}
use Rattle.tw_lineedit.specs.Run.{run_of, Progress, Ending, run, ends, at_no_event, at_event, after_event, painting_at, after_painting, chosen_action, state_after, after_action, progress_of}
use Rattle.tw_ansi.specs.EcmaPaintings.{sent_batches}
use Rattle.tw_device.specs.Deeds.{Does, IsDone, Sized, deeds_of, sizes_in}
use Rattle.tw_device.specs.Live.{outcome_in, frame_of, fresh_frame, run_over}
use Rattle.tw_device.specs.Terminal.{terminal_state}
use Rattle.tw_device.specs.declared.terminal.AnsiTerminal.{AnsiTerminal}
use Rattle.tw_device.proofs.DeedLemmas.{appends_then, done_is_sent, done_parts, done_sends}
use Rattle.laws_runs.specs.SentReadings.{reading_frame, IsReadBy, ReadingsAreSent, sent_at, sent_sized, stations_sized, run_sized, ReadingsAreSized, SinceIsSent, SinceIsSentWhole}
use Rattle.tw_surface.specs.Paintings.{Mark, Painting, painting, mark_of}
use Rattle.laws_screens.specs.SizedBatches.{SizedBatch, sized_at, sized_after}
use Rattle.tw_terminal.specs.TerminalState.{size_after}
use Rattle.tw_terminal.specs.declared.terminal.ScreenSize.{ScreenSize}
use Rattle.tw_session.specs.EditState.{EditState}
use Rattle.tw_session.specs.Painting.{Rendering, rendering_of}
use Rattle.tw_session.specs.Refusal.{Refusal}
use Rattle.tw_session.specs.Outcomes.{Outcome, is_over, answer_at}
use Rattle.tw_session.specs.Steps.{is_repaint}
use Rattle.tw_lineedit.specs.ScreenRuns.{sized_scene}
use Rattle.tw_lineedit.specs.Stations.{Station, station_at, station_painting, shots_by, stations_from, stations_by, stations_after, stations_unless, stations_of}
use Rattle.tw_lineedit.proofs.StationLemmas.{rendered_at, shots_before}
use Rattle.tw_ansi.specs.declared.encode.Encoder.{Encoder}
use Rattle.tw_ansi.specs.Encoding.{Sent, sent_then, sent_batch}
use Rattle.tw_ansi.proofs.KnownTerminals.{batch_in}
use Rattle.tw_input.specs.EventView.{Key, Resized, Paste, Wake}
use Rattle.tw_device.specs.JoinedLaws.{deeds_then, told_then}
use Rattle.tw_device.specs.Steps as step
use Rattle.tw_device.specs.Steps.{Step, IsDueBy, IsInTime, batches_in, events_in}
use Rattle.tw_device.proofs.InTimeLemmas.{batches_then}
use Rattle.std.specs.List.{AllByRecursion}
use Rattle.laws_screens.proofs.SizedBatchLemmas.{sized_are}
use Rattle.laws_runs.specs.DrawnRuns.{since_batches}
use Rattle.tw_device.specs.declared.reading.Answer.{Answer}
use Rattle.tw_device.specs.declared.reading.Answer.TheVariants.{Line, Cancelled, End}
use Rattle.laws_runs.specs.SentRuns.{IsSentAt, taken_since}
use Rattle.laws_runs.proofs.SentRunLemmas.{last_of_all, sized_uniformly, sent_both}

-- known bytes after known ones
pub appended : (old new : Option (List ℕ)) (held bytes : List ℕ) → old ≡ Some held → Appends old new bytes → new ≡ Some (held ++ bytes)
appended None new held bytes is grows = absurd (subst (λ known. MatchOption known ⊤ (λ _. ⊥)) is tt)
appended (Some xs) None held bytes is grows = absurd grows
appended (Some xs) (Some ys) held bytes is grows = ap Some grows ∙ ap (λ known. append_known known bytes) is

module _ {V W : Type 0} (rules : HostRules V) (contents : W → Option (List ℕ)) where
  -- what was read is the run over the events
  pub reads_of : (prompt : List ℕ) (value : V) (old new : AnsiTerminal W) (events : List EventView) (held : List ℕ) (k : IsReadBy rules contents prompt value old new events held)
      → Reads (run_over rules events (fresh_frame prompt value (terminal_state old))) (fresh_frame prompt value (terminal_state old))
      (frame_of k.read.0.0 k.left (terminal_state new)) (outcome_in k.answer)
  reads_of prompt value old new events held k =
      let told = k.read.0.1 in
      let begun : Frame V = fresh_frame prompt value (terminal_state old) in
      let reached : Frame V = frame_of k.read.0.0 k.left (terminal_state new) in
      let same : told.0 ≡ events = append_cancel_left (events_in k.before) told.0 events (sym told.1 ∙ told_then k.before k.steps ∙ ap (λ l. events_in k.before ++ l) k.told) in
      subst (λ all. Reads (run_over rules all begun) begun reached (outcome_in k.answer)) same told.3

  pub readings_are_sent : ReadingsAreSent rules contents
  readings_are_sent prompt value old new events held shown k taken =
      let by = k.reading in
      let f : Frame V = reading_frame prompt value old events in
      let end : List Batch = closing_if (run_of rules f).mark in
      let sent = done_is_sent contents by.steps old new by.done (subst (λ all. AllByRecursion (λ size. size.cols ≡ old.sent.encoder.cols) (sizes_in all)) (sym by.told) k.cols) in
      let all : batches_in by.steps ≡ shown ++ end = append_cancel_left f.terminal.batches (batches_in by.steps) (shown ++ end)
      (sym sent.0 ∙ (reads_of prompt value old new events held by).batches ∙ ap (λ l. l ++ end) taken ∙ append_assoc f.terminal.batches shown end) in (
        appended (contents old.writer) (contents new.writer) held (sent_batches (batches_in by.steps) old.sent.encoder).bytes by.holds sent.1 ∙ ap (λ l. Some (held ++ (sent_batches l old.sent.encoder).bytes)) all,
        sent.2 ∙ ap (λ l. (sent_batches l old.sent.encoder).next) all,
      )

-- ---- sized batches

-- some, and then others
pub sized_both : (xs ys : List SizedBatch) (e : Encoder) → sent_sized (xs ++ ys) e ≡ sent_then (sent_sized xs e) (sent_sized ys)
sized_both [] ys e = refl
sized_both (x ∷ xs) ys e =
    let first : Sent = sent_at x e in
    let later : Sent = sent_sized ys (sent_sized xs first.next).next in
    ap (λ s. record { bytes = first.bytes ++ s.bytes; next = s.next }) (sized_both xs ys first.next)
    ∙ ap (λ bytes. record { bytes = bytes; next = later.next }) (sym (append_assoc first.bytes (sent_sized xs first.next).bytes later.bytes))

-- one at the columns that are known
known_at : (w : ℕ) (batch : Batch) (e : Encoder) → e.cols ≡ w → sent_at (record { cols = w; batch = batch }) e ≡ sent_batch batch e
known_at w batch e same = subst (λ cols. sent_at (record { cols = cols; batch = batch }) e ≡ sent_batch batch e) same refl

-- and some
pub sized_known : (w : ℕ) (played : List Batch) (e : Encoder) → e.cols ≡ w → sent_sized (sized_at w played) e ≡ sent_batches played e
sized_known w [] e same = refl
sized_known w (batch ∷ more) e same =
    let next : Encoder = (sent_batch batch e).next in
    ap (λ (s : Sent). sent_then s (sent_sized (sized_at w more))) (known_at w batch e same)
    ∙ ap (λ s. record { bytes = (sent_batch batch e).bytes ++ s.bytes; next = s.next }) (sized_known w more next (batch_in batch e ∙ same))

-- batches leave the columns that are known
pub cols_stay : (played : List Batch) (e : Encoder) → (sent_batches played e).next.cols ≡ e.cols
cols_stay [] e = refl
cols_stay (batch ∷ more) e = cols_stay more (sent_batch batch e).next ∙ batch_in batch e

module _ {V : Type 0} (rules : HostRules V) where
  -- the sized batches of the stations of a run from somewhere on
  abbrev pub sized_from : Option Mark → List (Station V) → List SizedBatch
  sized_from mark stations = sized_after mark (map (sized_scene rules) stations)

  -- they do not depend on the columns that are known before, since each sets its own
  pub station_sets : (mark : Option Mark) (station : Station V) (more : List (Station V)) (end : List SizedBatch) (e : Encoder) (w : ℕ)
      → sent_sized (sized_from mark (station ∷ more) ++ end) (record e { cols = w }) ≡ sent_sized (sized_from mark (station ∷ more) ++ end) e
  station_sets mark station more end e w = by_cleared station.cleared
    where
      shot : Painting
      shot = painting station.size.cols (sized_scene rules station).scene

      by_cleared : (cleared : Bool) → let sized = (sized_at station.size.cols (clearing cleared ++ (start_of mark ++ shot.changes) ∷ []) ++ sized_from (Some (mark_of shot)) more) ++ end in
          sent_sized sized (record e { cols = w }) ≡ sent_sized sized e
      by_cleared true = refl
      by_cleared false = refl

  stations_set : (events : List EventView) (cleared : Bool) (s : Progress V) (mark : Option Mark) (end : List SizedBatch) (e : Encoder) (w : ℕ)
      → sent_sized (sized_from mark (stations_from rules events cleared s) ++ end) (record e { cols = w }) ≡ sent_sized (sized_from mark (stations_from rules events cleared s) ++ end) e
  stations_set [] cleared s mark end e w = station_sets mark (station_at cleared s) [] end e w
  stations_set (event ∷ events) cleared s mark end e w = station_sets mark (station_at cleared s) (stations_by rules event s (stations_from rules events) (painting_at rules s)) end e w

-- an outcome that is no refusal
abbrev pub IsAnswer : Outcome → Type 0
IsAnswer (Ok line) = Unit {0}
IsAnswer (Err r) = ⊥

-- the painting of the first of some shots
abbrev painting_of_first : Painting → List Shot → Painting
painting_of_first p [] = p
painting_of_first p (shot ∷ more) = shot.painting

module _ {V : Type 0} (rules : HostRules V) where
  -- a painting that is not refused is that of the scene at the screen's columns
  painting-is : (s : Station V) (p : Painting) → station_painting rules s ≡ Ok p → p ≡ painting s.size.cols (sized_scene rules s).scene
  painting-is s p h = ap (painting_of_first p) (ap (shots_by s.cleared []) (sym h) ∙ shots_before rules (s ∷ []) [] ((p, h), tt))

  -- ---- a run that goes on after an event

  -- what is painted, and the state to which the event leads
  record GoesOn (event : EventView) (s : Progress V) (cleared : Bool) : Type 0 where
    painting : Painting
    painted : station_painting rules (station_at cleared s) ≡ Ok painting
    unended : is_over s.state.mode ≡ false
    state : EditState
    leads : state_after rules s event ≡ Ok state

  -- a painting as it is rendered
  abbrev rendered : Progress V → Painting → Rendering
  rendered s p = record { changes = start_of s.mark ++ p.changes; mark = mark_of p }

  rendered-is : (s : Progress V) (cleared : Bool) (q : Result Painting Refusal) → station_painting rules (station_at cleared s) ≡ q → painting_at rules s ≡ rendering_of s.mark q
  rendered-is s cleared q h = rendered_at rules s cleared ∙ ap (rendering_of s.mark) h

  goes_on : (event : EventView) (events : List EventView) (s : Progress V) (cleared : Bool) → (run rules (event ∷ events) s).left ≡ [] → IsAnswer (run rules (event ∷ events) s).answer
      → GoesOn event s cleared
  goes_on event events s cleared left answer =
      let same = is (station_painting rules (station_at cleared s)) refl in
      go _ refl _ refl _ refl (subst (λ (end : Ending V). end.left ≡ []) same left) (subst (λ (end : Ending V). IsAnswer end.answer) same answer)
    where
      came : Result Painting Refusal → Bool → Result EditState Refusal → Ending V
      came (Err r) over a = ends (Err r) (event ∷ events) s
      came (Ok p) over a = cond over (ends (answer_at s.state) (event ∷ events) (after_painting s (rendered s p))) (after_event rules event events (after_painting s (rendered s p)) (run rules events) a)

      is : (q : Result Painting Refusal) → station_painting rules (station_at cleared s) ≡ q → run rules (event ∷ events) s ≡ came q (is_over s.state.mode) (state_after rules s event)
      is (Err r) h = ap (at_event rules event events s (run rules events)) (rendered-is s cleared (Err r) h)
      is (Ok p) h = ap (at_event rules event events s (run rules events)) (rendered-is s cleared (Ok p) h)

      go : (q : Result Painting Refusal) → station_painting rules (station_at cleared s) ≡ q → (over : Bool) → is_over s.state.mode ≡ over → (a : Result EditState Refusal) → state_after rules s event ≡ a
          → (came q over a).left ≡ [] → IsAnswer (came q over a).answer → GoesOn event s cleared
      go (Err r) h over o a st left answer = absurd answer
      go (Ok p) h true o a st left answer = absurd (let some : length (event ∷ events) ≡ 0 = ap length left in omega arith)
      go (Ok p) h false o (Err r) st left answer = absurd answer
      go (Ok p) h false o (Ok state) st left answer = record { painting = p; painted = h; unended = o; state = state; leads = st }

  module _ {event : EventView} {s : Progress V} {cleared : Bool} (k : GoesOn event s cleared) where
    -- after the painting
    abbrev drawn : Progress V
    drawn = after_painting s (rendered s k.painting)

    -- after the event
    abbrev next : Progress V
    next = after_action rules drawn event k.state

    abbrev clears : Bool
    clears = is_repaint (chosen_action rules drawn event)

    run-next : (more : List EventView) → run rules (event ∷ more) s ≡ run rules more next
    run-next more =
        ap (at_event rules event more s (run rules more)) (rendered-is s cleared (Ok k.painting) k.painted)
        ∙ ap (λ b. cond b (ends (answer_at s.state) (event ∷ more) drawn) (after_event rules event more drawn (run rules more) (state_after rules s event))) k.unended
        ∙ ap (after_event rules event more drawn (run rules more)) k.leads

    stations-next : (more : List EventView) → stations_from rules (event ∷ more) cleared s ≡ station_at cleared s ∷ stations_from rules more clears next
    stations-next more =
        ap (λ r. station_at cleared s ∷ stations_by rules event s (stations_from rules more) r) (rendered-is s cleared (Ok k.painting) k.painted)
        ∙ ap (λ b. station_at cleared s ∷ stations_unless (stations_after rules event drawn (stations_from rules more) (state_after rules s event)) b) k.unended
        ∙ ap (λ a. station_at cleared s ∷ stations_after rules event drawn (stations_from rules more) a) k.leads

    painted-next : (run rules [] s).taken ≡ s.taken ++ (start_of s.mark ++ k.painting.changes) ∷ []
    painted-next = ap (λ r. (at_no_event rules s r).taken) (rendered-is s cleared (Ok k.painting) k.painted)

  -- ---- the size at the end

  -- the size of the last of some stations, or this one
  abbrev pub last_size : ScreenSize → List (Station V) → ScreenSize
  last_size z [] = z
  last_size z (station ∷ more) = last_size station.size more

  pub last_size-is : (z : ScreenSize) (earlier : List (Station V)) (station : Station V) → last_size z (earlier ++ station ∷ []) ≡ station.size
  last_size-is z [] station = refl
  last_size-is z (first ∷ more) station = last_size-is first.size more station

  end-size : (s : Progress V) (r : Result Rendering Refusal) → s.size ≡ (at_no_event rules s r).size
  end-size s (Ok p) = refl
  end-size s (Err r) = refl

  -- a run that is answered ends at the size of its last station
  pub ends_at : (events : List EventView) (cleared : Bool) (s : Progress V) (z : ScreenSize) → (run rules events s).left ≡ [] → IsAnswer (run rules events s).answer
      → last_size z (stations_from rules events cleared s) ≡ (run rules events s).size
  ends_at [] cleared s z left answer = end-size s (painting_at rules s)
  ends_at (event ∷ events) cleared s z left answer =
      let k : GoesOn event s cleared = goes_on event events s cleared left answer in
      ap (last_size z) (stations-next k events)
      ∙ ends_at events (clears k) (next k) s.size
      (subst (λ (r : Ending V). r.left ≡ []) (run-next k events) left) (subst (λ (r : Ending V). IsAnswer r.answer) (run-next k events) answer)
      ∙ ap (λ (r : Ending V). r.size) (sym (run-next k events))

  module _ {W : Type 0} (contents : W → Option (List ℕ)) where
    -- ---- what is sent on the way

    -- these sized batches were sent on the way, and these columns are known then
    abbrev IsSentAs : List SizedBatch → ℕ → AnsiTerminal W → AnsiTerminal W → Type 0
    IsSentAs played w old new = Appends (contents old.writer) (contents new.writer) (sent_sized played old.sent.encoder).bytes
        × (new.sent.encoder ≡ (sent_sized played old.sent.encoder).next) × (new.sent.encoder.cols ≡ w)

    -- steps that tell nothing send the batches that they take, at the columns that are known
    steps-sent : (w : ℕ) (played : List Batch) (steps : List Step) (old new : AnsiTerminal W) → events_in steps ≡ [] → IsDone (Does contents) (deeds_of steps) old new
        → (terminal_state new).batches ≡ (terminal_state old).batches ++ played → old.sent.encoder.cols ≡ w → IsSentAs (sized_at w played) w old new
    steps-sent w played steps old new none done taken same =
        let batches : List Batch = batches_in steps in
        let sent = done_is_sent contents steps old new done (subst (λ all. AllByRecursion (λ size. size.cols ≡ old.sent.encoder.cols) (sizes_in all)) (sym none) tt) in
        let are : batches ≡ played = append_cancel_left (terminal_state old).batches batches played (sym sent.0 ∙ taken) in
        let is : sent_batches batches old.sent.encoder ≡ sent_sized (sized_at w played) old.sent.encoder = ap (λ l. sent_batches l old.sent.encoder) are ∙ sym (sized_known w played old.sent.encoder same) in (
          subst (λ (s : Sent). Appends (contents old.writer) (contents new.writer) s.bytes) is sent.1,
          sent.2 ∙ ap (λ (s : Sent). s.next) is,
          ap (λ (e : Encoder). e.cols) sent.2 ∙ cols_stay batches old.sent.encoder ∙ same,
        )

    -- What a size that an event tells leaves: nothing is written, and of what is known only the columns may be others.
    record IsResized (event : EventView) (z : ScreenSize) (old new : AnsiTerminal W) : Type 0 where
      pub bytes : Appends (contents old.writer) (contents new.writer) []
      pub known : (u : ℕ) × (new.sent.encoder ≡ record old.sent.encoder { cols = u })
      pub cols : new.sent.encoder.cols ≡ (size_after event z).cols
      pub batches : (terminal_state new).batches ≡ (terminal_state old).batches

    resized : (event : EventView) (z : ScreenSize) (old new : AnsiTerminal W) → IsDone (Does contents) (map Sized (sizes_in (event ∷ []))) old new → old.sent.encoder.cols ≡ z.cols
        → IsResized event z old new
    resized (Resized cols rows) z old new done same =
        let sent = done_sends contents (Sized (record { rows = rows; cols = cols }) ∷ []) old new done refl in
        record { bytes = sent.1; known = (cols, sent.2); cols = ap (λ (e : Encoder). e.cols) sent.2; batches = sent.0 ∙ append-nil (terminal_state old).batches }
    resized (Key key) z old new done same =
        let sent = done_sends contents [] old new done refl in
        record { bytes = sent.1; known = (old.sent.encoder.cols, sent.2); cols = ap (λ (e : Encoder). e.cols) sent.2 ∙ same; batches = sent.0 ∙ append-nil (terminal_state old).batches }
    resized (Paste text) z old new done same =
        let sent = done_sends contents [] old new done refl in
        record { bytes = sent.1; known = (old.sent.encoder.cols, sent.2); cols = ap (λ (e : Encoder). e.cols) sent.2 ∙ same; batches = sent.0 ∙ append-nil (terminal_state old).batches }
    resized Wake z old new done same =
        let sent = done_sends contents [] old new done refl in
        record { bytes = sent.1; known = (old.sent.encoder.cols, sent.2); cols = ap (λ (e : Encoder). e.cols) sent.2 ∙ same; batches = sent.0 ∙ append-nil (terminal_state old).batches }

    -- some batches, then a size, and then others, each of which sets its columns
    sent-then : (xs ys : List SizedBatch) (w v : ℕ) (old reached sized new : AnsiTerminal W) → IsSentAs xs w old reached
        → Appends (contents reached.writer) (contents sized.writer) [] → (u : ℕ) × (sized.sent.encoder ≡ record reached.sent.encoder { cols = u })
        → ((e : Encoder) (u : ℕ) → sent_sized ys (record e { cols = u }) ≡ sent_sized ys e)
        → IsSentAs ys v sized new → IsSentAs (xs ++ ys) v old new
    sent-then xs ys w v old reached sized new first nothing (u, known) sets later =
        let begun : Sent = sent_sized xs old.sent.encoder in
        let rest : sent_sized ys sized.sent.encoder ≡ sent_sized ys begun.next = ap (sent_sized ys) known ∙ sets reached.sent.encoder u ∙ ap (sent_sized ys) first.1 in
        let all : sent_then begun (sent_sized ys) ≡ sent_sized (xs ++ ys) old.sent.encoder = sym (sized_both xs ys old.sent.encoder) in (
          subst (λ (s : Sent). Appends (contents old.writer) (contents new.writer) s.bytes) all
              (appends_then (contents old.writer) (contents reached.writer) (contents new.writer) begun.bytes (sent_sized ys begun.next).bytes first.0
              (appends_then (contents reached.writer) (contents sized.writer) (contents new.writer) [] (sent_sized ys begun.next).bytes nothing
              (subst (λ (s : Sent). Appends (contents sized.writer) (contents new.writer) s.bytes) rest later.0))),
          later.1 ∙ ap (λ (s : Sent). s.next) rest ∙ ap (λ (s : Sent). s.next) all,
          later.2,
        )

    -- ---- a run

    -- all that a run takes was taken, and then these batches; no event is left, and it is answered
    abbrev IsAllTaken : Ending V → List Batch → AnsiTerminal W → Type 0
    IsAllTaken r end new = ((terminal_state new).batches ≡ r.taken ++ end) × (r.left ≡ []) × IsAnswer r.answer

    -- the batches of stations were sent, and then those after the end of the run
    abbrev SendsStations : Option Mark → List (Station V) → Ending V → List Batch → AnsiTerminal W → AnsiTerminal W → Type 0
    SendsStations mark stations r end old new = IsSentAs (sized_from rules mark stations ++ sized_at r.size.cols end) r.size.cols old new

    -- the run over the events of steps from somewhere on
    abbrev SendsFrom : List Step → List EventView → Type 0
    SendsFrom steps events = (cleared : Bool) (s : Progress V) (old new : AnsiTerminal W) (end : List Batch)
        → s.taken ≡ (terminal_state old).batches ++ clearing cleared → old.sent.encoder.cols ≡ s.size.cols
        → IsDone (Does contents) (deeds_of steps) old new → IsInTime (IsDueBy (λ seen. (run rules seen s).taken)) (terminal_state old).batches steps
        → IsAllTaken (run rules events s) end new
        → SendsStations s.mark (stations_from rules events cleared s) (run rules events s) end old new

    -- the last painting
    sends-last : (steps : List Step) → events_in steps ≡ [] → SendsFrom steps []
    sends-last steps none cleared s old new end base cols done in_time =
        subst (λ r. IsAllTaken (at_no_event rules s r) end new → SendsStations s.mark (station_at cleared s ∷ []) (at_no_event rules s r) end old new) (sym (rendered-is s cleared q refl)) (by_painting q refl)
      where
        q : Result Painting Refusal
        q = station_painting rules (station_at cleared s)

        by_painting : (q : Result Painting Refusal) → station_painting rules (station_at cleared s) ≡ q
            → IsAllTaken (at_no_event rules s (rendering_of s.mark q)) end new → SendsStations s.mark (station_at cleared s ∷ []) (at_no_event rules s (rendering_of s.mark q)) end old new
        by_painting (Err r) h whole = absurd whole.2
        by_painting (Ok p) h whole =
            let w : ℕ = s.size.cols in
            let batch : Batch = start_of s.mark ++ p.changes in
            let played : List Batch = clearing cleared ++ batch ∷ [] in
            let taken : (terminal_state new).batches ≡ (terminal_state old).batches ++ (played ++ end) =
            whole.0 ∙ ap (λ b. (b ++ batch ∷ []) ++ end) base
            ∙ ap (λ b. b ++ end) (append_assoc (terminal_state old).batches (clearing cleared) (batch ∷ []))
            ∙ append_assoc (terminal_state old).batches played end in
            let lists : sized_at w (played ++ end) ≡ (sized_at w played ++ []) ++ sized_at w end =
            map-append (λ batch. record { cols = w; batch = batch }) played end ∙ ap (λ l. l ++ sized_at w end) (sym (append-nil (sized_at w played))) in
            subst (λ (p : Painting). IsSentAs ((sized_at w (clearing cleared ++ (start_of s.mark ++ p.changes) ∷ []) ++ []) ++ sized_at w end) w old new)
            (painting-is (station_at cleared s) p h)
            (subst (λ l. IsSentAs l w old new) lists (steps-sent w (played ++ end) steps old new none done taken cols))

    -- one event more, after steps that tell none
    sends-event : (first later : List Step) (event : EventView) (events : List EventView) → events_in first ≡ [] → SendsFrom later events → SendsFrom (first ++ step.Told event ∷ later) (event ∷ events)
    sends-event first later event events none rest cleared s old new end base cols done in_time whole =
        let k : GoesOn event s cleared = goes_on event events s cleared whole.1 whole.2 in
        let w : ℕ = s.size.cols in
        let batch : Batch = start_of s.mark ++ k.painting.changes in
        let played : List Batch = clearing cleared ++ batch ∷ [] in
        let does = Does contents in
        let parts = done_parts does (deeds_of first) (map Sized (sizes_in (event ∷ [])) ++ deeds_of later) old new
        (subst (λ deeds. IsDone does deeds old new) (deeds_then first (step.Told event ∷ later)) done) in
        let reached : AnsiTerminal W = parts.0 in
        let behind = done_parts does (map Sized (sizes_in (event ∷ []))) (deeds_of later) reached new parts.2 in
        let sized : AnsiTerminal W = behind.0 in
        let taken_first : (terminal_state reached).batches ≡ (terminal_state old).batches ++ batches_in first =
        (done_is_sent contents first old reached parts.1 (subst (λ all. AllByRecursion (λ size. size.cols ≡ old.sent.encoder.cols) (sizes_in all)) (sym none) tt)).0 in
        let is : (terminal_state reached).batches ≡ (run rules [] s).taken = taken_first ∙ in_time first later event refl ∙ ap (λ seen. (run rules seen s).taken) none in
        let taken : (terminal_state reached).batches ≡ (terminal_state old).batches ++ played =
        is ∙ painted-next k ∙ ap (λ b. b ++ batch ∷ []) base ∙ append_assoc (terminal_state old).batches (clearing cleared) (batch ∷ []) in
        let sent : IsSentAs (sized_at w played) w old reached = steps-sent w played first old reached none parts.1 taken cols in
        let set = resized event s.size reached sized behind.1 sent.2 in
        let r : Ending V = run rules events (next k) in
        let stations : List (Station V) = stations_from rules events (clears k) (next k) in
        let in_time_later : IsInTime (IsDueBy (λ seen. (run rules seen (next k)).taken)) (terminal_state sized).batches later = λ before after other at.
        let here : List Step = first ++ step.Told event ∷ before in
        ap (λ l. l ++ batches_in before) (set.batches ∙ taken_first) ∙ append_assoc (terminal_state old).batches (batches_in first) (batches_in before)
        ∙ ap (λ l. (terminal_state old).batches ++ l) (sym (batches_then first (step.Told event ∷ before)))
        ∙ in_time here after other (ap (λ l. first ++ step.Told event ∷ l) at ∙ sym (append_assoc first (step.Told event ∷ before) (step.Told other ∷ after)))
        ∙ ap (λ seen. (run rules seen s).taken) (told_then first (step.Told event ∷ before) ∙ ap (λ l. l ++ event ∷ events_in before) none)
        ∙ ap (λ (end : Ending V). end.taken) (run-next k (events_in before)) in
        let more = rest (clears k) (next k) sized new end (ap (λ b. b ++ clearing (clears k)) (sym (set.batches ∙ is ∙ painted-next k))) set.cols
        behind.2 in_time_later (subst (λ r. IsAllTaken r end new) (run-next k events) whole) in
        let mark : Option Mark = Some (mark_of k.painting) in
        let both : IsSentAs (sized_at w played ++ (sized_from rules mark stations ++ sized_at r.size.cols end)) r.size.cols old new =
        sent-then (sized_at w played) (sized_from rules mark stations ++ sized_at r.size.cols end) w r.size.cols old reached sized new sent set.bytes set.known
        (stations_set rules events (clears k) (next k) mark (sized_at r.size.cols end)) more in
        let joined : IsSentAs ((sized_at w played ++ sized_from rules mark stations) ++ sized_at r.size.cols end) r.size.cols old new =
        subst (λ l. IsSentAs l r.size.cols old new) (sym (append_assoc (sized_at w played) (sized_from rules mark stations) (sized_at r.size.cols end))) both in
        subst (λ l. SendsStations s.mark l (run rules (event ∷ events) s) end old new) (sym (stations-next k events))
        (subst (λ r. SendsStations s.mark (station_at cleared s ∷ stations) r end old new) (sym (run-next k events))
        (subst (λ (p : Painting). IsSentAs ((sized_at w (clearing cleared ++ (start_of s.mark ++ p.changes) ∷ []) ++ sized_from rules (Some (mark_of p)) stations) ++ sized_at r.size.cols end) r.size.cols old new)
        (painting-is (station_at cleared s) k.painting k.painted) joined))

    -- a step that tells no event is one of those
    sends-past : (first : List Step) (x : Step) (steps : List Step) → events_in first ≡ [] → events_in (x ∷ steps) ≡ events_in steps → SendsFrom ((first ++ x ∷ []) ++ steps) (events_in steps)
        → SendsFrom (first ++ x ∷ steps) (events_in (x ∷ steps))
    sends-past first x steps none silent sends =
        subst (λ events. SendsFrom (first ++ x ∷ steps) events) (sym silent) (subst (λ l. SendsFrom l (events_in steps)) (append_assoc first (x ∷ []) steps) sends)

    told_none : (first : List Step) (x : Step) → events_in first ≡ [] → events_in (x ∷ []) ≡ [] → events_in (first ++ x ∷ []) ≡ []
    told_none first x none silent = told_then first (x ∷ []) ∙ ap (λ l. l ++ events_in (x ∷ [])) none ∙ silent

    -- steps, after others that tell no event
    sends-after : (first steps : List Step) → events_in first ≡ [] → SendsFrom (first ++ steps) (events_in steps)
    sends-after first [] none = subst (λ steps. SendsFrom steps []) (sym (append-nil first)) (sends-last first none)
    sends-after first (step.Told event ∷ steps) none = sends-event first steps event (events_in steps) none (sends-after [] steps refl)
    sends-after first (step.Took batch ∷ steps) none = sends-past first (step.Took batch) steps none refl (sends-after (first ++ step.Took batch ∷ []) steps (told_none first (step.Took batch) none refl))
    sends-after first (step.Refused ∷ steps) none = sends-past first step.Refused steps none refl (sends-after (first ++ step.Refused ∷ []) steps (told_none first step.Refused none refl))
    sends-after first (step.Sent ∷ steps) none = sends-past first step.Sent steps none refl (sends-after (first ++ step.Sent ∷ []) steps (told_none first step.Sent none refl))
    sends-after first (step.Flushed ∷ steps) none = sends-past first step.Flushed steps none refl (sends-after (first ++ step.Flushed ∷ []) steps (told_none first step.Flushed none refl))
    sends-after first (step.Waited ∷ steps) none = sends-past first step.Waited steps none refl (sends-after (first ++ step.Waited ∷ []) steps (told_none first step.Waited none refl))
    sends-after first (step.Ended ∷ steps) none = sends-past first step.Ended steps none refl (sends-after (first ++ step.Ended ∷ []) steps (told_none first step.Ended none refl))
    sends-after first (step.Failed fault ∷ steps) none =
        sends-past first (step.Failed fault) steps none refl (sends-after (first ++ step.Failed fault ∷ []) steps (told_none first (step.Failed fault) none refl))

    pub sends_from : (steps : List Step) → SendsFrom steps (events_in steps)
    sends_from steps = sends-after [] steps refl

-- ---- a reading

-- an answer is no refusal
answered : (answer : Answer) → IsAnswer (outcome_in answer)
answered (Line line) = tt
answered Cancelled = tt
answered (End line) = tt

module _ {V W : Type 0} (rules : HostRules V) (contents : W → Option (List ℕ)) where
  pub readings_are_sized : ReadingsAreSized rules contents
  readings_are_sized prompt value old new events held k =
      let begun : Frame V = fresh_frame prompt value (terminal_state old) in
      let by = k.reading in
      let reads = reads_of rules contents prompt value old new events held by in
      let f : Frame V = reading_frame prompt value old events in
      let end : List Batch = closing_if (run_of rules f).mark in
      let sends = subst (λ all. SendsFrom rules contents by.steps all) by.told (sends_from rules contents by.steps) in
      let sent = sends false (progress_of begun) old new end (sym (append-nil (terminal_state old).batches)) k.cols by.done k.in_time
      (reads.batches, sym reads.left, subst IsAnswer reads.answer_is (answered by.answer)) in (
        appended (contents old.writer) (contents new.writer) held (sent_sized (run_sized rules f) old.sent.encoder).bytes by.holds sent.0,
        sent.1,
        sent.2 ∙ ap (λ size. size.cols) (sym reads.size),
      )

-- ---- stations after others

-- the sized batches of stations, and then of others
sized_after-both : (mark : Option Mark) (xs ys : List SizedScene) → sized_after mark (xs ++ ys) ≡ sized_after mark xs ++ sized_after (mark_after mark (map shot_of xs)) ys
sized_after-both mark [] ys = refl
sized_after-both mark (x ∷ xs) ys =
    let next : Option Mark = Some (mark_of (painting x.cols x.scene)) in
    let first : List SizedBatch = sized_at x.cols (clearing x.scene.cleared ++ (start_of mark ++ (painting x.cols x.scene).changes) ∷ []) in
    ap (λ l. first ++ l) (sized_after-both next xs ys) ∙ sym (append_assoc first (sized_after next xs) (sized_after (mark_after next (map shot_of xs)) ys))

-- those that are sent at w columns
uniform : (w : ℕ) (mark : Option Mark) (xs : List SizedScene) → AllByRecursion (IsSentAt w) xs → sized_after mark xs ≡ sized_at w (map (λ sized. sized.batch) (sized_after mark xs))
uniform w mark xs a = sized_uniformly w mark xs a ∙ ap (sized_at w) (sym (sized_are mark xs))

module _ {V : Type 0} (rules : HostRules V) where
  -- the stations since some, and whatever comes after them, set their columns
  since_set : (mark : Option Mark) (since : List (Station V)) (station : Station V) (end : List SizedBatch) (e : Encoder) (w : ℕ)
      → sent_sized (sized_from rules mark (since ++ station ∷ []) ++ end) (record e { cols = w }) ≡ sent_sized (sized_from rules mark (since ++ station ∷ []) ++ end) e
  since_set mark [] station end e w = station_sets rules mark station [] end e w
  since_set mark (first ∷ more) station end e w = station_sets rules mark first (more ++ station ∷ []) end e w

  -- What a run sends: the bytes of the stations before a clearing, at any sizes, those of the stations since then, and
  -- the rest.
  sent_in_parts : (f : Frame V) (e : Encoder) (w : ℕ) (earlier since : List (Station V)) (station : Station V) (later : List (Station V))
      → stations_of rules f ≡ earlier ++ (since ++ station ∷ later) → AllByRecursion (IsSentAt w) (map (sized_scene rules) (since ++ station ∷ []))
      → let before = sent_sized (stations_sized rules earlier) e in
      let sent = sent_batches (taken_since rules earlier since station) (record before.next { cols = w }) in
      let last = mark_after (mark_after None (map shot_of (map (sized_scene rules) earlier))) (map shot_of (map (sized_scene rules) (since ++ station ∷ []))) in
      let rest = sent_sized (sized_from rules last later ++ sized_at (run_of rules f).size.cols (closing_if (run_of rules f).mark)) sent.next in
      sent_sized (run_sized rules f) e ≡ record { bytes = before.bytes ++ (sent.bytes ++ rest.bytes); next = rest.next }
  sent_in_parts f e w earlier since station later stations-are sent-at =
      let scenes : List (Station V) → List SizedScene = map (sized_scene rules) in
      let mark : Option Mark = mark_after None (map shot_of (scenes earlier)) in
      let last : Option Mark = mark_after mark (map shot_of (scenes (since ++ station ∷ []))) in
      let a : List SizedBatch = stations_sized rules earlier in
      let b : List SizedBatch = since_batches rules earlier (since ++ station ∷ []) in
      let c : List SizedBatch = sized_from rules last later in
      let closing : List SizedBatch = sized_at (run_of rules f).size.cols (closing_if (run_of rules f).mark) in
      let before : Sent = sent_sized a e in
      let known : Encoder = record before.next { cols = w } in
      let taken : List Batch = taken_since rules earlier since station in
      let parts : scenes (stations_of rules f) ≡ scenes earlier ++ (scenes (since ++ station ∷ []) ++ scenes later) =
      ap scenes (stations-are ∙ ap (λ l. earlier ++ l) (sym (append_assoc since (station ∷ []) later)))
      ∙ map-append (sized_scene rules) earlier ((since ++ station ∷ []) ++ later)
      ∙ ap (λ l. scenes earlier ++ l) (map-append (sized_scene rules) (since ++ station ∷ []) later) in
      let all : run_sized rules f ≡ a ++ (b ++ (c ++ closing)) =
      ap (λ l. sized_after None l ++ closing) parts
      ∙ ap (λ l. l ++ closing) (sized_after-both None (scenes earlier) (scenes (since ++ station ∷ []) ++ scenes later))
      ∙ ap (λ l. (a ++ l) ++ closing) (sized_after-both mark (scenes (since ++ station ∷ [])) (scenes later))
      ∙ append_assoc a (b ++ c) closing
      ∙ ap (λ l. a ++ l) (append_assoc b c closing) in
      let since_sent : sent_sized b known ≡ sent_batches taken known =
      ap (λ l. sent_sized l known) (uniform w mark (scenes (since ++ station ∷ [])) sent-at) ∙ sized_known w taken known refl in
      let behind : sent_sized (b ++ (c ++ closing)) before.next ≡ sent_then (sent_batches taken known) (sent_sized (c ++ closing)) =
      sym (since_set mark since station (c ++ closing) before.next w) ∙ sized_both b (c ++ closing) known ∙ ap (λ (s : Sent). sent_then s (sent_sized (c ++ closing))) since_sent in
      ap (λ l. sent_sized l e) all ∙ sized_both a (b ++ (c ++ closing)) e ∙ ap (λ (s : Sent). record { bytes = before.bytes ++ s.bytes; next = s.next }) behind

  module _ {W : Type 0} (contents : W → Option (List ℕ)) where
    -- the bytes of the stations since a clearing come after the ones before it
    pub since_is_sent : SinceIsSent rules contents
    since_is_sent prompt value old new events held w earlier since station later q =
        let written = readings_are_sized rules contents prompt value old new events held q.reading in
        (_, written.0 ∙ ap (λ (s : Sent). Some (held ++ s.bytes)) (sent_in_parts (reading_frame prompt value old events) old.sent.encoder w earlier since station later q.stations q.sent))

    -- where that station is the last one, they and those of the closing batch are all that comes after
    pub since_is_sent_whole : SinceIsSentWhole rules contents
    since_is_sent_whole prompt value old new events held w earlier since station q =
        let f : Frame V = reading_frame prompt value old events in
        let written = readings_are_sized rules contents prompt value old new events held q.reading in
        let reads = reads_of rules contents prompt value old new events held q.reading.reading in
        let end : List Batch = closing_if (run_of rules f).mark in
        let before : Sent = sent_sized (stations_sized rules earlier) old.sent.encoder in
        let e : Encoder = record before.next { cols = w } in
        let taken : List Batch = taken_since rules earlier since station in
        let begun : Sent = sent_batches taken e in
        let size = ends_at rules events false (progress_of f) f.terminal.size (sym reads.left) (subst IsAnswer reads.answer_is (answered q.reading.reading.answer)) in
        let last = ap (last_size rules f.terminal.size) (q.stations ∙ sym (append_assoc earlier since (station ∷ []))) ∙ last_size-is rules f.terminal.size (earlier ++ since) station in
        let here : IsSentAt w (sized_scene rules station) = last_of_all (IsSentAt w) (sized_scene rules) since station q.sent in
        let cols : begun.next.cols ≡ (run_of rules f).size.cols = cols_stay taken e ∙ sym here.cols ∙ ap (λ size. size.cols) (sym last ∙ size) in
        let is : sent_sized (run_sized rules f) old.sent.encoder ≡ record { bytes = before.bytes ++ (sent_batches (taken ++ end) e).bytes; next = (sent_batches (taken ++ end) e).next } =
        sent_in_parts f old.sent.encoder w earlier since station [] q.stations q.sent
        ∙ ap (λ (s : Sent). record { bytes = before.bytes ++ (begun.bytes ++ s.bytes); next = s.next }) (sized_known (run_of rules f).size.cols end begun.next cols)
        ∙ ap (λ (s : Sent). record { bytes = before.bytes ++ s.bytes; next = s.next }) (sym (sent_both taken end e)) in
        (written.0 ∙ ap (λ (s : Sent). Some (held ++ s.bytes)) is, written.1 ∙ ap (λ (s : Sent). s.next) is)
