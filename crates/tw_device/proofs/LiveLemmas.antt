-- A line that is fed what a source tells, against the run.
use Rattle.std.proofs.Common.{◌≡◌, ◌≢◌, IfOk, IfErr, ℕ, List, [], ◌∷◌, ◌++◌, cond, Bool, true, false, refl, sym, ◌∙◌, ap, subst, inl, inr, Option, None, Some, String, Result, Ok, Err}
use Rattle.std.proofs.lemmas.Bool.{false≢true}
use Rattle.std.proofs.lemmas.List.{append-nil, append_assoc, append_cancel_left}
use Rattle.std.specs.declared.alloc.Global.{Global}
use Rattle.tw_surface.specs.ChangeView.{Batch}
use Rattle.tw_surface.specs.PaintingBatches.{clear_batch}
use Rattle.tw_input.specs.EventView.{EventView, Key, Resized, Paste, Wake}
use Rattle.tw_terminal.specs.TerminalState.{TerminalState, size_after, count_up}
use Rattle.tw_terminal.specs.declared.terminal.ScreenSize.{ScreenSize}
use Rattle.tw_lineedit.specs.Frame.{Frame}
use Rattle.tw_lineedit.specs.Cut.{Cut}
use Rattle.tw_lineedit.specs.EditState.{EditState, ModeView, Inactive, Editing, Cancelled, Accepted, Searching}
use Rattle.tw_lineedit.specs.HostRules.{HostRules}
use Rattle.tw_lineedit.specs.declared.Overrides.{Overrides}
use Rattle.tw_lineedit.specs.Painting.{Rendering}
use Rattle.tw_lineedit.specs.Outcomes.{Outcome, outcome_of, answer_at, line_in, is_over, is_open}
use Rattle.tw_lineedit.specs.Refusal.{Refusal, refusal_of}
use Rattle.tw_lineedit.specs.Feeding.{status_if, paint_end, painted_run, fed_run, run_on, Begins, begun_run, WantsToBegin, FaultsToBegin, FailsToBegin, IsFed, event_run, WantsToFeed, FaultsToFeed, FailsToFeed, FailsToFinish, Uncopied}
use Rattle.tw_lineedit.specs.declared.editor.feeding.LineStatus.TheVariants.{Open}
use Rattle.tw_lineedit.specs.Reading.{start, Reads, FailsIn, HaltsIn, HaltsRefused, ClosesBadly, final_moment}
use Rattle.tw_lineedit.specs.Run.{Progress, Ending, Moment, Cause, want, fault, run, ends, ending, at_no_event, moment, progress_of, painting_at, after_taking, after_resolution, after_action, state_after, after_event, CanStop, Quiet, CanMiss, CanRefuse, unresolved, unapplied, half_cleared, missed, CanStopAt, refused, later, CanStopOn, uncopied, taking, at_painting}
use Rattle.tw_lineedit.specs.SessionView.{SessionView}
use Rattle.tw_lineedit.specs.declared.Error.{Error}
use Rattle.tw_lineedit.specs.declared.Error.TheVariants.{Memory, Terminal}
use Rattle.tw_lineedit.proofs.FeedingLemmas.{open_goes_on}
use Rattle.tw_device.specs.Live.{taken_on, resized_frame, frame_of, Opens, WaitsAfter, ComesBy, FailsFrom, FailsBy, FailsOver, FailsTold, ReadsTold, run_over, IsRead, StopsOn, StopsFeeding, answer_from}
use Rattle.tw_device.specs.Live as live
use Rattle.tw_device.specs.Steps.{IsDueBy, Step, state_in, events_in}
use Rattle.tw_device.specs.declared.keys.SourceState.{SourceState}
use Rattle.tw_device.specs.declared.reading.Answer.{Answer}
use Rattle.tw_device.specs.declared.reading.Stop.{Stop}
use Rattle.tw_device.specs.declared.reading.Stop.TheVariants.{Ended, SourceEnd as source_end, SourceFault as source_fault, Endless}

-- a size that an event tells twice
size_twice : (e : EventView) (z : ScreenSize) → size_after e (size_after e z) ≡ size_after e z
size_twice (Key key) z = refl
size_twice (Resized cols rows) z = refl
size_twice (Paste text) z = refl
size_twice Wake z = refl

-- a line that takes more events is open
pub still_open : (is_open : Bool) → status_if is_open ≡ Open → is_open ≡ true
still_open true is = refl
still_open false is = absurd (cc is)

-- why no more events are fed, after some
pub stops_by : (stop : Stop) (is_open : Bool) (old new : List Step) (told : List EventView) → StopsOn (Some stop) is_open old new
    → StopsFeeding stop is_open (state_in new) told (events_in new)
stops_by Ended is_open old new told stops = stops
stops_by source_end is_open old new told stops = stops
stops_by (source_fault why) is_open old new told stops = stops
stops_by Endless is_open old new told stops = absurd stops

module _ {V : Type 0} where
  -- the frames of equal parts
  pub frame_as : (s r : SessionView) (v : V) (t u : TerminalState) → r ≡ s → u ≡ t → frame_of r v u ≡ frame_of s v t
  frame_as s r v t u same left = ap (λ it. frame_of it v u) same ∙ ap (λ it. frame_of s v it) left

  -- a progress of this size
  abbrev with_size : Progress V → ScreenSize → Progress V
  with_size s z = record s { size = z }

  -- one quiet part after another
  quiet_on : (f g h : Frame V) → Quiet f g → Quiet g h → Quiet f h
  quiet_on f g h a b = record { flushed = b.flushed ∙ a.flushed; failures = b.failures ∙ a.failures }

module _ {V : Type 0} (m : Moment V) (f g h : Frame V) (q : Quiet f g) where
  -- a refused closing, seen from an earlier frame
  closes_badly_later : ClosesBadly m g h → ClosesBadly m f h
  closes_badly_later c = elim c [
    | inl part ↦ inl (record { leaves = part.leaves; flushed = part.flushed ∙ q.flushed })
    | inr whole ↦ inr (record { leaves = whole.leaves; flushed = whole.flushed ∙ q.flushed })
  ]

-- A run that leads to another one.
module _ {V : Type 0} (run rest : Ending V) (same : run ≡ rest) (f g h : Frame V) (q : Quiet f g) where
  -- the end of the other one
  pub reads_later : (answer : Outcome) → Reads rest g h answer → Reads run f h answer
  reads_later answer r = subst (λ (x : Ending V). Reads x f h answer) (sym same) (record {
    answer_is = r.answer_is;
    batches = r.batches;
    left = r.left;
    size = r.size;
    state = r.state;
    value = r.value;
    mark = r.mark;
    flushed = r.flushed;
    failures = r.failures ∙ q.failures;
  })

  -- where the other one halts
  pub halts_in : (Starves Starves_later : Moment V → Type 0) → ((m : Moment V) → Starves_later m → Starves m) → (m : Moment V) → HaltsIn rest Starves_later m → HaltsIn run Starves m
  halts_in Starves Starves_later starves m r = elim r [
    | inl at ↦ inl (at ∙ ap final_moment (sym same))
    | inr can ↦ inr (starves m can.0, can.1)
  ]

  -- and where it halts with a refusal
  pub halts_refused : (Starves Starves_later : Moment V → Type 0) → ((m : Moment V) → Starves_later m → Starves m) → (m : Moment V) → HaltsRefused rest Starves_later m → HaltsIn run Starves m
  halts_refused Starves Starves_later starves m r = elim r [
    | inl at ↦ inl (at.1 ∙ ap final_moment (sym same))
    | inr can ↦ inr (starves m can.0, can.1)
  ]

  module _ (Starves Faults Starves_later Faults_later Halts_later : Moment V → Type 0) (starves : (m : Moment V) → Starves_later m → Starves m) (faults : (m : Moment V) → Faults_later m → Faults m)
      (halts : (m : Moment V) → Halts_later m → HaltsIn run Starves m) where
    -- a refusal of the other one
    pub fails_later : (e : Error) → FailsIn rest Starves_later Faults_later Halts_later g h e → FailsIn run Starves Faults (HaltsIn run Starves) f h e
    fails_later (Memory x) (m, can, idle, closes, count) = (m, starves m can, idle, closes, count ∙ q.failures)
    fails_later (Terminal x) (m, r) = (
      m,
      elim r [
        | inl a ↦ inl (faults m a.0, a.1, a.2 ∙ ap count_up q.failures)
        | inr other ↦ inr (elim other [
          | inl b ↦ inl (faults m b.0, closes_badly_later m f g h q b.1, b.2 ∙ ap (λ (n : ℕ). count_up (count_up n)) q.failures)
          | inr c ↦ inr (halts m c.0, closes_badly_later m f g h q c.1, c.2 ∙ ap count_up q.failures)
        ])
      ],
    )
    fails_later e r = reads_later (Err (refusal_of e)) r

module _ {V : Type 0} (rules : HostRules V) (overrides : Overrides) where
  -- an event is taken at the size that it tells

  polled_twice : (s : Progress V) (e : EventView) → after_taking (after_taking s e) e ≡ after_taking s e
  polled_twice s e = ap (with_size s) (size_twice e s.size)

  answered_twice : (s : Progress V) (e : EventView) → after_resolution rules (after_taking s e) e ≡ after_resolution rules s e
  answered_twice s e = ap (with_size (after_resolution rules s e)) (size_twice e s.size)

  handled_twice : (s : Progress V) (e : EventView) (state : EditState) → after_action rules (after_taking s e) e state ≡ after_action rules s e state
  handled_twice s e state = ap (with_size (after_action rules s e state)) (size_twice e s.size)

  after_twice : (s : Progress V) (e : EventView) (es : List EventView) (r : Result EditState Refusal) → after_event rules e es (after_taking s e) (run rules es) r ≡ after_event rules e es s (run rules es) r
  after_twice s e es (Ok state) = ap (run rules es) (handled_twice s e state)
  after_twice s e es (Err n) = ap (ends (Err n) es) (answered_twice s e)

  run_twice : (s : Progress V) (e : EventView) (es : List EventView) → is_over s.state.mode ≡ false → run_on rules (e ∷ es) (after_taking s e) ≡ run_on rules (e ∷ es) s
  run_twice s e es o =
      ap (λ (b : Bool). cond b (ends (answer_at s.state) (e ∷ es) (after_taking s e)) (after_event rules e es (after_taking s e) (run rules es) (state_after rules s e))) o
      ∙ after_twice s e es (state_after rules s e)
      ∙ sym (ap (λ (b : Bool). cond b (ends (answer_at s.state) (e ∷ es) s) (after_event rules e es s (run rules es) (state_after rules s e))) o)

  refuse_twice : (c : Cause) (e : EventView) (es : List EventView) (s : Progress V) (m : Moment V) → CanRefuse rules overrides c e es (after_taking s e) m → CanRefuse rules overrides c e es s m
  refuse_twice c e es s m (unresolved own) = subst (λ (t : Progress V). CanRefuse rules overrides want e es s (moment None es t)) (sym (polled_twice s e)) (unresolved own)
  refuse_twice c e es s m (unapplied t) = subst (λ (y : Progress V). CanRefuse rules overrides want e es s (moment None es y)) (sym (answered_twice s e)) (unapplied t)
  refuse_twice c e es s m (half_cleared r) = subst (λ (y : Progress V). CanRefuse rules overrides fault e es s (moment (Some clear_batch) es y)) (sym (answered_twice s e)) (half_cleared r)
  refuse_twice c e es s m (missed st r) = missed st (subst (λ (y : Progress V). CanMiss rules c es y m) (handled_twice s e _) r)

  stop_twice : (c : Cause) (e : EventView) (es : List EventView) (s : Progress V) (m : Moment V) → CanStopAt rules overrides c e es (after_taking s e) m → CanStopAt rules overrides c e es s m
  stop_twice c e es s m (refused r) = refused (refuse_twice c e es s m r)
  stop_twice c e es s m (later st r) = later st (subst (λ (y : Progress V). CanStop rules overrides c es y m) (handled_twice s e _) r)

  -- a run that is over once its last painting is shown

  painted_last : (s : Progress V) (r : Result Rendering Refusal) → at_no_event rules s r ≡ paint_end [] s r
  painted_last s (Ok p) = refl
  painted_last s (Err n) = refl

  -- the run over no event
  run_none : (es : List EventView) (s : Progress V) → es ≡ [] → run rules [] s ≡ painted_run rules es s
  run_none es s none = painted_last s (painting_at rules s) ∙ ap (λ (xs : List EventView). painted_run rules xs s) (sym none)

  -- after an event at the size that it tells
  after_last : (s : Progress V) (e : EventView) (r : Result EditState Refusal) → after_event rules e [] s (run rules []) r ≡ after_event rules e [] (after_taking s e) (painted_run rules []) r
  after_last s e (Ok state) = ap (run rules []) (sym (handled_twice s e state)) ∙ run_none [] (after_action rules (after_taking s e) e state) refl
  after_last s e (Err n) = ap (ends (Err n) []) (sym (answered_twice s e))

  -- the run over one event
  run_one : (es : List EventView) (s : Progress V) (e : EventView) → is_over s.state.mode ≡ false → es ≡ [] → run_on rules (e ∷ []) s ≡ fed_run rules e es (after_taking s e)
  run_one es s e o none =
      ap (λ (b : Bool). cond b (ends (answer_at s.state) (e ∷ []) s) (after_event rules e [] s (run rules []) (state_after rules s e))) o
      ∙ after_last s e (state_after rules s e)
      ∙ ap (λ (xs : List EventView). fed_run rules e xs (after_taking s e)) (sym none)

  -- events in a row

  -- a line is begun
  pub opened : (f g : Frame V) → Begins rules overrides f g → Opens rules overrides f g
  opened f g b = record { run = b.run; stops = b.stops; quiet = b.quiet; left = b.left }

  -- an event is taken
  pub comes_one : (e : EventView) (f g : Frame V) → is_over f.state.mode ≡ false → IsFed rules overrides e (resized_frame e f) g → WaitsAfter rules overrides (e ∷ []) f g
  comes_one e f g o t = record {
    run = λ xs. sym (run_twice (progress_of f) e xs o) ∙ t.run xs;
    stops = λ c xs m r. taking o (stop_twice c e xs (progress_of f) m (t.stops c xs m r));
    quiet = record { flushed = t.quiet.flushed; failures = t.quiet.failures };
    left = t.left;
  }

  -- an event is taken by an open editor
  pub comes_fed : (e : EventView) (f h k : Frame V) → is_open f.state.mode ≡ true → h ≡ resized_frame e f → (is_open h.state.mode ≡ true → IsFed rules overrides e h k) → WaitsAfter rules overrides (e ∷ []) f k
  comes_fed e f h k o hf t =
      comes_one e f k (open_goes_on f.state.mode o) (subst (λ (y : Frame V). IsFed rules overrides e y k) hf (t (subst (λ (y : Frame V). is_open y.state.mode ≡ true) (sym hf) o)))

  -- refusals

  -- a line is not begun; nothing is left at the terminal
  pub unopened : (f h : Frame V) (e : Error) → f.terminal.events ≡ [] → FailsToBegin rules None f h e → FailsOver rules overrides [] (start None f) h e
  unopened f h e none r =
      let s : Progress V = progress_of (start None f) in
      let same : run rules [] s ≡ begun_run rules None f = run_none f.terminal.events s none in
      let starves : (m : Moment V) → WantsToBegin rules None f m → CanStop rules overrides want [] s m = λ m can. elim can [
        | inl miss ↦ at_painting (subst (λ (es : List EventView). CanMiss rules want es s m) none miss)
        | inr given ↦ absurd (false≢true given.0)
      ] in
      fails_later (run rules [] s) (begun_run rules None f) same
      (start None f) f h (record { flushed = refl; failures = refl })
      (CanStop rules overrides want [] s) (CanStop rules overrides fault [] s) (WantsToBegin rules None f) (FaultsToBegin rules None f) (HaltsRefused (begun_run rules None f) (WantsToBegin rules None f))
      starves
      (λ m can. at_painting (subst (λ (es : List EventView). CanMiss rules fault es s m) none can))
      (halts_refused (run rules [] s) (begun_run rules None f) same (start None f) f h (record { flushed = refl; failures = refl }) (CanStop rules overrides want [] s) (WantsToBegin rules None f) starves)
      e r

  -- an event is refused
  pub refused_one : (e : EventView) (f h : Frame V) (x : Error) → is_over f.state.mode ≡ false → f.terminal.events ≡ [] → FailsToFeed rules overrides e (resized_frame e f) h x → FailsFrom rules overrides (e ∷ []) f h x
  refused_one e f h x o none r =
      let s : Progress V = progress_of f in
      let rest : Ending V = event_run rules e (resized_frame e f) in
      let same : run_on rules (e ∷ []) s ≡ rest = run_one f.terminal.events s e o none in
      let stops : (c : Cause) (m : Moment V) → CanRefuse rules overrides c e f.terminal.events (after_taking s e) m → CanStopOn rules overrides c (e ∷ []) s m =
      λ c m can. taking o (refused (refuse_twice c e [] s m (subst (λ (es : List EventView). CanRefuse rules overrides c e es (after_taking s e) m) none can))) in
      fails_later (run_on rules (e ∷ []) s) rest same
      f (resized_frame e f) h (record { flushed = refl; failures = refl })
      (CanStopOn rules overrides want (e ∷ []) s) (CanStopOn rules overrides fault (e ∷ []) s) (WantsToFeed rules overrides e (resized_frame e f)) (FaultsToFeed rules overrides e (resized_frame e f)) (HaltsRefused rest (WantsToFeed rules overrides e (resized_frame e f)))
      (stops want) (stops fault)
      (halts_refused (run_on rules (e ∷ []) s) rest same f (resized_frame e f) h (record { flushed = refl; failures = refl }) (CanStopOn rules overrides want (e ∷ []) s) (WantsToFeed rules overrides e (resized_frame e f)) (stops want))
      x r

  -- it is refused after others
  pub refused_on : (xs ys : List EventView) (f g h : Frame V) (x : Error) → WaitsAfter rules overrides xs f g → FailsFrom rules overrides ys g h x → FailsFrom rules overrides (xs ++ ys) f h x
  refused_on xs ys f g h x a r = fails_later (run_on rules (xs ++ ys) (progress_of f)) (run_on rules ys (progress_of g)) (a.run ys) f g h a.quiet
      (CanStopOn rules overrides want (xs ++ ys) (progress_of f)) (CanStopOn rules overrides fault (xs ++ ys) (progress_of f)) (CanStopOn rules overrides want ys (progress_of g)) (CanStopOn rules overrides fault ys (progress_of g))
      (HaltsIn (run_on rules ys (progress_of g)) (CanStopOn rules overrides want ys (progress_of g)))
      (a.stops want ys) (a.stops fault ys)
      (halts_in (run_on rules (xs ++ ys) (progress_of f)) (run_on rules ys (progress_of g)) (a.run ys) f g h a.quiet (CanStopOn rules overrides want (xs ++ ys) (progress_of f)) (CanStopOn rules overrides want ys (progress_of g)) (a.stops want ys))
      x r

  -- an open line is refused
  pub refused_open : (events : List EventView) (f g h : Frame V) (x : Error) → Opens rules overrides f g → FailsFrom rules overrides events g h x → FailsOver rules overrides events f h x
  refused_open events f g h x a r = fails_later (run rules events (progress_of f)) (run_on rules events (progress_of g)) (a.run events) f g h a.quiet
      (CanStop rules overrides want events (progress_of f)) (CanStop rules overrides fault events (progress_of f)) (CanStopOn rules overrides want events (progress_of g)) (CanStopOn rules overrides fault events (progress_of g))
      (HaltsIn (run_on rules events (progress_of g)) (CanStopOn rules overrides want events (progress_of g)))
      (a.stops want events) (a.stops fault events)
      (halts_in (run rules events (progress_of f)) (run_on rules events (progress_of g)) (a.run events) f g h a.quiet (CanStop rules overrides want events (progress_of f)) (CanStopOn rules overrides want events (progress_of g)) (a.stops want events))
      x r

  -- the end

  -- the run over the events that were taken ends where the line stands
  ends_here : (events : List EventView) (f g : Frame V) → f.terminal.events ≡ [] → WaitsAfter rules overrides events f g → run_on rules events (progress_of f) ≡ ending (answer_at g.state) g
  ends_here events f g none c =
      ap (λ (es : List EventView). run_on rules es (progress_of f)) (sym (append-nil events))
      ∙ c.run []
      ∙ ap (λ (es : List EventView). ends (answer_at g.state) es (progress_of g)) (sym (c.left ∙ none))

  -- where its line is not copied
  uncopied_at : (events : List EventView) (f g : Frame V) → f.terminal.events ≡ [] → WaitsAfter rules overrides events f g → (m : Moment V) → Uncopied g m → CanStopOn rules overrides want events (progress_of f) m
  uncopied_at events f g none c m (line, here) =
      let at : m ≡ moment None [] (progress_of g) = here ∙ ap (λ (es : List EventView). moment None es (progress_of g)) (c.left ∙ none) in
      subst (λ (es : List EventView). CanStopOn rules overrides want es (progress_of f) m) (append-nil events)
      (c.stops want [] m (subst (λ (x : Moment V). CanStopOn rules overrides want [] (progress_of g) x) (sym at) (uncopied (inr refl) line)))

  -- the end is refused
  pub refused_end : (events : List EventView) (f g h : Frame V) (x : Error) → f.terminal.events ≡ [] → WaitsAfter rules overrides events f g → FailsToFinish g h x → FailsFrom rules overrides events f h x
  refused_end events f g h x none c r =
      let here : Ending V = ending (answer_at g.state) g in
      fails_later (run_on rules events (progress_of f)) here (ends_here events f g none c) f g h c.quiet
      (CanStopOn rules overrides want events (progress_of f)) (CanStopOn rules overrides fault events (progress_of f)) (Uncopied g) (λ m. ⊥) (HaltsIn here (Uncopied g))
      (λ m can. uncopied_at events f g none c m can)
      (λ m can. absurd can)
      (halts_in (run_on rules events (progress_of f)) here (ends_here events f g none c) f g h c.quiet (CanStopOn rules overrides want events (progress_of f)) (Uncopied g) (λ m can. uncopied_at events f g none c m can))
      x r

  -- a line is read
  pub reads_open : (events : List EventView) (f g h k : Frame V) (answer : Outcome) → g.terminal.events ≡ [] → Opens rules overrides f g → WaitsAfter rules overrides events g h → Reads (ending (answer_at h.state) h) h k answer → Reads (run_over rules events f) f k answer
  reads_open events f g h k answer none o c r = reads_later (run_over rules events f) (ending (answer_at h.state) h) (o.run events ∙ ends_here events g h none c) f h k (quiet_on f g h o.quiet c.quiet) answer r

  -- whether the events ended it
  pub ended_open : (events : List EventView) (f g h : Frame V) → g.terminal.events ≡ [] → Opens rules overrides f g → WaitsAfter rules overrides events g h → is_over (run_over rules events f).state.mode ≡ is_over h.state.mode
  ended_open events f g h none o c = ap (λ (x : Ending V). is_over x.state.mode) (o.run events ∙ ends_here events g h none c)

  -- a mode that is neither open nor Inactive ended the line
  ended_mode : (m : ModeView) → m ≢ Inactive → is_open m ≡ false → is_over m ≡ true
  ended_mode Inactive b o = absurd (b refl)
  ended_mode Editing b o = absurd (false≢true (sym o))
  ended_mode Cancelled b o = refl
  ended_mode Accepted b o = refl
  ended_mode (Searching style direction matching) b o = absurd (false≢true (sym o))

  -- the same, with the frames of an editor's parts

  -- an event is refused
  pub refused_fed : (e : EventView) (f h k : Frame V) (x : Error) → is_open f.state.mode ≡ true → f.terminal.events ≡ [] → h ≡ resized_frame e f → FailsToFeed rules overrides e h k x → FailsFrom rules overrides (e ∷ []) f k x
  refused_fed e f h k x o none hf r = refused_one e f k x (open_goes_on f.state.mode o) none (subst (λ (y : Frame V). FailsToFeed rules overrides e y k x) hf r)

  -- a line is not begun
  pub unopened_at : (f s h g : Frame V) (x : Error) → f.terminal.events ≡ [] → s ≡ start None f → g ≡ h → FailsToBegin rules None f h x → FailsOver rules overrides [] s g x
  unopened_at f s h g x none sf gh r = subst (λ (y : Frame V). FailsOver rules overrides [] y g x) (sym sf)
      (subst (λ (y : Frame V). FailsOver rules overrides [] (start None f) y x) (sym gh) (unopened f h x none r))

  -- what the source told

  -- no more events
  pub comes_still : (old new : List EventView) (f g : Frame V) → g ≡ f → new ≡ old → ComesBy rules overrides old new f g
  comes_still old new f g same told = subst (λ (h : Frame V). ComesBy rules overrides old new f h) (sym same)
      ([], told ∙ sym (append-nil old), record { run = λ later. refl; stops = λ c later m can. can; quiet = record { flushed = refl; failures = refl }; left = refl })

  -- an open line is fed more
  pub comes_then : (old mid new : List EventView) (f g h : Frame V) → ComesBy rules overrides old mid f g → ComesBy rules overrides mid new g h → ComesBy rules overrides old new f h
  comes_then old mid new f g h (xs, told, a) (ys, more, b) = (
    xs ++ ys,
    more ∙ ap (λ (es : List EventView). es ++ ys) told ∙ append_assoc old xs ys,
    record {
      run = λ later. ap (λ (es : List EventView). run_on rules es (progress_of f)) (append_assoc xs ys later) ∙ a.run (ys ++ later) ∙ b.run later;
      stops = λ c later m can. subst (λ (es : List EventView). CanStopOn rules overrides c es (progress_of f) m) (sym (append_assoc xs ys later)) (a.stops c (ys ++ later) m (b.stops c later m can));
      quiet = record { flushed = b.quiet.flushed ∙ a.quiet.flushed; failures = b.quiet.failures ∙ a.quiet.failures };
      left = b.left ∙ a.left;
    },
  )

  -- and feeding fails
  pub fails_then_by : (old mid new : List EventView) (f g h : Frame V) (x : Error) → ComesBy rules overrides old mid f g → FailsBy rules overrides mid new g h x → FailsBy rules overrides old new f h x
  fails_then_by old mid new f g h x (xs, told, a) (ys, more, r) =
      (xs ++ ys, more ∙ ap (λ (es : List EventView). es ++ ys) told ∙ append_assoc old xs ys, refused_on xs ys f g h x a r)

  -- what is taken from there on
  pub taken_from : (old mid : List EventView) (f g : Frame V) → ComesBy rules overrides old mid f g → (xs : List EventView) → mid ≡ old ++ xs
      → (seen : List EventView) (batches : List Batch) → IsDueBy (taken_on rules g) seen batches → IsDueBy (taken_on rules f) (xs ++ seen) batches
  taken_from old mid f g (came, told, a) xs is seen batches due =
      due ∙ ap (λ (end : Ending V). end.taken) (sym (a.run seen)) ∙ ap (λ (es : List EventView). (run_on rules (es ++ seen) (progress_of f)).taken) (append_cancel_left old came xs (sym told ∙ is))

  -- a line that was begun, fed and ended

  -- it is read
  reads_told : (old new : List EventView) (f g h k : Frame V) (answer : Outcome) → g.terminal.events ≡ [] → Opens rules overrides f g → ComesBy rules overrides old new g h
      → Reads (ending (answer_at h.state) h) h k answer → ReadsTold rules old new f k answer (is_over h.state.mode)
  reads_told old new f g h k answer none o (xs, told, c) r = (xs, told, sym (ended_open xs f g h none o c), reads_open xs f g h k answer none o c r)

  -- it is not begun
  pub fails_first : (old : List EventView) (f g : Frame V) (x : Error) → FailsOver rules overrides [] f g x → FailsTold rules overrides old old f g x
  fails_first old f g x r = ([], sym (append-nil old), r)

  -- an event is refused
  pub fails_then : (old new : List EventView) (f g h : Frame V) (x : Error) → Opens rules overrides f g → FailsBy rules overrides old new g h x → FailsTold rules overrides old new f h x
  fails_then old new f g h x o (xs, told, r) = (xs, told, refused_open xs f g h x o r)

  -- its end is refused
  pub fails_last : (old new : List EventView) (f g h k : Frame V) (x : Error) → g.terminal.events ≡ [] → Opens rules overrides f g → ComesBy rules overrides old new g h
      → FailsToFinish h k x → FailsTold rules overrides old new f k x
  fails_last old new f g h k x none o (xs, told, c) r = (xs, told, refused_open xs f g k x o (refused_end xs g h k x none c r))

  -- how a line that was fed so is answered

  -- whether an outcome is a line
  abbrev has_line : Outcome → Bool
  has_line (Ok (Some line)) = true
  has_line _ = false

  -- an open line is no cancelled one
  open_line : (cut : Cut) (m : ModeView) → is_open m ≡ true → (let x : Outcome = Ok None in x ≡ Ok (line_in cut m)) → ⊥
  open_line cut Inactive o at = false≢true o
  open_line cut Editing o at = false≢true (ap has_line at)
  open_line cut Cancelled o at = false≢true o
  open_line cut Accepted o at = false≢true o
  open_line cut (Searching style direction matching) o at = false≢true (ap has_line at)

  module _ (old new : List EventView) (state : SourceState) (f g h k : Frame V) (none : g.terminal.events ≡ []) (o : Opens rules overrides f g) (c : ComesBy rules overrides old new g h) (b : h.state.mode ≢ Inactive) where
    -- as an event ended it
    read_ended : (answer : Outcome) → is_open h.state.mode ≡ false → Reads (ending (answer_at h.state) h) h k answer → ReadsTold rules old new f k answer true
    read_ended answer at r = subst (λ (x : Bool). ReadsTold rules old new f k answer x) (ended_mode h.state.mode b at) (reads_told old new f g h k answer none o c r)

    -- as no event ended it
    read_open : (answer : Outcome) → is_open h.state.mode ≡ true → Reads (ending (answer_at h.state) h) h k answer → ReadsTold rules old new f k answer false
    read_open answer at r = subst (λ (x : Bool). ReadsTold rules old new f k answer x) (open_goes_on h.state.mode at) (reads_told old new f g h k answer none o c r)

  module _ (old new : List EventView) (state : SourceState) (f g h : Frame V) (s : SessionView) (v : V) (t : TerminalState) (none : g.terminal.events ≡ []) (o : Opens rules overrides f g) (c : ComesBy rules overrides old new g h) (b : h.state.mode ≢ Inactive) where
    -- the line is closed
    abbrev Closed : Option (String Global) → Type 0
    Closed line = Reads (ending (answer_at h.state) h) h (frame_of s v t) (outcome_of (Ok line))

    -- and read
    read_from : (line : Option (String Global)) (stop : Stop) → StopsFeeding stop (is_open h.state.mode) state old new → Closed line → IfOk (answer_from line stop) (IsRead rules old new state f v t)
    read_from line (source_fault why) at r = tt
    read_from line Endless at r = tt
    read_from None Ended at r = ((s, read_ended old new state f g h (frame_of s v t) none o c b (Ok None) at r), λ open_end. absurd (false≢true (sym open_end)))
    read_from None source_end at r = absurd (open_line h.state.cut h.state.mode at.0 r.answer_is)
    read_from (Some line) Ended at r = ((s, read_ended old new state f g h (frame_of s v t) none o c b (outcome_of (Ok (Some line))) at r), λ open_end. absurd (false≢true (sym open_end)))
    read_from (Some line) source_end at r = ((s, read_open old new state f g h (frame_of s v t) none o c b (outcome_of (Ok (Some line))) at.0 r), λ same. at.1)

    -- or cut off
    cut_from : (line : Option (String Global)) (stop : Stop) → StopsFeeding stop (is_open h.state.mode) state old new → Closed line → IfErr (answer_from line stop) (live.FailsToReadTold rules overrides old new state f v t)
    cut_from line (source_fault why) at r = inr (inl (inl at.1, (s, (outcome_of (Ok line), read_open old new state f g h (frame_of s v t) none o c b (outcome_of (Ok line)) at.0 r))))
    cut_from line Endless at r = inr (inl (inr (refl, at.1), (s, (outcome_of (Ok line), read_open old new state f g h (frame_of s v t) none o c b (outcome_of (Ok line)) at.0 r))))
    cut_from None Ended at r = tt
    cut_from None source_end at r = tt
    cut_from (Some line) Ended at r = tt
    cut_from (Some line) source_end at r = tt

    -- the answer
    pub read_as : (line : Option (String Global)) (stop : Stop) (answer : Result Answer Error) → answer ≡ answer_from line stop → StopsFeeding stop (is_open h.state.mode) state old new → Closed line → IfOk answer (IsRead rules old new state f v t)
    read_as line stop answer same at r = subst (λ (x : Result Answer Error). IfOk x (IsRead rules old new state f v t)) (sym same) (read_from line stop at r)

    -- the refusal
    pub cut_as : (line : Option (String Global)) (stop : Stop) (answer : Result Answer Error) → answer ≡ answer_from line stop → StopsFeeding stop (is_open h.state.mode) state old new → Closed line → IfErr answer (live.FailsToReadTold rules overrides old new state f v t)
    cut_as line stop answer same at r = subst (λ (x : Result Answer Error). IfErr x (live.FailsToReadTold rules overrides old new state f v t)) (sym same) (cut_from line stop at r)

  -- the same, where the terminal is given back

  -- a line is begun by an editor of this prompt
  pub opened_at : (f s g : Frame V) → s ≡ start None f → Begins rules overrides (start None f) g → Opens rules overrides s g
  opened_at f s g sf b = subst (λ (y : Frame V). Opens rules overrides y g) (sym sf) (opened (start None f) g b)

  module _ (old new : List EventView) (state : SourceState) (f : Frame V) (s : SessionView) (v : V) (t : TerminalState) (k : Frame V) (at : frame_of s v t ≡ k) (x : Error) where
    -- what is told of the last frame
    back : FailsTold rules overrides old new f k x → live.FailsToReadTold rules overrides old new state f v t x
    back r = inl (s, subst (λ (y : Frame V). FailsTold rules overrides old new f y x) (sym at) r)

    -- an event was refused
    pub stopped_at : (g : Frame V) → Opens rules overrides f g → FailsBy rules overrides old new g k x → live.FailsToReadTold rules overrides old new state f v t x
    stopped_at g o r = back (fails_then old new f g k x o r)

    -- the end was refused
    pub ended_at : (g h : Frame V) → g.terminal.events ≡ [] → Opens rules overrides f g → ComesBy rules overrides old new g h → FailsToFinish h k x → live.FailsToReadTold rules overrides old new state f v t x
    ended_at g h none o c r = back (fails_last old new f g h k x none o c r)

  -- the line was not begun
  pub unbegun_at : (old : List EventView) (state : SourceState) (f : Frame V) (s : SessionView) (v : V) (t : TerminalState) (k : Frame V) → frame_of s v t ≡ k → (x : Error) (i : Frame V) → i.terminal.events ≡ [] → f ≡ start None i → FailsToBegin rules None i k x → live.FailsToReadTold rules overrides old old state f v t x
  unbegun_at old state f s v t k at x i none fi r = back old old state f s v t k at x (fails_first old f k x (unopened_at i f k k x none fi refl r))
