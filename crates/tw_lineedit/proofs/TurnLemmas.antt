-- One turn of the editor's loop, against the run.
use Rattle.std.proofs.Common.{◌≡◌, ℕ, Option, List, [], ◌∷◌, cond, Bool, true, false, refl, sym, ◌∙◌, ap, subst, inl, inr, None, arith}
use Rattle.tw_input.specs.EventView.{EventView}
use Rattle.tw_terminal.specs.TerminalState.{TerminalState}
use Rattle.tw_session.specs.Outcomes.{is_over, answer_at, TakesMemoryToCopy, Outcome}
use Rattle.tw_lineedit.specs.Frame.{Frame}
use Rattle.tw_lineedit.specs.Run.{Progress, Moment, Cause, want, fault, run, ends, after_event, state_after, after_taking, moment, progress_of, CanStopFrom, Quiet, run_of, IsAnswered, CanRefuse, refused, CanStopOn, taking, unpolled, uncopied}
use Rattle.tw_lineedit.specs.EditorSteps.{CallFails, TakesEvent, HasNoEvent, HandlesAndPaints, FailsToHandleOrPaint}
use Rattle.std.specs.declared.alloc.AllocError.{AllocError}
use Rattle.tw_session.specs.declared.error.Error.{Error}
use Rattle.tw_session.specs.declared.error.Error.TheVariants.{Memory, Terminal}
use Rattle.tw_host.specs.HostRules.{HostRules}
use Rattle.tw_host.specs.declared.host.Overrides.{Overrides}
use Rattle.tw_lineedit.specs.Feeding.{fed_run, run_on, Begins, IsAnsweredOn, IsRefusedOn, Follows, Continues, IsEnded}
use Rattle.tw_lineedit.specs.Reading.{start, Starves, Faults, IsTurnedDown}
use Rattle.tw_lineedit.proofs.StandLemmas.{stands_here, stands_failed, quiet_self, quiet_on, failed, refused_later}
use Rattle.tw_lineedit.proofs.FeedingLemmas.{refused_event, run_advanced, stops_advanced, refused_advance, quiet_advanced, left_advanced, same_progress}

module _ {V : Type 0} (rules : HostRules V) (overrides : Overrides) where
  -- where the mode ends the run
  run_over : (es : List EventView) (s : Progress V) → is_over s.state.mode ≡ true → run_on rules es s ≡ ends (answer_at s.state) es s
  run_over [] s o = refl
  run_over (e ∷ es) s o = ap (λ (b : Bool). cond b (ends (answer_at s.state) (e ∷ es) s) (after_event rules e es s (run rules es) (state_after rules s e))) o

  -- the mode ends the run
  pub over : (f : Frame V) → is_over f.state.mode ≡ true → IsEnded rules overrides f f
  over f o = record { run = run_over f.terminal.events (progress_of f) o; stops = λ l. uncopied (inl o) l; quiet = quiet_self f }

  -- the terminal refuses to tell an event
  pub poll_refused : (f g : Frame V) (e : Error) → is_over f.state.mode ≡ false → CallFails f g e → IsRefusedOn rules overrides f.terminal.events f g e
  poll_refused f g (Terminal x) o (keeps, fails) = (
    (moment None f.terminal.events (progress_of f), unpolled o, stands_failed _ f g keeps fails (stands_here f)),
    failed f g fails,
  )
  poll_refused f g _ o bad = absurd bad

  -- no event is left
  pub done : (f g : Frame V) → HasNoEvent f g → IsEnded rules overrides f g
  done f g t = subst (λ (y : Frame V). IsEnded rules overrides f y) (sym t.same) (record {
    run = subst (λ (es : List EventView). run_on rules es (progress_of f) ≡ ends (answer_at f.state) es (progress_of f)) (sym t.events) refl;
    stops = λ l. uncopied (inr t.events) l;
    quiet = quiet_self f;
  })

  -- with an event

  -- how far a frame has come that has taken an event
  taken_is : (f g : Frame V) (e : EventView) → TakesEvent e f g → progress_of g ≡ after_taking (progress_of f) e
  taken_is f g e t = same_progress (progress_of g) (after_taking (progress_of f) e) t.keeps.state t.keeps.value
      (ap (λ (x : TerminalState). x.size) t.terminal.rest) t.keeps.mark (ap (λ (x : TerminalState). x.batches) t.terminal.rest)

  -- the taking of an event is quiet
  quiet_taken : (f g : Frame V) (e : EventView) → TakesEvent e f g → Quiet f g
  quiet_taken f g e t = record { flushed = ap (λ (x : TerminalState). x.flushed) t.terminal.rest; failures = ap (λ (x : TerminalState). x.failures) t.terminal.rest }

  -- the event is refused
  pub event_refused : (f g k : Frame V) (e : EventView) (x : Error) → is_over f.state.mode ≡ false → TakesEvent e f g → FailsToHandleOrPaint rules overrides e g k x → IsRefusedOn rules overrides f.terminal.events f k x
  event_refused f g k e x o t r =
      let taken : f.terminal.events ≡ e ∷ g.terminal.events = t.terminal.events in
      refused_later (run_on rules f.terminal.events (progress_of f)) (fed_run rules e g.terminal.events (progress_of f))
      (CanStopOn rules overrides want f.terminal.events (progress_of f)) (CanStopOn rules overrides fault f.terminal.events (progress_of f)) (CanRefuse rules overrides want e g.terminal.events (progress_of f)) (CanRefuse rules overrides fault e g.terminal.events (progress_of f))
      f g k
      (λ n at. ap (λ (xs : List EventView). run_on rules xs (progress_of f)) taken ∙ refused_event rules e g.terminal.events (progress_of f) n k o at)
      (λ m h. subst (λ (xs : List EventView). CanStopOn rules overrides want xs (progress_of f) m) (sym taken) (taking o (refused h)))
      (λ m h. subst (λ (xs : List EventView). CanStopOn rules overrides fault xs (progress_of f) m) (sym taken) (taking o (refused h)))
      (quiet_taken f g e t)
      x (refused_advance rules overrides (progress_of f) e g (taken_is f g e t) k x r)

  -- the run goes on
  pub continues : (f g k : Frame V) (e : EventView) → is_over f.state.mode ≡ false → TakesEvent e f g → HandlesAndPaints rules e g k → Continues rules overrides f k
  continues f g k e o t a =
      let left : k.terminal.events ≡ g.terminal.events = left_advanced rules e g k a in
      let taken : f.terminal.events ≡ e ∷ k.terminal.events = t.terminal.events ∙ ap (λ (xs : List EventView). e ∷ xs) (sym left) in
      record {
        follows = record {
          run = ap (λ (xs : List EventView). run_on rules xs (progress_of f)) taken
              ∙ run_advanced rules (progress_of f) e g (taken_is f g e t) o k a k.terminal.events;
          stops = λ c m h. subst (λ (xs : List EventView). CanStopOn rules overrides c xs (progress_of f) m) (sym taken)
              (taking o (stops_advanced rules overrides (progress_of f) e g (taken_is f g e t) k a c k.terminal.events m h));
          quiet = quiet_on f g k (quiet_taken f g e t) (quiet_advanced rules e g k a);
        };
        fewer = rw taken (omega arith);
      }

  -- turns in a row

  -- the run ends later
  pub ended_later : (f g h : Frame V) → Follows rules overrides f g → IsEnded rules overrides g h → IsEnded rules overrides f h
  ended_later f g h a b = record { run = a.run ∙ b.run; stops = λ l. a.stops want _ (b.stops l); quiet = quiet_on f g h a.quiet b.quiet }

  -- the run is refused later
  pub turned_down_later : (f g h : Frame V) (e : Error) → Follows rules overrides f g → IsRefusedOn rules overrides g.terminal.events g h e → IsRefusedOn rules overrides f.terminal.events f h e
  turned_down_later f g h e a r = refused_later _ _ _ _ _ _ f g h (λ n at. a.run ∙ at) (a.stops want) (a.stops fault) a.quiet e r

  -- the answer was not copied
  pub not_copied : (f g h : Frame V) (x : AllocError) → IsEnded rules overrides f g → h ≡ g → TakesMemoryToCopy (answer_at g.state) → IsRefusedOn rules overrides f.terminal.events f h (Memory x)
  not_copied f g h x a same l = subst (λ (y : Frame V). IsRefusedOn rules overrides f.terminal.events f y (Memory x)) (sym same)
      ((moment None g.terminal.events (progress_of g), a.stops l, refl, stands_here g), a.quiet)

  -- after the first painting

  -- the run goes on from it
  run_behind_first : (f g : Frame V) → Begins rules overrides f g → run_of rules f ≡ run_on rules g.terminal.events (progress_of g)
  run_behind_first f g b = b.run f.terminal.events ∙ ap (λ (xs : List EventView). run_on rules xs (progress_of g)) (sym b.left)

  -- the run can be stopped after it
  stops_behind_first : (f g : Frame V) → Begins rules overrides f g → (c : Cause) (m : Moment V) → CanStopOn rules overrides c g.terminal.events (progress_of g) m → CanStopFrom rules overrides c f m
  stops_behind_first f g b c m h = b.stops c f.terminal.events m (subst (λ (xs : List EventView). CanStopOn rules overrides c xs (progress_of g) m) b.left h)

  -- a line that was begun is answered
  pub answered_begun : (initial : Option (List ℕ)) (f g h : Frame V) (answer : Outcome) → Begins rules overrides (start initial f) g → IsAnsweredOn rules g h answer → IsAnswered rules (start initial f) h answer
  answered_begun initial f g h answer b a = record { run = run_behind_first (start initial f) g b ∙ a.run; quiet = quiet_on (start initial f) g h b.quiet a.quiet }

  -- a line that was begun is refused
  pub refused_begun : (initial : Option (List ℕ)) (f g h : Frame V) → Begins rules overrides (start initial f) g → (e : Error) → IsRefusedOn rules overrides g.terminal.events g h e → IsTurnedDown rules overrides initial f h e
  refused_begun initial f g h b e r = refused_later (run_of rules (start initial f)) (run_on rules g.terminal.events (progress_of g))
      (Starves rules overrides initial f) (Faults rules overrides initial f) (CanStopOn rules overrides want g.terminal.events (progress_of g)) (CanStopOn rules overrides fault g.terminal.events (progress_of g))
      f g h (λ n at. run_behind_first (start initial f) g b ∙ at) (λ m can. inl (stops_behind_first (start initial f) g b want m can)) (stops_behind_first (start initial f) g b fault)
      (record { flushed = b.quiet.flushed; failures = b.quiet.failures }) e r
  -- how the answer that comes last is refused
