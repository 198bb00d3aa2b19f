-- The end of read_line, against the run.
use Rattle.std.proofs.Common.{◌≡◌, ℕ, List, IsSome, [], ◌++◌, length, refl, sym, ◌∙◌, ap, subst, inl, inr, Option, None, Err, ◌⊎◌}
use Rattle.std.specs.Prelude.{⊤}
use Rattle.std.proofs.lemmas.List.{append-nil}
use Rattle.tw_surface.specs.ChangeView.{Batch}
use Rattle.tw_surface.specs.Paintings.{Mark, closing}
use Rattle.tw_surface.specs.PaintingBatches.{closing_if}
use Rattle.tw_terminal.specs.TerminalState.{TerminalState, count_up, RenderFails}
use Rattle.tw_host.specs.HostRules.{HostRules}
use Rattle.tw_host.specs.declared.host.Overrides.{Overrides}
use Rattle.tw_session.specs.EditState.{EditState, Inactive}
use Rattle.tw_session.specs.Refusal.{Refusal, refusal_of, IsMemory}
use Rattle.tw_session.specs.Outcomes.{Outcome, answer_at, TakesMemoryToCopy, IsRefusal}
use Rattle.tw_lineedit.specs.Frame.{Frame, with_value}
use Rattle.tw_lineedit.specs.Run.{Ending, Moment, run_of, ending, StandsAt, Quiet, IsAnswered, moment, progress_of, IsRefusedIn}
use Rattle.tw_lineedit.specs.EditorSteps.{Closes, CutsClosing, MissesFlush, FailsToClose, GivesUp}
use Rattle.tw_lineedit.specs.Reading.{start, unbegun, Reads, final_moment, Leaves, ClosesWhole, ClosesInPart, ClosesUnflushed, ClosesBadly, Starves, Faults, Halts, FailsToRead, IsTurnedDown, HaltsIn, HaltsRefused, FailsIn}
use Rattle.tw_session.specs.declared.error.Error.{Error}
use Rattle.tw_session.specs.declared.error.Error.TheVariants.{Memory, Terminal}
use Rattle.tw_lineedit.specs.Feeding.{Uncopied, FailsToFinish, begun_run, WantsToBegin, FaultsToBegin, IsNotBegun, FailsToBegin}
use Rattle.tw_lineedit.proofs.StandLemmas.{stands_here}

-- what is done without the host, with a host's value
module _ {V : Type 0} (v : V) where
  pub closes_with : (f g : Frame ⊤) → Closes f g → Closes (with_value v f) (with_value v g)
  closes_with f g c = record { state = c.state; value = refl; mark = c.mark; terminal = c.terminal }

  cuts_with : (f g : Frame ⊤) → CutsClosing f g → CutsClosing (with_value v f) (with_value v g)
  cuts_with f g c = record { state = c.state; value = refl; mark = c.mark; terminal = c.terminal }

  misses_with : (f g : Frame ⊤) → MissesFlush f g → MissesFlush (with_value v f) (with_value v g)
  misses_with f g c = record { state = c.state; value = refl; mark = c.mark; terminal = c.terminal }

  pub fails_with : (f g : Frame ⊤) (e : Error) → FailsToClose f g e → FailsToClose (with_value v f) (with_value v g) e
  fails_with f g (Terminal x) (inl c) = inl (cuts_with f g c)
  fails_with f g (Terminal x) (inr m) = inr (misses_with f g m)
  fails_with f g _ bad = absurd bad

  pub gives_up_with : (refusal : Error) (f g : Frame ⊤) (e : Error) → GivesUp refusal f g e → GivesUp refusal (with_value v f) (with_value v g) e
  gives_up_with refusal f g e (inl (same, c)) = inl (same, closes_with f g c)
  gives_up_with refusal f g e (inr c) = inr (fails_with f g e c)

  -- what is left then
  abbrev moment_with : Moment ⊤ → Moment V
  moment_with m = record { state = m.state; value = v; size = m.size; mark = m.mark; taken = m.taken; rendering = m.rendering; left = m.left }

  leaves_with : (m : Moment ⊤) (end : List Batch) (g : Frame ⊤) → Leaves m end g → Leaves (moment_with m) end (with_value v g)
  leaves_with m end g l = record { batches = l.batches; left = l.left; size = l.size; state = l.state; value = refl; mark = l.mark }

  closes_whole_with : (m : Moment ⊤) (g : Frame ⊤) → ClosesWhole m g → ClosesWhole (moment_with m) (with_value v g)
  closes_whole_with m g c = record { leaves = leaves_with m (closing_if m.mark) g c.leaves; flushed = c.flushed }

  closes_badly_with : (m : Moment ⊤) (f g : Frame ⊤) → ClosesBadly m f g → ClosesBadly (moment_with m) (with_value v f) (with_value v g)
  closes_badly_with m f g (inl part) = inl (record {
    leaves = (part.leaves.0, part.leaves.1, part.leaves.2, part.leaves.3, leaves_with m part.leaves.1 g part.leaves.4);
    flushed = part.flushed;
  })
  closes_badly_with m f g (inr whole) = inr (record { leaves = leaves_with m (closing_if m.mark) g whole.leaves; flushed = whole.flushed })

  -- the end of a line that is fed its events
  pub reads_with : (f g : Frame ⊤) (answer : Outcome) → Reads (ending (answer_at f.state) f) f g answer → Reads (ending (answer_at f.state) (with_value v f)) (with_value v f) (with_value v g) answer
  reads_with f g answer r = record {
    answer_is = r.answer_is;
    batches = r.batches;
    left = r.left;
    size = r.size;
    state = r.state;
    value = refl;
    mark = r.mark;
    flushed = r.flushed;
    failures = r.failures;
  }

  halts_with : (f : Frame ⊤) (m : Moment ⊤) → HaltsIn (ending (answer_at f.state) f) (Uncopied f) m → HaltsIn (ending (answer_at f.state) (with_value v f)) (Uncopied (with_value v f)) (moment_with m)
  halts_with f m (inl at) = inl (ap moment_with at)
  halts_with f m (inr ((line, here), idle)) = inr ((line, ap moment_with here), idle)

  pub fails_to_finish_with : (f g : Frame ⊤) (e : Error) → FailsToFinish f g e → FailsToFinish (with_value v f) (with_value v g) e
  fails_to_finish_with f g (Memory x) (m, (line, here), idle, closes, count) = (moment_with m, (line, ap moment_with here), idle, closes_whole_with m g closes, count)
  fails_to_finish_with f g (Terminal x) (m, inl (never, closes, count)) = absurd never
  fails_to_finish_with f g (Terminal x) (m, inr (inl (never, closes, count))) = absurd never
  fails_to_finish_with f g (Terminal x) (m, inr (inr (at, closes, count))) = (moment_with m, inr (inr (halts_with f m at, closes_badly_with m f g closes, count)))
  fails_to_finish_with f g e r = reads_with f g (Err (refusal_of e)) r

module _ {V : Type 0} where
  -- the mode once the run is closed
  inactive : (m : Moment V) (h g : Frame V) → StandsAt m h → g.state ≡ record h.state { mode = Inactive } → g.state ≡ record m.state { mode = Inactive }
  inactive m h g st hs = hs ∙ ap (λ (x : EditState). let r : EditState = record x { mode = Inactive } in r) st.state

  -- the closing, seen from the moment

  -- the closing batch is whole
  closes_whole : (m : Moment V) (h g : Frame V) → StandsAt m h → Closes h g → ClosesWhole m g
  closes_whole m h g st c = record {
    leaves = record {
      batches = (
        st.part.0,
        st.part.1,
        ap (λ (t : TerminalState). t.batches) c.terminal
            ∙ ap (λ (y : Option Mark). h.terminal.batches ++ closing_if y) st.mark
            ∙ ap (λ (x : List Batch). x ++ closing_if m.mark) st.part.2,
      );
      left = ap (λ (t : TerminalState). t.events) c.terminal ∙ st.left;
      size = ap (λ (t : TerminalState). t.size) c.terminal ∙ st.size;
      state = inactive m h g st c.state;
      value = c.value ∙ st.value;
      mark = c.mark;
    };
    flushed = ap (λ (t : TerminalState). t.flushed) c.terminal ∙ ap (λ (t : TerminalState). length t.batches) (sym c.terminal);
  }

  -- a beginning of the closing batch is taken
  closes_in_part : (m : Moment V) (f h g : Frame V) → StandsAt m h → h.terminal.flushed ≡ f.terminal.flushed → CutsClosing h g → ClosesInPart m f g
  closes_in_part m f h g st hf c =
      let fails : RenderFails (closing c.terminal.0) h.terminal g.terminal = c.terminal.2 in
      record {
        leaves = (
          c.terminal.0,
          fails.part.0,
          sym st.mark ∙ c.terminal.1,
          fails.part.1,
          record {
            batches = (st.part.0, st.part.1, fails.part.2 ∙ ap (λ (x : List Batch). x ++ fails.part.0) st.part.2);
            left = ap (λ (t : TerminalState). t.events) fails.rest ∙ st.left;
            size = ap (λ (t : TerminalState). t.size) fails.rest ∙ st.size;
            state = inactive m h g st c.state;
            value = c.value ∙ st.value;
            mark = c.mark;
          },
        );
        flushed = ap (λ (t : TerminalState). t.flushed) fails.rest ∙ hf;
      }

  -- the closing batch is not flushed
  closes_unflushed : (m : Moment V) (f h g : Frame V) → StandsAt m h → h.terminal.flushed ≡ f.terminal.flushed → MissesFlush h g → ClosesUnflushed m f g
  closes_unflushed m f h g st hf c = record {
    leaves = record {
      batches = (
        st.part.0,
        st.part.1,
        ap (λ (t : TerminalState). t.batches) c.terminal
            ∙ ap (λ (y : Option Mark). h.terminal.batches ++ closing_if y) st.mark
            ∙ ap (λ (x : List Batch). x ++ closing_if m.mark) st.part.2,
      );
      left = ap (λ (t : TerminalState). t.events) c.terminal ∙ st.left;
      size = ap (λ (t : TerminalState). t.size) c.terminal ∙ st.size;
      state = inactive m h g st c.state;
      value = c.value ∙ st.value;
      mark = c.mark;
    };
    flushed = ap (λ (t : TerminalState). t.flushed) c.terminal ∙ hf;
  }

  -- the closing is refused
  closes_badly : (m : Moment V) (f h g : Frame V) → StandsAt m h → h.terminal.flushed ≡ f.terminal.flushed → CutsClosing h g ⊎ MissesFlush h g → ClosesBadly m f g
  closes_badly m f h g st hf c = elim c [
    | inl cut ↦ inl (closes_in_part m f h g st hf cut)
    | inr missed ↦ inr (closes_unflushed m f h g st hf missed)
  ]

  -- a refused closing is one failure
  one_more : (h g : Frame V) → CutsClosing h g ⊎ MissesFlush h g → g.terminal.failures ≡ count_up h.terminal.failures
  one_more h g c = elim c [
    | inl cut ↦ (let fails : RenderFails (closing cut.terminal.0) h.terminal g.terminal = cut.terminal.2 in ap (λ (t : TerminalState). t.failures) fails.rest)
    | inr missed ↦ ap (λ (t : TerminalState). t.failures) missed.terminal
  ]

-- A run from f with this ending.
module _ {V : Type 0} (run : Ending V) (f : Frame V) where
  -- the run ended, and the closing is whole
  pub reads : (h g : Frame V) (answer : Outcome) → run ≡ ending answer h → Quiet f h → Closes h g → Reads run f g answer
  reads h g answer r q c = subst (λ (x : Ending V). Reads x f g answer) (sym r) (record {
    answer_is = refl;
    batches = ap (λ (t : TerminalState). t.batches) c.terminal;
    left = ap (λ (t : TerminalState). t.events) c.terminal;
    size = ap (λ (t : TerminalState). t.size) c.terminal;
    state = c.state;
    value = c.value;
    mark = c.mark;
    flushed = ap (λ (t : TerminalState). t.flushed) c.terminal ∙ ap (λ (t : TerminalState). length t.batches) (sym c.terminal);
    failures = ap (λ (t : TerminalState). t.failures) c.terminal ∙ q.failures;
  })

  -- a run stands at its ending
  stands_ended : (h : Frame V) (answer : Outcome) → run ≡ ending answer h → StandsAt (final_moment run) h
  stands_ended h answer r = subst (λ (x : Ending V). StandsAt (final_moment x) h) (sym r)
      (record { state = refl; value = refl; size = refl; mark = refl; left = refl; part = ([], refl, sym (append-nil h.terminal.batches)) })

  -- a run that ends with a refusal does not end with a line
  ends_refused : (h : Frame V) (r : Refusal) → run ≡ ending (Err r) h → IsRefusal run.answer
  ends_refused h r same = subst (λ (x : Ending V). IsRefusal x.answer) (sym same) tt

-- Memory and the terminal can stop it at these moments; at the last ones no call of the terminal was refused.
module _ {V : Type 0} (run : Ending V) (Starves Faults Halts : Moment V → Type 0) (f : Frame V) where
  -- what a fault of the terminal leaves
  abbrev Fault : Frame V → Type 0
  Fault g = (m : Moment V) × (
      (Faults m × ClosesWhole m g × (g.terminal.failures ≡ count_up f.terminal.failures))
      ⊎ ((Faults m × ClosesBadly m f g × (g.terminal.failures ≡ count_up (count_up f.terminal.failures)))
      ⊎ (Halts m × ClosesBadly m f g × (g.terminal.failures ≡ count_up f.terminal.failures))))

  -- no fault but that of the closing
  halted : (m : Moment V) (h g : Frame V) → Halts m → StandsAt m h → Quiet f h → CutsClosing h g ⊎ MissesFlush h g → Fault g
  halted m h g can st q c = (m, inr (inr (can, closes_badly m f h g st q.flushed c, one_more h g c ∙ ap count_up q.failures)))

  -- the run ended, and the closing is refused
  ended : (h g : Frame V) (answer : Outcome) → Halts (final_moment run) → run ≡ ending answer h → Quiet f h → CutsClosing h g ⊎ MissesFlush h g → Fault g
  ended h g answer can r q c = halted (final_moment run) h g can (stands_ended run f h answer r) q c

  -- an answer, and the closing is refused
  pub ended_unclosed : (h g : Frame V) (answer : Outcome) (e : Error) → Halts (final_moment run) → run ≡ ending answer h → Quiet f h → FailsToClose h g e → FailsIn run Starves Faults Halts f g e
  ended_unclosed h g answer (Terminal x) can r q c = ended h g answer can r q c
  ended_unclosed h g answer _ can r q bad = absurd bad

  -- a refusal, and the closing is whole
  refused_closed : (h g : Frame V) (e : Error) → IsRefusedIn run Starves Faults f h e → Closes h g → FailsIn run Starves Faults Halts f g e
  refused_closed h g (Memory x) ((m, can, idle, st), q) c = (m, can, idle, closes_whole m h g st c, ap (λ (t : TerminalState). t.failures) c.terminal ∙ q.failures)
  refused_closed h g (Terminal x) ((m, can, st), q) c = (m, inl (can, closes_whole m h g st c, ap (λ (t : TerminalState). t.failures) c.terminal ∙ q.failures))
  refused_closed h g e (r, q) c = reads run f h g (Err (refusal_of e)) r q c

  -- Among those are a refusal of memory and an ending with a refusal.
  module _ (starved : (m : Moment V) → Starves m × (m.rendering ≡ None) → Halts m) (refused : IsRefusal run.answer → Halts (final_moment run)) where
    -- a refusal, and then that of the closing
    refused_then : (h g : Frame V) (x : Error) → IsRefusedIn run Starves Faults f h x → CutsClosing h g ⊎ MissesFlush h g → Fault g
    refused_then h g (Memory y) ((m, can, idle, st), q) c = halted m h g (starved m (can, idle)) st q c
    refused_then h g (Terminal y) ((m, can, st), q) c = (m, inr (inl (can, closes_badly m f h g st q.flushed c, one_more h g c ∙ ap count_up q.failures)))
    refused_then h g y (r, q) c = ended h g (Err (refusal_of y)) (refused (ends_refused run f h (refusal_of y) r)) r q c

    -- a refusal, and the closing is refused
    refused_unclosed : (h g : Frame V) (x e : Error) → IsRefusedIn run Starves Faults f h x → FailsToClose h g e → FailsIn run Starves Faults Halts f g e
    refused_unclosed h g x (Terminal y) r c = refused_then h g x r c
    refused_unclosed h g x _ r bad = absurd bad

    -- a refusal, and the closing
    pub gives_up : (h g : Frame V) (x e : Error) → IsRefusedIn run Starves Faults f h x → GivesUp x h g e → FailsIn run Starves Faults Halts f g e
    gives_up h g x e r c = elim c [
      | inl closed ↦ subst (λ (y : Error). FailsIn run Starves Faults Halts f g y) (sym closed.0) (refused_closed h g x r closed.1)
      | inr unclosed ↦ refused_unclosed h g x e r unclosed
    ]

-- A line that nothing but a refusal closes.
module _ {V : Type 0} (run : Ending V) (Starves Faults : Moment V → Type 0) (f : Frame V) where
  pub gives_up_refused : (h g : Frame V) (x e : Error) → IsRefusedIn run Starves Faults f h x → GivesUp x h g e → FailsIn run Starves Faults (HaltsRefused run Starves) f g e
  gives_up_refused h g x e r c = gives_up run Starves Faults (HaltsRefused run Starves) f (λ m can. inr can) (λ is. inl (is, refl)) h g x e r c

module _ {V : Type 0} (rules : HostRules V) (initial : Option (List ℕ)) (f : Frame V) where
  -- the initial value found no memory
  pub not_begun : (h : Frame V) → h ≡ start None f → IsSome initial → ((m : Moment V) × WantsToBegin rules initial f m × (m.rendering ≡ None) × StandsAt m h) × Quiet f h
  not_begun h same some = subst (λ (y : Frame V). ((m : Moment V) × WantsToBegin rules initial f m × (m.rendering ≡ None) × StandsAt m y) × Quiet f y) (sym same) (
    (unbegun f, inr (some, refl), refl, record { state = refl; value = refl; size = refl; mark = refl; left = refl; part = ([], refl, sym (append-nil f.terminal.batches)) }),
    record { flushed = refl; failures = refl },
  )

  -- a line that is not begun is closed
  pub begun_given_up : (h g : Frame V) (x e : Error) → IsNotBegun rules initial f h x → GivesUp x h g e → FailsToBegin rules initial f g e
  begun_given_up h g x e r c = gives_up_refused (begun_run rules initial f) (WantsToBegin rules initial f) (FaultsToBegin rules initial f) f h g x e r c

  -- a call is answered, and closed
  pub answered_closed : (h g : Frame V) (answer : Outcome) → IsAnswered rules (start initial f) h answer → Closes h g → Reads (run_of rules (start initial f)) f g answer
  answered_closed h g answer a c = reads (run_of rules (start initial f)) f h g answer a.run (record { flushed = a.quiet.flushed; failures = a.quiet.failures }) c

module _ {V : Type 0} (rules : HostRules V) (overrides : Overrides) (initial : Option (List ℕ)) (f : Frame V) where
  -- a call is answered, and the closing is refused
  pub answered_unclosed : (h g : Frame V) (answer : Outcome) (e : Error) → IsAnswered rules (start initial f) h answer → FailsToClose h g e → FailsToRead rules overrides initial f g e
  answered_unclosed h g answer e a c = ended_unclosed (run_of rules (start initial f)) (Starves rules overrides initial f) (Faults rules overrides initial f) (Halts rules overrides initial f) f h g answer e (inl refl) a.run (record { flushed = a.quiet.flushed; failures = a.quiet.failures }) c

  -- a call is refused, and closed
  pub call_given_up : (h g : Frame V) (x e : Error) → IsTurnedDown rules overrides initial f h x → GivesUp x h g e → FailsToRead rules overrides initial f g e
  call_given_up h g x e r c = gives_up (run_of rules (start initial f)) (Starves rules overrides initial f) (Faults rules overrides initial f) (Halts rules overrides initial f) f (λ m can. inr can) (λ is. inl refl) h g x e r c

module _ {V : Type 0} (f : Frame V) where
  -- where a line is answered
  abbrev answered_run : Ending V
  answered_run = ending (answer_at f.state) f

  -- the closing of a line that is answered is refused
  pub finish_unclosed : (h g : Frame V) (e : Error) → h ≡ f → FailsToClose h g e → FailsToFinish f g e
  finish_unclosed h g e same c = ended_unclosed answered_run (Uncopied f) (λ m. ⊥) (HaltsIn answered_run (Uncopied f)) f h g (answer_at f.state) e (inl refl)
      (ap (ending (answer_at f.state)) (sym same)) (subst (λ (y : Frame V). Quiet f y) (sym same) (record { flushed = refl; failures = refl })) c

  -- a line that is answered is closed
  pub finish_closed : (h g : Frame V) (answer : Outcome) → h ≡ f → answer ≡ answer_at f.state → Closes h g → Reads answered_run f g answer
  finish_closed h g answer same is c = subst (λ (x : Outcome). Reads answered_run f g x) (sym is)
      (reads answered_run f h g (answer_at f.state)
      (ap (ending (answer_at f.state)) (sym same)) (subst (λ (y : Frame V). Quiet f y) (sym same) (record { flushed = refl; failures = refl })) c)

  -- a line that is not answered
  finish_refused : (h : Frame V) (x : Error) → h ≡ f → IsMemory x → TakesMemoryToCopy (answer_at f.state) → IsRefusedIn answered_run (Uncopied f) (λ m. ⊥) f h x
  finish_refused h (Memory y) same m l = subst (λ (k : Frame V). IsRefusedIn answered_run (Uncopied f) (λ m. ⊥) f k (Memory y)) (sym same)
      ((moment None f.terminal.events (progress_of f), (l, refl), refl, stands_here f), record { flushed = refl; failures = refl })
  finish_refused h _ same bad l = absurd bad

  -- and what closing it leaves
  pub finish_given_up : (h g : Frame V) (x e : Error) → h ≡ f → IsMemory x → TakesMemoryToCopy (answer_at f.state) → GivesUp x h g e → FailsToFinish f g e
  finish_given_up h g x e same m l c = gives_up answered_run (Uncopied f) (λ m. ⊥) (HaltsIn answered_run (Uncopied f)) f (λ m can. inr can) (λ is. inl refl) h g x e (finish_refused h x same m l) c
