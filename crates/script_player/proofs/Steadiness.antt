-- Runs over a host whose value no event changes.
use Rattle.std.proofs.Common.{◌≡◌, ◌∙◌, ℕ, inl, inr, refl, sym, subst, ap, Bool, true, false, cond, List, [], ◌∷◌, None, Result, Ok, Err}
use Rattle.std.specs.Prelude.{IfOk, IfErr}
use Rattle.tw_input.specs.EventView.{EventView}
use Rattle.tw_lineedit.specs.Frame.{Frame}
use Rattle.tw_lineedit.specs.HostRules.{HostRules}
use Rattle.tw_lineedit.specs.declared.Overrides.{Overrides}
use Rattle.tw_lineedit.specs.EditState.{EditState}
use Rattle.tw_lineedit.specs.Refusal.{Refusal}
use Rattle.tw_lineedit.specs.Outcomes.{Outcome, is_over}
use Rattle.tw_lineedit.specs.Painting.{Rendering}
use Rattle.tw_lineedit.specs.Run.{Progress, Ending, Moment, Cause, painting_at, state_after, after_painting, after_action, at_no_event, after_event, at_event, run, run_of, CanMiss, unmeasured, unpainted, half_painted, CanRefuse, unresolved, unapplied, half_cleared, missed, CanStop, at_painting, behind_painting, CanStopOn, unpolled, uncopied, taking, CanStopAt, refused, later}
use Rattle.tw_lineedit.specs.Reading.{start, Reads, FailsToRead, Starves, Halts, ClosesBadly}
use Rattle.tw_lineedit.specs.declared.Error.{Error}
use Rattle.tw_lineedit.specs.declared.Error.TheVariants.{Memory, Terminal}
use Rattle.tw_terminal.specs.TerminalState.{TerminalState}
use Rattle.script_player.specs.NewEditor.{IsSteady, RefusesLine, before}

module _ {V : Type 0} (rules : HostRules V) (overrides : Overrides) (steady : IsSteady rules) where
  -- where no event is left
  at_end-value : (s : Progress V) (p : Result Rendering Refusal) → (at_no_event rules s p).value ≡ s.value
  at_end-value s (Err n) = refl
  at_end-value s (Ok p) = refl

  -- after an event, where the rest of the run keeps the value
  after_event-value : (e : EventView) (es : List EventView) (s : Progress V) (rest : Progress V → Ending V) (r : Result EditState Refusal)
      → ((t : Progress V) → (rest t).value ≡ t.value) → (after_event rules e es s rest r).value ≡ s.value
  after_event-value e es s rest (Err n) h = steady s.value e s.state.cut
  after_event-value e es s rest (Ok state) h = h (after_action rules s e state) ∙ steady s.value e s.state.cut

  -- the value of either ending
  value_by : (b : Bool) (x y : Ending V) (v : V) → x.value ≡ v → y.value ≡ v → (cond b x y).value ≡ v
  value_by true x y v p q = p
  value_by false x y v p q = q

  -- where an event is left
  at_event-value : (e : EventView) (es : List EventView) (s : Progress V) (rest : Progress V → Ending V) (r : Result Rendering Refusal)
      → ((t : Progress V) → (rest t).value ≡ t.value) → (at_event rules e es s rest r).value ≡ s.value
  at_event-value e es s rest (Err n) h = refl
  at_event-value e es s rest (Ok p) h =
      value_by (is_over s.state.mode) _ _ s.value refl (after_event-value e es (after_painting s p) rest (state_after rules (after_painting s p) e) h)

  -- at the end of a run
  run-value : (es : List EventView) (s : Progress V) → (run rules es s).value ≡ s.value
  run-value [] s = at_end-value s (painting_at rules s)
  run-value (e ∷ es) s = at_event-value e es s (run rules es) (painting_at rules s) (run-value es)

  -- where a run can be stopped
  miss-value : {c : Cause} {es : List EventView} {s : Progress V} {m : Moment V} → CanMiss rules c es s m → m.value ≡ s.value
  miss-value unmeasured = refl
  miss-value (unpainted sized) = refl
  miss-value (half_painted painted) = refl

  refuse-value : {c : Cause} {e : EventView} {es : List EventView} {s : Progress V} {m : Moment V} → CanRefuse rules overrides c e es s m → m.value ≡ s.value
  refuse-value (unresolved own) = refl
  refuse-value {e = e} {s = s} (unapplied takes) = steady s.value e s.state.cut
  refuse-value {e = e} {s = s} (half_cleared clears) = steady s.value e s.state.cut
  refuse-value {e = e} {s = s} (missed leads miss) = miss-value miss ∙ steady s.value e s.state.cut

  mutual
    stop-value : {c : Cause} {es : List EventView} {s : Progress V} {m : Moment V} → CanStop rules overrides c es s m → m.value ≡ s.value
    stop-value (at_painting miss) = miss-value miss
    stop-value (behind_painting painted rest) = on-value rest

    on-value : {c : Cause} {es : List EventView} {s : Progress V} {m : Moment V} → CanStopOn rules overrides c es s m → m.value ≡ s.value
    on-value (unpolled goes) = refl
    on-value (uncopied over line) = refl
    on-value (taking goes rest) = at-value rest

    at-value : {c : Cause} {e : EventView} {es : List EventView} {s : Progress V} {m : Moment V} → CanStopAt rules overrides c e es s m → m.value ≡ s.value
    at-value (refused r) = refuse-value r
    at-value {e = e} {s = s} (later leads rest) = stop-value rest ∙ steady s.value e s.state.cut

  -- where memory was refused
  starved-value : (f : Frame V) (m : Moment V) → Starves rules overrides None f m → m.value ≡ f.value
  starved-value f m (inl stopped) = stop-value stopped
  starved-value f m (inr (some, same)) = ap (λ (x : Moment V). x.value) same

  -- where the closing begins
  halted-value : (f : Frame V) (m : Moment V) → Halts rules overrides None f m → m.value ≡ f.value
  halted-value f m (inl same) = ap (λ (x : Moment V). x.value) same ∙ run-value _ _
  halted-value f m (inr (starved, none)) = starved-value f m starved

  -- after a reading that nothing stopped
  read-value : (f g : Frame V) (answer : Outcome) → Reads (run_of rules (start None f)) f g answer → g.value ≡ f.value
  read-value f g answer reads = reads.value ∙ run-value _ _

  -- where the closing was refused
  bad-value : (m : Moment V) (f g : Frame V) → ClosesBadly m f g → g.value ≡ m.value
  bad-value m f g (inl part) = let (p, end, last, is_part, leaves) = part.leaves in leaves.value
  bad-value m f g (inr unflushed) = unflushed.leaves.value

  -- after a reading that was refused
  refused-value : (f g : Frame V) (e : Error) → FailsToRead rules overrides None f g e → g.value ≡ f.value
  refused-value f g (Memory e) (m, starved, none, closes, same) = closes.leaves.value ∙ starved-value f m starved
  refused-value f g (Terminal e) (m, inl (faults, closes, count)) = closes.leaves.value ∙ stop-value faults
  refused-value f g (Terminal e) (m, inr (inl (faults, closes, count))) = bad-value m f g closes ∙ stop-value faults
  refused-value f g (Terminal e) (m, inr (inr (halts, closes, count))) = bad-value m f g closes ∙ halted-value f m halts
  refused-value f g _ reads = read-value f g _ reads

  -- after a reading
  pub reading-value : {A : Type 0} (f g : Frame V) (r : Result A Error) (answer : A → Outcome)
      → IfOk r (λ it. Reads (run_of rules (start None f)) f g (answer it)) → IfErr r (FailsToRead rules overrides None f g) → g.value ≡ f.value
  reading-value f g (Ok it) answer ok err = read-value f g (answer it) ok
  reading-value f g (Err e) answer ok err = refused-value f g e err

-- what a refused reading of a new editor leaves
pub refused-line : {V A : Type 0} {prompt : List ℕ} {old : TerminalState} (rules : HostRules V) (overrides : Overrides) (f g : Frame V) (new : TerminalState) (r : Result A Error)
    → f ≡ before prompt f.value old → new ≡ g.terminal → IfErr r (FailsToRead rules overrides None f g)
    → IfErr r (RefusesLine rules overrides prompt f.value g.value old new)
refused-line rules overrides f g new (Ok it) begins ends fails = fails
refused-line rules overrides f g new (Err e) begins ends fails =
    inl (g.state, g.mark, rw begins at (subst (λ t. FailsToRead rules overrides None f (record g { terminal = t }) e) (sym ends) fails))
