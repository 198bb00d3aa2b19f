-- Where a run stands, and what was counted on the way.
use Rattle.std.proofs.Common.{◌≡◌, [], refl, sym, ◌∙◌, ap, None, Some, Err}
use Rattle.std.proofs.lemmas.List.{append-nil}
use Rattle.tw_surface.specs.ChangeView.{Batch}
use Rattle.tw_terminal.specs.TerminalState.{TerminalState, Fails, RenderFails, count_up}
use Rattle.tw_session.specs.Refusal.{Refusal, refusal_of}
use Rattle.tw_lineedit.specs.Frame.{Frame}
use Rattle.tw_lineedit.specs.Run.{Ending, Moment, ending, progress_of, moment, StandsAt, Quiet, FailsOnce, IsRefusedIn}
use Rattle.tw_lineedit.specs.EditorSteps.{Keeps}
use Rattle.tw_session.specs.declared.error.Error.{Error}
use Rattle.tw_session.specs.declared.error.Error.TheVariants.{Memory, Terminal}

module _ {V : Type 0} where
  -- a frame stands at its own moment
  pub stands_here : (f : Frame V) → StandsAt (moment None f.terminal.events (progress_of f)) f
  stands_here f = record { state = refl; value = refl; size = refl; mark = refl; left = refl; part = ([], refl, sym (append-nil f.terminal.batches)) }

  -- a refused call that took nothing changes no moment
  pub stands_failed : (m : Moment V) (f g : Frame V) → Keeps f g → Fails f.terminal g.terminal → StandsAt m f → StandsAt m g
  stands_failed m f g keeps fails st = record {
    state = keeps.state ∙ st.state;
    value = keeps.value ∙ st.value;
    size = ap (λ (t : TerminalState). t.size) fails ∙ st.size;
    mark = keeps.mark ∙ st.mark;
    left = ap (λ (t : TerminalState). t.events) fails ∙ st.left;
    part = (st.part.0, st.part.1, ap (λ (t : TerminalState). t.batches) fails ∙ st.part.2);
  }

  -- a refused rendering has taken a beginning
  pub stands_in_part : (b : Batch) (f g : Frame V) → Keeps f g → RenderFails b f.terminal g.terminal → StandsAt (moment (Some b) f.terminal.events (progress_of f)) g
  stands_in_part b f g keeps fails = record {
    state = keeps.state;
    value = keeps.value;
    size = ap (λ (t : TerminalState). t.size) fails.rest;
    mark = keeps.mark;
    left = ap (λ (t : TerminalState). t.events) fails.rest;
    part = fails.part;
  }

  -- what is counted

  -- nothing happened
  pub quiet_self : (f : Frame V) → Quiet f f
  quiet_self f = record { flushed = refl; failures = refl }

  -- one quiet part after another
  pub quiet_on : (f g h : Frame V) → Quiet f g → Quiet g h → Quiet f h
  quiet_on f g h a b = record { flushed = b.flushed ∙ a.flushed; failures = b.failures ∙ a.failures }

  -- a failure after a quiet part
  pub fails_on : (f g h : Frame V) → Quiet f g → FailsOnce g h → FailsOnce f h
  fails_on f g h a b = record { flushed = b.flushed ∙ a.flushed; failures = b.failures ∙ ap count_up a.failures }

  -- a refused call is one failure
  pub failed : (f g : Frame V) → Fails f.terminal g.terminal → FailsOnce f g
  failed f g fails = record { flushed = ap (λ (t : TerminalState). t.flushed) fails; failures = ap (λ (t : TerminalState). t.failures) fails }

  -- a refused rendering is one failure
  pub render_failed : (b : Batch) (f g : Frame V) → RenderFails b f.terminal g.terminal → FailsOnce f g
  render_failed b f g fails = record { flushed = ap (λ (t : TerminalState). t.flushed) fails.rest; failures = ap (λ (t : TerminalState). t.failures) fails.rest }

  -- a refusal of a run to which another one leads
  pub refused_later : (run rest : Ending V) (Starves Faults Starves_later Faults_later : Moment V → Type 0) (f g h : Frame V)
      → ((r : Refusal) → rest ≡ ending (Err r) h → run ≡ ending (Err r) h) → ((m : Moment V) → Starves_later m → Starves m) → ((m : Moment V) → Faults_later m → Faults m) → Quiet f g
      → (e : Error) → IsRefusedIn rest Starves_later Faults_later g h e → IsRefusedIn run Starves Faults f h e
  refused_later run rest Starves Faults Starves_later Faults_later f g h same starves faults quiet (Memory x) ((m, can, idle, st), q) = ((m, starves m can, idle, st), quiet_on f g h quiet q)
  refused_later run rest Starves Faults Starves_later Faults_later f g h same starves faults quiet (Terminal x) ((m, can, st), q) = ((m, faults m can, st), fails_on f g h quiet q)
  refused_later run rest Starves Faults Starves_later Faults_later f g h same starves faults quiet e (r, q) = (same (refusal_of e) r, quiet_on f g h quiet q)
