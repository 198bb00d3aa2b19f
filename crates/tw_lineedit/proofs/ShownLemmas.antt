-- What a screen shows of a call.
use Rattle.std.proofs.Common.{◌≡◌, ℕ, List, [], ◌∷◌, ◌++◌, false, ◌∙◌, ap, subst, append_assoc, Option, Result, Ok, Err, IfOk, IfErr, OnOk}
use Rattle.std.specs.List.{All}
use Rattle.tw_surface.specs.ChangeView.{Batch}
use Rattle.tw_surface.specs.Pictures.{Picture}
use Rattle.tw_surface.specs.PaintingBatches.{closing_if}
use Rattle.tw_terminal.specs.TerminalState.{TerminalState}
use Rattle.tw_host.specs.HostRules.{HostRules}
use Rattle.tw_host.specs.declared.host.Overrides.{Overrides}
use Rattle.tw_session.specs.declared.error.Error.{Error}
use Rattle.tw_session.specs.declared.error.Error.TheVariants.{Memory, Terminal}
use Rattle.tw_session.specs.Refusal.{refusal_of}
use Rattle.tw_session.specs.Outcomes.{Outcome}
use Rattle.tw_lineedit.specs.Feeding.{Begins}
use Rattle.tw_lineedit.specs.Frame.{Frame}
use Rattle.tw_lineedit.specs.Run.{run_of}
use Rattle.tw_lineedit.specs.Reading.{start, Reads, FailsToRead}
use Rattle.tw_lineedit.specs.Stations.{Station}
use Rattle.tw_lineedit.specs.ScreenRuns.{batches_of, Comes, RendersNothing, IsStopped, HasPainted, ShowsFresh, ShowsFirst, StopsAfter, Shows}
use Rattle.tw_lineedit.proofs.StationLemmas.{first_batches, all_taken, closing-is}
use Rattle.tw_lineedit.proofs.StoppedLemmas.{first_begun}
use Rattle.tw_lineedit.proofs.StopsLemmas.{first_of_stop, stops_refused}
use Rattle.tw_lineedit.proofs.ScreenRunLemmas.{comes_plainly, first_not_cleared, fresh_there, closed_there, first_row-is}

module _ {V : Type 0} (rules : HostRules V) where
  -- the batches up to a station's painting are the first that were taken on the way from f to g
  abbrev IsTaken : Frame V → Frame V → List (Station V) → Station V → Type 0
  IsTaken f g earlier station = (rest : List Batch) × (g.terminal.batches ≡ f.terminal.batches ++ (batches_of rules (earlier ++ station ∷ []) ++ rest))

  module _ {A : Type 0} (f g : Frame V) (result : Result A Error) where
    -- each station that was painted
    abbrev AreTaken : Type 0
    AreTaken = (earlier : List (Station V)) (station : Station V) (later : List (Station V)) → Comes rules f earlier station later → HasPainted rules f g result earlier → IsTaken f g earlier station

    -- where nothing stopped the call, all batches and the closing one
    abbrev AreAllTaken : Type 0
    AreAllTaken = (earlier : List (Station V)) (station : Station V) (later : List (Station V)) → Comes rules f earlier station later → All (RendersNothing rules) later → (IsStopped result → ⊥)
        → g.terminal.batches ≡ f.terminal.batches ++ (batches_of rules (earlier ++ station ∷ []) ++ closing_if (run_of rules f).mark)

    -- then a screen shows the call
    module _ (taken : AreTaken) (all : AreAllTaken) where
      shows : Shows rules f g result
      shows = record {
        painting = λ w earlier station later before h painted.
            let q = fresh_there rules f w earlier station later before h in
            record { beginning = taken earlier station later (comes_plainly rules h) painted; fresh = q.0; above = q.1 };
        closing = λ w earlier station later before h none whole. record {
          end = closing_if (run_of rules f).mark;
          taken = all earlier station later (comes_plainly rules h) none whole;
          closed = rw (closing-is rules (comes_plainly rules h) none) (closed_there rules f w earlier station later before h);
        };
      }

  -- a run that nothing stopped
  pub shows_read : {A : Type 0} (f e g : Frame V) (result : Result A Error) (answer : Outcome) → Reads (run_of rules f) e g answer → Shows rules f g result
  shows_read f e g result answer r = shows f g result
      (λ earlier station later comes painted.
      let first = first_batches rules comes in
      let end : List Batch = closing_if (run_of rules f).mark in (
        first.0 ++ end,
        r.batches ∙ ap (λ (b : List Batch). b ++ end) first.1
            ∙ append_assoc f.terminal.batches (batches_of rules (earlier ++ station ∷ []) ++ first.0) end
            ∙ ap (λ (b : List Batch). f.terminal.batches ++ b) (append_assoc (batches_of rules (earlier ++ station ∷ [])) first.0 end),
      ))
      (λ earlier station later comes none whole.
      r.batches ∙ ap (λ (b : List Batch). b ++ closing_if (run_of rules f).mark) (all_taken rules comes none)
      ∙ append_assoc f.terminal.batches (batches_of rules (earlier ++ station ∷ [])) (closing_if (run_of rules f).mark))

  -- a call that was stopped
  shows_stopped : {A : Type 0} (f g : Frame V) (result : Result A Error) → IsStopped result → StopsAfter rules f g → Shows rules f g result
  shows_stopped f g result is stop = shows f g result
      (λ earlier station later comes painted. first_of_stop rules comes g stop (painted is))
      (λ earlier station later comes none whole. absurd (whole is))

  module _ (overrides : Overrides) (initial : Option (List ℕ)) (f : Frame V) where
    abbrev begun : Frame V
    begun = start initial f

    -- a call that was refused
    pub shows_refused : {A : Type 0} (g : Frame V) (e : Error) → FailsToRead rules overrides initial f g e → let result : Result A Error = Err e in Shows rules begun g result
    shows_refused {A = A} g (Memory x) r = shows_stopped begun g (Err (Memory x)) tt (stops_refused rules overrides initial f A g (Memory x) r tt)
    shows_refused {A = A} g (Terminal x) r = shows_stopped begun g (Err (Terminal x)) tt (stops_refused rules overrides initial f A g (Terminal x) r tt)
    shows_refused {A = A} g e r = shows_read begun f g (Err e) (Err (refusal_of e)) r

    -- a call with its answer
    pub shows_call : {A : Type 0} (g : Frame V) (outcome : A → Outcome) (result : Result A Error)
        → IfOk result (λ it. Reads (run_of rules begun) f g (outcome it)) → IfErr result (FailsToRead rules overrides initial f g) → Shows rules begun g result
    shows_call g outcome (Ok it) ok err = shows_read begun f g (Ok it) (outcome it) ok
    shows_call g outcome (Err e) ok err = shows_refused g e err

  -- a call that nothing stopped, once the host alone changed, whatever is answered then
  pub shows_ended : {A B : Type 0} (f g h : Frame V) (it : A) (result : Result B Error) → h.terminal ≡ g.terminal → (let whole : Result A Error = Ok it in Shows rules f g whole) → Shows rules f h result
  shows_ended f g h it result same q = record {
    painting = λ w earlier station later before reaches painted. fresh (q.painting w earlier station later before reaches (λ bad. absurd bad));
    closing = λ w earlier station later before reaches none whole.
        let c = q.closing w earlier station later before reaches none (λ bad. bad) in
        record { end = c.end; taken = ap (λ (t : TerminalState). t.batches) same ∙ c.taken; closed = c.closed };
  }
    where
      fresh : {w s : ℕ} {earlier : List (Station V)} {station : Station V} {before : Picture} → ShowsFresh rules f g.terminal.batches w s earlier station before → ShowsFresh rules f h.terminal.batches w s earlier station before
      fresh k = record { beginning = (k.beginning.0, ap (λ (t : TerminalState). t.batches) same ∙ k.beginning.1); fresh = k.fresh; above = k.above }

  -- a line that is begun
  pub shows_begun : (overrides : Overrides) (f g : Frame V) → Begins rules overrides f g → ShowsFirst rules f g
  shows_begun overrides f g b w station later before h =
      let q = fresh_there rules f w [] station later before h in
      subst (λ (n : ℕ). ShowsFresh rules f g.terminal.batches w n [] station before)
      (first_row-is rules f w [] station later before h false (first_not_cleared rules f station later h.stations))
      (record { beginning = ([], first_begun rules (comes_plainly rules h) b.paints); fresh = q.0; above = q.1 })

  pub shows_begun_if : (overrides : Overrides) {A : Type 0} (f g : Frame V) (result : Result A Error) → OnOk result (Begins rules overrides f g) → OnOk result (ShowsFirst rules f g)
  shows_begun_if overrides f g (Ok it) b = shows_begun overrides f g b
  shows_begun_if overrides f g (Err e) b = b
