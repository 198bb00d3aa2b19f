-- What was taken where a run is stopped is a beginning of what the run takes.
use Rattle.std.proofs.Common.{◌≡◌, List, [], ◌∷◌, ◌++◌, Bool, true, false, refl, sym, ◌∙◌, ap, subst, append_assoc, inl, inr, Ok, Err, Option, Result}
use Rattle.std.proofs.lemmas.List.{append-nil}
use Rattle.tw_surface.specs.ChangeView.{Batch}
use Rattle.tw_surface.specs.Paintings.{Mark, Painting}
use Rattle.tw_surface.specs.PaintingBatches.{Shot, clear_batch, batches_after, mark_after}
use Rattle.tw_host.specs.HostRules.{HostRules}
use Rattle.tw_host.specs.declared.host.Overrides.{Overrides}
use Rattle.tw_session.specs.Refusal.{Refusal}
use Rattle.tw_lineedit.specs.Frame.{Frame}
use Rattle.tw_lineedit.specs.Run.{Moment, StoppedRunsBegin, run_of, progress_of}
use Rattle.tw_lineedit.specs.ScreenRuns.{shots_at, IsClearing}
use Rattle.tw_lineedit.specs.Stations.{Station, station_painting, painted_shots, refused_clearing, shots_by, clearing_by, station_batches}
use Rattle.tw_lineedit.proofs.StationLemmas.{batches_by_stations, batches_before, painted_shots-are}
use Rattle.tw_lineedit.proofs.StoppedLemmas.{stopped}
use Rattle.tw_lineedit.proofs.StopsLemmas.{IsMomentOf}

-- one list of batches is a beginning of another
abbrev IsBeginning : List Batch → List Batch → Type 0
IsBeginning taken all = (rest : List Batch) × (all ≡ taken ++ rest)

module _ {V : Type 0} (rules : HostRules V) where
  -- the clearing before a station is the first of its batches
  clears_before : (mark : Option Mark) (more : List (Station V)) (q : Result Painting Refusal)
      → IsBeginning (clear_batch ∷ []) (batches_after mark (shots_by true (painted_shots rules more) q) ++ clearing_by true (refused_clearing rules more) q)
  clears_before mark more (Err r) = ([], refl)
  clears_before mark more (Ok p) = (_, refl)

  clearing_begins : (mark : Option Mark) (others : List (Station V)) (cleared : List Batch) → IsClearing rules others cleared → IsBeginning cleared (station_batches rules mark others)
  clearing_begins mark others cleared (inl none) = rw none (station_batches rules mark others, refl)
  clearing_begins mark others cleared (inr (one, (station, more, begins, is_cleared))) =
      let painting : Result Painting Refusal = station_painting rules station in
      rw (one, begins)
      (subst (λ (c : Bool). IsBeginning (clear_batch ∷ []) (batches_after mark (shots_by c (painted_shots rules more) painting) ++ clearing_by c (refused_clearing rules more) painting)) (sym is_cleared)
      (clears_before mark more painting))

  begins : (f : Frame V) (m : Moment V) → IsMomentOf rules f m → IsBeginning m.taken (run_of rules f).taken
  begins f m at =
      let shots : List Shot = shots_at rules at.painted in
      let first : List Batch = batches_after f.mark shots in
      let rest = clearing_begins (mark_after f.mark shots) at.others at.extra at.clears in (
        rest.0,
        batches_by_stations rules f
            ∙ ap (λ (l : List (Station V)). f.terminal.batches ++ station_batches rules f.mark l) at.stations
            ∙ ap (λ (b : List Batch). f.terminal.batches ++ b) (batches_before rules f.mark at.painted at.others at.are_painted)
            ∙ ap (λ (b : List Batch). f.terminal.batches ++ (first ++ b)) rest.1
            ∙ ap (λ (b : List Batch). f.terminal.batches ++ b) (sym (append_assoc first at.extra rest.0))
            ∙ sym (append_assoc f.terminal.batches (first ++ at.extra) rest.0)
            ∙ ap (λ (l : List Shot). (f.terminal.batches ++ (batches_after f.mark l ++ at.extra)) ++ rest.0) (sym (painted_shots-are rules at.painted at.are_painted))
            ∙ ap (λ (b : List Batch). b ++ rest.0) (sym at.taken),
      )

  pub stopped_runs_begin : (overrides : Overrides) → StoppedRunsBegin rules overrides
  stopped_runs_begin overrides c f m can =
      begins f m (stopped rules overrides c f.terminal.events false (progress_of f) f.terminal.batches m (sym (append-nil f.terminal.batches)) can)
