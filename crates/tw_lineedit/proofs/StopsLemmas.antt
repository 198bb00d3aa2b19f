-- What the terminal took of a call that was stopped.
use Rattle.std.proofs.Common.{◌≡◌, ℕ, ◌+◌, ◌<◌, List, [], ◌∷◌, ◌++◌, false, length, refl, sym, ◌∙◌, ap, subst, append_assoc, ◌⊎◌, inl, inr, Option, Some, None, Result, Ok, Err, IfErr, arith}
use Rattle.std.specs.List.{All}
use Rattle.std.proofs.lemmas.List.{append-nil}
use Rattle.std.proofs.lemmas.List.Elements.{All-nil, All-cons}
use Rattle.tw_surface.specs.ChangeView.{Batch}
use Rattle.tw_surface.specs.Paintings.{Mark}
use Rattle.tw_surface.specs.PaintingBatches.{batches, batches_after, mark_after, closing_if}
use Rattle.tw_terminal.specs.TerminalState.{IsPart}
use Rattle.tw_host.specs.HostRules.{HostRules}
use Rattle.tw_host.specs.declared.host.Overrides.{Overrides}
use Rattle.tw_session.specs.declared.error.Error.{Error}
use Rattle.tw_session.specs.declared.error.Error.TheVariants.{Memory, Terminal}
use Rattle.tw_lineedit.specs.Frame.{Frame}
use Rattle.tw_lineedit.specs.Run.{Moment, IsPartOf, want, fault, progress_of}
use Rattle.tw_lineedit.specs.Reading.{start, unbegun, Leaves, ClosesBadly, Starves, Faults, Halts, FailsToRead}
use Rattle.tw_lineedit.specs.Stations.{Station, painted_shots, station_batches}
use Rattle.tw_lineedit.specs.ScreenRuns.{batches_of, shots_at, IsStopped, IsClosing, IsNext, Comes, StopsAfter}
use Rattle.tw_lineedit.proofs.StationLemmas.{IsPainted, ArePainted, painted_shots-are, batches_are_shots, batches_of_before, all_painted}
use Rattle.tw_lineedit.proofs.StoppedLemmas.{longer, IsRendering, Stopped, nothing, stopped, finished}

module _ {V : Type 0} (rules : HostRules V) where
  are_all : (stations : List (Station V)) → ArePainted rules stations → All (IsPainted rules) stations
  are_all [] h = All-nil (IsPainted rules)
  are_all (s ∷ stations) (one, more) = All-cons (IsPainted rules) s stations one (are_all stations more)

  -- the moments at which a run can be stopped, and its end
  abbrev pub IsMomentOf : Frame V → Moment V → Type 0
  IsMomentOf f m = Stopped rules f.terminal.events false (progress_of f) f.terminal.batches m

  -- what was taken in part comes next
  part_next : (mark : Option Mark) (others : List (Station V)) (rendering : Option Batch) (part : List Batch) → IsRendering rules mark others rendering → IsPartOf rendering part
      → (part ≡ []) ⊎ ((batch : Batch) × IsNext rules mark others batch × IsPart batch part)
  part_next mark others None part next h = inl h
  part_next mark others (Some batch) part next h = inr (batch, next, h)

  -- then a station after which an event was taken was painted, and its batches are the first that were taken
  pub first_of_stop : {f : Frame V} {earlier : List (Station V)} {station : Station V} {later : List (Station V)} → Comes rules f earlier station later
      → (g : Frame V) → StopsAfter rules f g → length earlier + length g.terminal.events < length f.terminal.events
      → (rest : List Batch) × (g.terminal.batches ≡ f.terminal.batches ++ (batches_of rules (earlier ++ station ∷ []) ++ rest))
  first_of_stop {f = f} {earlier = earlier} {station = station} {later = later} comes g stop far =
      let up_to : List (Station V) = earlier ++ station ∷ [] in
      let p = longer earlier station later stop.painted stop.others (sym stop.stations ∙ comes.stations) (omega (arith, far, stop.enough)) in
      let after : List Batch = station_batches rules (mark_after None (shots_at rules up_to)) p.0 in
      let end : List Batch = stop.cleared ++ (stop.part ++ stop.end) in (
        after ++ end,
        stop.taken
            ∙ ap (λ (l : List (Station V)). f.terminal.batches ++ (batches_of rules l ++ end)) p.1
            ∙ ap (λ (b : List Batch). f.terminal.batches ++ (b ++ end)) (batches_of_before rules up_to p.0 (all_painted rules comes))
            ∙ ap (λ (b : List Batch). f.terminal.batches ++ b) (append_assoc (batches_of rules up_to) after end),
      )

  module _ (f : Frame V) (bare : f.mark ≡ None) where
    -- from a moment on, with the closing batch or a beginning of it
    stops_at : (m : Moment V) (end : List Batch) (g : Frame V) → IsMomentOf f m → IsClosing m.mark end → Leaves m end g → StopsAfter rules f g
    stops_at m end g at closes left =
        let shots : painted_shots rules at.painted ≡ shots_at rules at.painted = painted_shots-are rules at.painted at.are_painted in
        let marks : mark_after f.mark (painted_shots rules at.painted) ≡ mark_after None (shots_at rules at.painted) =
        ap (λ (mark : Option Mark). mark_after mark (painted_shots rules at.painted)) bare ∙ ap (mark_after None) shots in
        let part : List Batch = left.batches.0 in
        let played : List Batch = batches_of rules at.painted in
        let first : batches_after f.mark (painted_shots rules at.painted) ≡ played =
        ap (λ (mark : Option Mark). batches_after mark (painted_shots rules at.painted)) bare ∙ ap batches shots ∙ sym (batches_are_shots rules at.painted at.are_painted) in
        record {
          painted = at.painted;
          others = at.others;
          stations = at.stations;
          are_painted = are_all at.painted at.are_painted;
          enough = rw left.left at.enough;
          cleared = at.extra;
          clears = at.clears;
          part = part;
          next = part_next _ at.others m.rendering part (subst (λ (mark : Option Mark). IsRendering rules mark at.others m.rendering) marks at.next) left.batches.1;
          end = end;
          closing = subst (λ (mark : Option Mark). IsClosing mark end) (at.mark ∙ marks) closes;
          taken = left.batches.2
              ∙ ap (λ (b : List Batch). (b ++ part) ++ end) (at.taken ∙ ap (λ (b : List Batch). f.terminal.batches ++ (b ++ at.extra)) first)
              ∙ regrouped f.terminal.batches played at.extra part end;
        }
      where
        regrouped : (base played extra part end : List Batch) → ((base ++ (played ++ extra)) ++ part) ++ end ≡ base ++ (played ++ (extra ++ (part ++ end)))
        regrouped base played extra part end =
            append_assoc (base ++ (played ++ extra)) part end
            ∙ append_assoc base (played ++ extra) (part ++ end)
            ∙ ap (λ (b : List Batch). base ++ b) (append_assoc played extra (part ++ end))

    whole_at : (m : Moment V) (g : Frame V) → IsMomentOf f m → Leaves m (closing_if m.mark) g → StopsAfter rules f g
    whole_at m g at left = stops_at m (closing_if m.mark) g at (inl refl) left

    badly_at : (m : Moment V) (e g : Frame V) → IsMomentOf f m → ClosesBadly m e g → StopsAfter rules f g
    badly_at m e g at (inl c) = stops_at m c.leaves.1 g at (inr (c.leaves.0, c.leaves.2, c.leaves.3)) c.leaves.4
    badly_at m e g at (inr c) = whole_at m g at c.leaves

  module _ (overrides : Overrides) (initial : Option (List ℕ)) (f : Frame V) where
    abbrev begun : Frame V
    begun = start initial f

    faulted : (m : Moment V) → Faults rules overrides initial f m → IsMomentOf begun m
    faulted m can = stopped rules overrides fault begun.terminal.events false (progress_of begun) begun.terminal.batches m (sym (append-nil begun.terminal.batches)) can

    starved : (m : Moment V) → Starves rules overrides initial f m → IsMomentOf begun m
    starved m (inl can) = stopped rules overrides want begun.terminal.events false (progress_of begun) begun.terminal.batches m (sym (append-nil begun.terminal.batches)) can
    starved m (inr (some, same)) =
        subst (IsMomentOf begun) (sym same)
        (nothing rules begun.terminal.events false (progress_of begun) begun.terminal.batches (unbegun f) (sym (append-nil begun.terminal.batches)) refl refl refl tt)

    halted : (m : Moment V) → Halts rules overrides initial f m → IsMomentOf begun m
    halted m (inl same) =
        subst (IsMomentOf begun) (sym same) (finished rules begun.terminal.events false (progress_of begun) begun.terminal.batches (sym (append-nil begun.terminal.batches)))
    halted m (inr (can, idle)) = starved m can

    -- a call that was refused
    pub stops_refused : (A : Type 0) (g : Frame V) (e : Error) → FailsToRead rules overrides initial f g e → (let result : Result A Error = Err e in IsStopped result) → StopsAfter rules begun g
    stops_refused A g (Memory x) (m, can, idle, closes, count) is = whole_at begun refl m g (starved m can) closes.leaves
    stops_refused A g (Terminal x) (m, inl (can, closes, count)) is = whole_at begun refl m g (faulted m can) closes.leaves
    stops_refused A g (Terminal x) (m, inr (inl (can, closes, count))) is = badly_at begun refl m f g (faulted m can) closes
    stops_refused A g (Terminal x) (m, inr (inr (can, closes, count))) is = badly_at begun refl m f g (halted m can) closes
    stops_refused A g e r bad = absurd bad

    -- a call with its answer
    pub stops_call : {A : Type 0} (g : Frame V) (result : Result A Error) → IfErr result (FailsToRead rules overrides initial f g) → IsStopped result → StopsAfter rules begun g
    stops_call g (Ok it) err bad = absurd bad
    stops_call {A = A} g (Err e) err is = stops_refused A g e err is
