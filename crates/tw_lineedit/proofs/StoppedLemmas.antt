-- What was taken before a run is stopped is a beginning of its batches: those of the stations so far.
use Rattle.std.proofs.Common.{◌≡◌, ◌+◌, ◌<◌, ◌≤◌, List, [], ◌∷◌, ◌++◌, Bool, true, false, cond, length, refl, sym, ◌∙◌, ap, subst, append_assoc, ◌⊎◌, inl, inr, Option, Some, None, Result, Ok, Err, arith}
use Rattle.std.proofs.lemmas.List.{append-nil}
use Rattle.tw_surface.specs.ChangeView.{Batch}
use Rattle.tw_surface.specs.Paintings.{Painting, Mark, mark_of}
use Rattle.tw_surface.specs.PaintingBatches.{start_of, clear_batch, clearing, batches_after, mark_after}
use Rattle.tw_input.specs.EventView.{EventView}
use Rattle.tw_terminal.specs.TerminalState.{TerminalState}
use Rattle.tw_host.specs.HostRules.{HostRules}
use Rattle.tw_host.specs.declared.host.Overrides.{Overrides}
use Rattle.tw_session.specs.EditState.{EditState}
use Rattle.tw_session.specs.Painting.{Rendering, rendering_of}
use Rattle.tw_session.specs.Refusal.{Refusal}
use Rattle.tw_session.specs.Outcomes.{is_over, answer_at}
use Rattle.tw_session.specs.Steps.{is_repaint}
use Rattle.tw_lineedit.specs.EditorSteps.{Paints}
use Rattle.tw_lineedit.specs.Frame.{Frame}
use Rattle.tw_lineedit.specs.Reading.{final_moment}
use Rattle.tw_lineedit.specs.Run.{Progress, Moment, Cause, CanStop, progress_of, painting_at, after_painting, chosen_action, state_after, after_action, run, ends, at_event, at_no_event, after_event}
use Rattle.tw_lineedit.specs.Run.{CanMiss, unmeasured, unpainted, half_painted, CanRefuse, unresolved, unapplied, half_cleared, missed, at_painting, behind_painting, CanStopOn, unpolled, uncopied, taking, CanStopAt, refused, later}
use Rattle.tw_lineedit.specs.Stations.{Station, station_at, station_batches, station_painting, painted_shots, stations_by, stations_unless, stations_after, stations_from}
use Rattle.tw_lineedit.specs.ScreenRuns.{batches_of, Comes, IsClearing, IsNext}
use Rattle.tw_lineedit.proofs.StationLemmas.{IsErrRendered, ArePainted, rendered_at, alone}

module _ {A : Type 0} where
  abbrev head_or : A → List A → A
  head_or a [] = a
  head_or a (x ∷ xs) = x

  abbrev behind : List A → List A
  behind [] = []
  behind (x ∷ xs) = xs

  -- of two beginnings of a list the longer one begins with the shorter one
  pub longer : (earlier : List A) (x : A) (more painted others : List A) → painted ++ others ≡ earlier ++ x ∷ more → length earlier < length painted
      → (rest : List A) × (painted ≡ (earlier ++ x ∷ []) ++ rest)
  longer earlier x more [] others e h = absurd (omega (arith, h))
  longer [] x more (p ∷ painted) others e h = (painted, ap (λ (y : A). y ∷ painted) (ap (head_or x) e))
  longer (y ∷ earlier) x more (p ∷ painted) others e h =
      let q = longer earlier x more painted others (ap behind e) (omega (arith, h)) in
      (q.0, ap (λ (z : A). z ∷ painted) (ap (head_or y) e) ∙ ap (λ (l : List A). y ∷ l) q.1)

abbrev rendering_in : Rendering → Result Rendering Refusal → Rendering
rendering_in p (Err r) = p
rendering_in p (Ok q) = q

-- a painting as it is rendered
abbrev rendered : Option Mark → Painting → Rendering
rendered mark q = record { changes = start_of mark ++ q.changes; mark = mark_of q }

rendered-is : (mark : Option Mark) (r : Result Painting Refusal) (p : Rendering) → rendering_of mark r ≡ Ok p → (q : Painting) × (r ≡ Ok q) × (p ≡ rendered mark q)
rendered-is mark (Ok q) p h = (q, refl, sym (ap (rendering_in p) h))
rendered-is mark (Err r) p h = absurd (subst IsErrRendered h tt)

module _ {V : Type 0} (rules : HostRules V) where
  -- what is being rendered, if anything is, comes next
  abbrev pub IsRendering : Option Mark → List (Station V) → Option Batch → Type 0
  IsRendering mark others None = Unit {0}
  IsRendering mark others (Some batch) = IsNext rules mark others batch

  clears_or_idles : (mark : Option Mark) (others : List (Station V)) (rendering : Option Batch) → (rendering ≡ None) ⊎ (rendering ≡ Some clear_batch) → IsRendering mark others rendering
  clears_or_idles mark others rendering (inl idle) = rw idle tt
  clears_or_idles mark others rendering (inr clears) = rw clears (inl refl)

  -- The stations that were painted before a run was stopped, and what was taken: their batches, and maybe a clearing.
  -- Each event that was taken came after one of them.
  pub record Stopped (es : List EventView) (cleared : Bool) (s : Progress V) (base : List Batch) (m : Moment V) : Type 0 where
    pub painted : List (Station V)
    pub others : List (Station V)
    pub extra : List Batch
    pub stations : stations_from rules es cleared s ≡ painted ++ others
    pub are_painted : ArePainted rules painted
    pub taken : m.taken ≡ base ++ (batches_after s.mark (painted_shots rules painted) ++ extra)
    pub clears : IsClearing rules others extra
    pub mark : m.mark ≡ mark_after s.mark (painted_shots rules painted)
    pub next : IsRendering (mark_after s.mark (painted_shots rules painted)) others m.rendering
    pub enough : length es ≤ length m.left + length painted

  stations_begin : (es : List EventView) (cleared : Bool) (s : Progress V) → (others : List (Station V)) × (stations_from rules es cleared s ≡ station_at cleared s ∷ others)
  stations_begin [] cleared s = ([], refl)
  stations_begin (e ∷ es) cleared s = (stations_by rules e s (stations_from rules es) (painting_at rules s), refl)

  clears_first : (es : List EventView) (cleared : Bool) (s : Progress V) → IsClearing rules (stations_from rules es cleared s) (clearing cleared)
  clears_first es false s = inl refl
  clears_first es true s = let b = stations_begin es true s in inr (refl, (station_at true s, b.0, b.1, refl))

  -- nothing was painted
  pub nothing : (es : List EventView) (cleared : Bool) (s : Progress V) (base : List Batch) (m : Moment V) → s.taken ≡ base ++ clearing cleared
      → m.taken ≡ s.taken → m.mark ≡ s.mark → m.left ≡ es → IsRendering s.mark (stations_from rules es cleared s) m.rendering → Stopped es cleared s base m
  nothing es cleared s base m h taken mark left next = record {
    painted = [];
    others = stations_from rules es cleared s;
    extra = clearing cleared;
    stations = refl;
    are_painted = tt;
    taken = taken ∙ h;
    clears = clears_first es cleared s;
    mark = mark;
    next = next;
    enough = rw left (omega arith);
  }

  -- the painting of a station
  painted_as : (cleared : Bool) (s : Progress V) (p : Rendering) → painting_at rules s ≡ Ok p
      → (q : Painting) × (station_painting rules (station_at cleared s) ≡ Ok q) × (p ≡ rendered s.mark q)
  painted_as cleared s p h = rendered-is s.mark (station_painting rules (station_at cleared s)) p (sym (rendered_at rules s cleared) ∙ h)

  -- one station was painted
  one : (es : List EventView) (cleared : Bool) (s : Progress V) (base : List Batch) (p : Rendering) (m : Moment V) → painting_at rules s ≡ Ok p → s.taken ≡ base ++ clearing cleared
      → m.taken ≡ s.taken ++ p.changes ∷ [] → m.mark ≡ Some p.mark → (m.rendering ≡ None) ⊎ (m.rendering ≡ Some clear_batch) → length es ≤ length m.left + 1 → Stopped es cleared s base m
  one es cleared s base p m k h taken mark idle enough =
      let q = painted_as cleared s p k in
      let b = stations_begin es cleared s in
      record {
        painted = station_at cleared s ∷ [];
        others = b.0;
        extra = [];
        stations = b.1;
        are_painted = ((q.0, q.1), tt);
        taken = taken ∙ ap (λ (r : Rendering). s.taken ++ r.changes ∷ []) q.2 ∙ rw q.1 (alone rules base s.taken s.mark cleared q.0 h);
        clears = inl refl;
        mark = rw q.1 (mark ∙ ap (λ (r : Rendering). Some r.mark) q.2);
        next = clears_or_idles _ _ m.rendering idle;
        enough = enough;
      }

  -- what a painting and the batches after it add to a clearing
  joined : (base taken c y extra : List Batch) (b : Batch) → taken ≡ base ++ c → (taken ++ b ∷ []) ++ (y ++ extra) ≡ base ++ ((c ++ b ∷ y) ++ extra)
  joined base taken c y extra b h =
      append_assoc taken (b ∷ []) (y ++ extra)
      ∙ ap (λ (l : List Batch). l ++ b ∷ (y ++ extra)) h
      ∙ append_assoc base c (b ∷ (y ++ extra))
      ∙ ap (λ (l : List Batch). base ++ l) (sym (append_assoc c (b ∷ y) extra))

  -- a station was painted, and its event led to the next one
  more : (e : EventView) (es : List EventView) (cleared : Bool) (s : Progress V) (base : List Batch) (p : Rendering) (state : EditState) (m : Moment V)
      → painting_at rules s ≡ Ok p → is_over s.state.mode ≡ false → state_after rules s e ≡ Ok state → s.taken ≡ base ++ clearing cleared
      → Stopped es (is_repaint (chosen_action rules (after_painting s p) e)) (after_action rules (after_painting s p) e state) (s.taken ++ p.changes ∷ []) m
      → Stopped (e ∷ es) cleared s base m
  more e es cleared s base p state m k over leads h rest =
      let q = painted_as cleared s p k in
      record {
        painted = station_at cleared s ∷ rest.painted;
        others = rest.others;
        extra = rest.extra;
        stations = ap (λ (l : List (Station V)). station_at cleared s ∷ l)
            (ap (stations_by rules e s (stations_from rules es)) k
            ∙ ap (stations_unless (stations_after rules e (after_painting s p) (stations_from rules es) (state_after rules s e))) over
            ∙ ap (stations_after rules e (after_painting s p) (stations_from rules es)) leads
            ∙ rest.stations);
        are_painted = ((q.0, q.1), rest.are_painted);
        taken = rest.taken ∙ ap (λ (r : Rendering). (s.taken ++ r.changes ∷ []) ++ (batches_after (Some r.mark) (painted_shots rules rest.painted) ++ rest.extra)) q.2
            ∙ rw q.1 (joined base s.taken (clearing cleared) (batches_after (Some (mark_of q.0)) (painted_shots rules rest.painted)) rest.extra (start_of s.mark ++ q.0.changes) h);
        clears = rest.clears;
        mark = rw q.1 (rest.mark ∙ ap (λ (r : Rendering). mark_after (Some r.mark) (painted_shots rules rest.painted)) q.2);
        next = rw q.1 (subst (λ (r : Rendering). IsRendering (mark_after (Some r.mark) (painted_shots rules rest.painted)) rest.others m.rendering) q.2 rest.next);
        enough = omega (arith, rest.enough);
      }

  -- where a painting, or an event after one, is refused
  unpainted_stop : (c : Cause) (es : List EventView) (cleared : Bool) (s : Progress V) (base : List Batch) (m : Moment V) → s.taken ≡ base ++ clearing cleared → CanMiss rules c es s m → Stopped es cleared s base m
  unpainted_stop c es cleared s base m h unmeasured = nothing es cleared s base m h refl refl refl tt
  unpainted_stop c es cleared s base m h (unpainted sized) = nothing es cleared s base m h refl refl refl tt
  unpainted_stop c es cleared s base m h (half_painted {p = p} k) =
      let q = painted_as cleared s p k in
      let b = stations_begin es cleared s in
      nothing es cleared s base m h refl refl refl (inr (station_at cleared s, b.0, q.0, b.1, q.1, ap (λ (r : Rendering). r.changes) q.2))

  refused_stop : (overrides : Overrides) (c : Cause) (e : EventView) (es : List EventView) (cleared : Bool) (s : Progress V) (base : List Batch) (p : Rendering) (m : Moment V) → s.taken ≡ base ++ clearing cleared
      → painting_at rules s ≡ Ok p → is_over s.state.mode ≡ false → CanRefuse rules overrides c e es (after_painting s p) m → Stopped (e ∷ es) cleared s base m
  refused_stop overrides c e es cleared s base p m h k over (unresolved own) = one (e ∷ es) cleared s base p m k h refl refl (inl refl) (omega arith)
  refused_stop overrides c e es cleared s base p m h k over (unapplied takes) = one (e ∷ es) cleared s base p m k h refl refl (inl refl) (omega arith)
  refused_stop overrides c e es cleared s base p m h k over (half_cleared repaint) = one (e ∷ es) cleared s base p m k h refl refl (inr refl) (omega arith)
  refused_stop overrides c e es cleared s base p m h k over (missed leads miss) = more e es cleared s base p _ m k over leads h (unpainted_stop c es _ _ _ m refl miss)

  -- at each moment; t is the run once it is painted
  mutual
    pub stopped : (overrides : Overrides) (c : Cause) (es : List EventView) (cleared : Bool) (s : Progress V) (base : List Batch) (m : Moment V) → s.taken ≡ base ++ clearing cleared → CanStop rules overrides c es s m → Stopped es cleared s base m
    stopped overrides c es cleared s base m h (at_painting miss) = unpainted_stop c es cleared s base m h miss
    stopped overrides c es cleared s base m h (behind_painting {p = p} k n) = painted_stop overrides c es cleared s base p (after_painting s p) m h k refl n

    painted_stop : (overrides : Overrides) (c : Cause) (es : List EventView) (cleared : Bool) (s : Progress V) (base : List Batch) (p : Rendering) (t : Progress V) (m : Moment V) → s.taken ≡ base ++ clearing cleared
        → painting_at rules s ≡ Ok p → t ≡ after_painting s p → CanStopOn rules overrides c es t m → Stopped es cleared s base m
    painted_stop overrides c es cleared s base p t m h k same (unpolled over) = one es cleared s base p m k h (ap (λ (x : Progress V). x.taken) same) (ap (λ (x : Progress V). x.mark) same) (inl refl) (omega arith)
    painted_stop overrides c es cleared s base p t m h k same (uncopied over line) = one es cleared s base p m k h (ap (λ (x : Progress V). x.taken) same) (ap (λ (x : Progress V). x.mark) same) (inl refl) (omega arith)
    painted_stop overrides c (e ∷ es) cleared s base p t m h k same (taking over n) =
        taken_stop overrides c e es cleared s base p t m h k same (ap (λ (x : Progress V). is_over x.state.mode) (sym same) ∙ over) n

    taken_stop : (overrides : Overrides) (c : Cause) (e : EventView) (es : List EventView) (cleared : Bool) (s : Progress V) (base : List Batch) (p : Rendering) (t : Progress V) (m : Moment V) → s.taken ≡ base ++ clearing cleared
        → painting_at rules s ≡ Ok p → t ≡ after_painting s p → is_over s.state.mode ≡ false → CanStopAt rules overrides c e es t m → Stopped (e ∷ es) cleared s base m
    taken_stop overrides c e es cleared s base p t m h k same over (refused r) =
        refused_stop overrides c e es cleared s base p m h k over (subst (λ (x : Progress V). CanRefuse rules overrides c e es x m) same r)
    taken_stop overrides c e es cleared s base p t m h k same over (later {state = state} leads n) =
        more e es cleared s base p state m k over (subst (λ (x : Progress V). state_after rules x e ≡ Ok state) same leads) h
        (subst (λ (x : Progress V). Stopped es (is_repaint (chosen_action rules x e)) (after_action rules x e state) x.taken m) same
        (stopped overrides c es (is_repaint (chosen_action rules t e)) (after_action rules t e state) t.taken m refl n))

  -- at its end, by what comes next
  finished_idle : (cleared : Bool) (s : Progress V) (base : List Batch) → s.taken ≡ base ++ clearing cleared → (q : Result Rendering Refusal) → painting_at rules s ≡ q
      → Stopped [] cleared s base (final_moment (at_no_event rules s q))
  finished_idle cleared s base h (Err r) k = nothing [] cleared s base (final_moment (at_no_event rules s (Err r))) h refl refl refl tt
  finished_idle cleared s base h (Ok p) k = one [] cleared s base p (final_moment (at_no_event rules s (Ok p))) k h refl refl (inl refl) (omega arith)

  module _ (e : EventView) (es : List EventView)
      (rest : (cleared : Bool) (s : Progress V) (base : List Batch) → s.taken ≡ base ++ clearing cleared → Stopped es cleared s base (final_moment (run rules es s)))
      (cleared : Bool) (s : Progress V) (base : List Batch) (h : s.taken ≡ base ++ clearing cleared) where
    finished_event : (p : Rendering) → painting_at rules s ≡ Ok p → is_over s.state.mode ≡ false → (a : Result EditState Refusal) → state_after rules (after_painting s p) e ≡ a
        → Stopped (e ∷ es) cleared s base (final_moment (after_event rules e es (after_painting s p) (run rules es) a))
    finished_event p k over (Err r) leads = one (e ∷ es) cleared s base p (final_moment (after_event rules e es (after_painting s p) (run rules es) (Err r))) k h refl refl (inl refl) (omega arith)
    finished_event p k over (Ok state) leads =
        more e es cleared s base p state (final_moment (run rules es (after_action rules (after_painting s p) e state))) k over leads h
        (rest (is_repaint (chosen_action rules (after_painting s p) e)) (after_action rules (after_painting s p) e state) (s.taken ++ p.changes ∷ []) refl)

    finished_over : (p : Rendering) → painting_at rules s ≡ Ok p → (over : Bool) → is_over s.state.mode ≡ over
        → Stopped (e ∷ es) cleared s base (final_moment (cond over (ends (answer_at s.state) (e ∷ es) (after_painting s p)) (after_event rules e es (after_painting s p) (run rules es) (state_after rules (after_painting s p) e))))
    finished_over p k true over = one (e ∷ es) cleared s base p (final_moment (ends (answer_at s.state) (e ∷ es) (after_painting s p))) k h refl refl (inl refl) (omega arith)
    finished_over p k false over = finished_event p k over (state_after rules (after_painting s p) e) refl

    finished_painting : (q : Result Rendering Refusal) → painting_at rules s ≡ q → Stopped (e ∷ es) cleared s base (final_moment (at_event rules e es s (run rules es) q))
    finished_painting (Err r) k = nothing (e ∷ es) cleared s base (final_moment (at_event rules e es s (run rules es) (Err r))) h refl refl refl tt
    finished_painting (Ok p) k = finished_over p k (is_over s.state.mode) refl

  pub finished : (es : List EventView) (cleared : Bool) (s : Progress V) (base : List Batch) → s.taken ≡ base ++ clearing cleared → Stopped es cleared s base (final_moment (run rules es s))
  finished [] cleared s base h = finished_idle cleared s base h (painting_at rules s) refl
  finished (e ∷ es) cleared s base h = finished_painting e es (finished es) cleared s base h (painting_at rules s) refl

  -- where the first station was painted, its batches were taken
  pub first_begun : {f g : Frame V} {station : Station V} {behind : List (Station V)} → Comes rules f [] station behind → Paints rules f g
      → g.terminal.batches ≡ f.terminal.batches ++ (batches_of rules (station ∷ []) ++ [])
  first_begun {f = f} {g = g} {station = station} comes paints =
      let s : Progress V = progress_of f in
      let first : Station V = station_at false s in
      let p : Rendering = paints.picture.0 in
      let q = painted_as false s p paints.picture.1 in
      let begins = stations_begin f.terminal.events false s in
      let is : station ≡ first = ap (head_or station) (sym comes.stations ∙ begins.1) in
      let told : f.terminal.batches ++ (start_of f.mark ++ q.0.changes) ∷ [] ≡ f.terminal.batches ++ station_batches rules f.mark (first ∷ []) =
      rw q.1 (alone rules f.terminal.batches f.terminal.batches f.mark false q.0 (sym (append-nil f.terminal.batches))) in
      ap (λ (t : TerminalState). t.batches) paints.picture.3
      ∙ ap (λ (r : Rendering). f.terminal.batches ++ r.changes ∷ []) q.2
      ∙ told
      ∙ ap (λ (mark : Option Mark). f.terminal.batches ++ station_batches rules mark (first ∷ [])) comes.nothing_painted
      ∙ ap (λ (x : Station V). f.terminal.batches ++ batches_of rules (x ∷ [])) (sym is)
      ∙ ap (λ (b : List Batch). f.terminal.batches ++ b) (sym (append-nil (batches_of rules (station ∷ []))))
