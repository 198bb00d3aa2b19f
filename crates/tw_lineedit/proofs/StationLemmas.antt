-- The batches of a run, by its stations.
use Rattle.std.proofs.Common.{◌≡◌, List, [], ◌∷◌, ◌++◌, cond, Bool, true, false, ◌||◌, refl, sym, ◌∙◌, ap, subst, append_assoc, map, Option, Some, None, Result, Ok, Err, if◌then◌else◌, ◌==◌, nat_lt}
use Rattle.std.specs.List.{All}
use Rattle.std.proofs.lemmas.List.{append-nil}
use Rattle.std.proofs.lemmas.List.Elements.{All-head}
use Rattle.tw_surface.specs.ChangeView.{Batch}
use Rattle.tw_surface.specs.Paintings.{Painting, painting, Mark, mark_of}
use Rattle.tw_surface.specs.PaintingBatches.{Shot, shot_of, start_of, clearing, batches_after, batches, mark_after, closing_if, closing_batch}
use Rattle.tw_surface.specs.Scenes.{Scene}
use Rattle.tw_surface.proofs.BatchLemmas.{batches_after-append}
use Rattle.tw_input.specs.EventView.{EventView}
use Rattle.tw_terminal.specs.declared.terminal.ScreenSize.{ScreenSize}
use Rattle.tw_host.specs.HostRules.{HostRules}
use Rattle.tw_session.specs.EditState.{EditState}
use Rattle.tw_session.specs.Painting.{Rendering, rendering_of, painted_on, is_paintable}
use Rattle.tw_session.specs.Refusal.{Refusal, ZeroSize, SizeOutOfRange}
use Rattle.tw_session.specs.Outcomes.{is_over, answer_at}
use Rattle.tw_session.specs.Steps.{is_repaint}
use Rattle.tw_lineedit.specs.Frame.{Frame}
use Rattle.tw_lineedit.specs.Run.{Progress, Ending, progress_of, run, run_of, ends, at_no_event, at_event, after_event, painting_at, after_painting, chosen_action, state_after, after_action}
use Rattle.tw_lineedit.specs.Stations.{Station, station_at, station_painting, shots_by, clearing_by, painted_shots, refused_clearing, station_batches, stations_after, stations_unless, stations_by, stations_from, stations_of, BatchesByStations}
use Rattle.tw_lineedit.specs.ScreenRuns.{sized_scene, batches_of, RendersNothing, Comes, RunsTellScenes}

-- a refusal is no painting
abbrev IsErr : Result Painting Refusal → Type 0
IsErr (Err b) = Unit {0}
IsErr (Ok a) = ⊥

err_is_no_ok : {a : Painting} {b : Refusal} → Err b ≡ Ok a → ⊥
err_is_no_ok h = subst IsErr h tt

-- no rendering either
abbrev pub IsErrRendered : Result Rendering Refusal → Type 0
IsErrRendered (Err b) = Unit {0}
IsErrRendered (Ok a) = ⊥

-- the painting of a result
abbrev painting_in : Painting → Result Painting Refusal → Painting
painting_in p (Err r) = p
painting_in p (Ok q) = q

-- a painting that is not refused is that of the scene
pub painted-is : (size : ScreenSize) (scene : Scene) (p : Painting) → painted_on size scene ≡ Ok p → p ≡ painting size.cols scene
unfolding painted_on
painted-is size scene p h = by_zero ((size.rows == 0) || (size.cols == 0)) h
  where
    by_fit : (b : Bool) → (if b then Ok (painting size.cols scene) else Err SizeOutOfRange) ≡ Ok p → p ≡ painting size.cols scene
    by_fit true h = sym (ap (painting_in p) h)
    by_fit false h = absurd (err_is_no_ok h)

    by_large : (b : Bool) → (if b then Err SizeOutOfRange else if is_paintable size.cols scene then Ok (painting size.cols scene) else Err SizeOutOfRange) ≡ Ok p → p ≡ painting size.cols scene
    by_large true h = absurd (err_is_no_ok h)
    by_large false h = by_fit (is_paintable size.cols scene) h

    by_zero : (b : Bool) → (if b then Err ZeroSize else if nat_lt 65535 size.rows || nat_lt 65535 size.cols then Err SizeOutOfRange
        else if is_paintable size.cols scene then Ok (painting size.cols scene) else Err SizeOutOfRange) ≡ Ok p → p ≡ painting size.cols scene
    by_zero true h = absurd (err_is_no_ok h)
    by_zero false h = by_large (nat_lt 65535 size.rows || nat_lt 65535 size.cols) h

module _ {V : Type 0} (rules : HostRules V) where
  -- a painting does not depend on whether the screen was cleared
  same_painting : (s : Progress V) (cleared : Bool) → station_painting rules (station_at cleared s) ≡ station_painting rules (station_at false s)
  unfolding painted_on
  same_painting s cleared = refl

  -- a station's painting as it is rendered
  pub rendered_at : (s : Progress V) (cleared : Bool) → painting_at rules s ≡ rendering_of s.mark (station_painting rules (station_at cleared s))
  rendered_at s cleared = ap (rendering_of s.mark) (sym (same_painting s cleared))

  -- ---- what a run takes and leaves

  -- the batches of a station, by its painting, and of the stations after it
  abbrev batches_by : Option Mark → Bool → List (Station V) → Result Painting Refusal → List Batch
  batches_by mark cleared more q = batches_after mark (shots_by cleared (painted_shots rules more) q) ++ clearing_by cleared (refused_clearing rules more) q

  -- a run comes to its end with these batches, and leaves the mark of the last painting
  abbrev Tells : List Batch → Option Mark → Bool → List (Station V) → Result Painting Refusal → Ending V → Type 0
  Tells base mark cleared more q end =
      (end.taken ≡ base ++ batches_by mark cleared more q) × (end.mark ≡ mark_after mark (shots_by cleared (painted_shots rules more) q))

  -- what a painting and the stations after it add to a clearing
  joined : (base taken : List Batch) (mark : Option Mark) (cleared : Bool) (p : Painting) (more : List (Station V)) → taken ≡ base ++ clearing cleared
      → (taken ++ (start_of mark ++ p.changes) ∷ []) ++ station_batches rules (Some (mark_of p)) more ≡ base ++ batches_by mark cleared more (Ok p)
  joined base taken mark cleared p more h =
      let batch : Batch = start_of mark ++ p.changes in
      append_assoc taken (batch ∷ []) (station_batches rules (Some (mark_of p)) more)
      ∙ ap (λ (b : List Batch). b ++ batch ∷ station_batches rules (Some (mark_of p)) more) h
      ∙ append_assoc base (clearing cleared) (batch ∷ station_batches rules (Some (mark_of p)) more)
      ∙ ap (λ (b : List Batch). base ++ b) (sym (append_assoc (clearing cleared) (batch ∷ batches_after (Some (mark_of p)) (painted_shots rules more)) (refused_clearing rules more)))

  -- where no station follows
  pub alone : (base taken : List Batch) (mark : Option Mark) (cleared : Bool) (p : Painting) → taken ≡ base ++ clearing cleared
      → taken ++ (start_of mark ++ p.changes) ∷ [] ≡ base ++ batches_by mark cleared [] (Ok p)
  alone base taken mark cleared p h = sym (append-nil (taken ++ (start_of mark ++ p.changes) ∷ [])) ∙ joined base taken mark cleared p [] h

  -- a run tells its stations
  abbrev ToldFrom : List EventView → Type 0
  ToldFrom es = (cleared : Bool) (s : Progress V) (base : List Batch) → s.taken ≡ base ++ clearing cleared
      → ((run rules es s).taken ≡ base ++ station_batches rules s.mark (stations_from rules es cleared s))
      × ((run rules es s).mark ≡ mark_after s.mark (painted_shots rules (stations_from rules es cleared s)))

  -- the last station
  by_last : (s : Progress V) (base : List Batch) (cleared : Bool) → s.taken ≡ base ++ clearing cleared → (q : Result Painting Refusal)
      → Tells base s.mark cleared [] q (at_no_event rules s (rendering_of s.mark q))
  by_last s base cleared h (Err r) = (h, refl)
  by_last s base cleared h (Ok p) = (alone base s.taken s.mark cleared p h, refl)

  -- one event more
  by_event : (e : EventView) (es : List EventView) → ToldFrom es → ToldFrom (e ∷ es)
  by_event e es rest cleared s base h =
      subst Told (sym (rendered_at s cleared)) (by_painting (station_painting rules (station_at cleared s)))
    where
      Told : Result Rendering Refusal → Type 0
      Told r = Tells base s.mark cleared (stations_by rules e s (stations_from rules es) r) (station_painting rules (station_at cleared s)) (at_event rules e es s (run rules es) r)

      after : Painting → Progress V
      after p = after_painting s (record { changes = start_of s.mark ++ p.changes; mark = mark_of p })

      by_state : (p : Painting) (a : Result EditState Refusal)
          → Tells base s.mark cleared (stations_after rules e (after p) (stations_from rules es) a) (Ok p) (after_event rules e es (after p) (run rules es) a)
      by_state p (Err r) = (alone base s.taken s.mark cleared p h, refl)
      by_state p (Ok state) =
          let next : Progress V = after_action rules (after p) e state in
          let told = rest (is_repaint (chosen_action rules (after p) e)) next (s.taken ++ (start_of s.mark ++ p.changes) ∷ []) refl in
          (told.0 ∙ joined base s.taken s.mark cleared p (stations_from rules es (is_repaint (chosen_action rules (after p) e)) next) h, told.1)

      by_over : (p : Painting) (over : Bool)
          → Tells base s.mark cleared (stations_unless (stations_after rules e (after p) (stations_from rules es) (state_after rules s e)) over) (Ok p)
          (cond over (ends (answer_at s.state) (e ∷ es) (after p)) (after_event rules e es (after p) (run rules es) (state_after rules s e)))
      by_over p true = (alone base s.taken s.mark cleared p h, refl)
      by_over p false = by_state p (state_after rules s e)

      by_painting : (q : Result Painting Refusal)
          → Tells base s.mark cleared (stations_by rules e s (stations_from rules es) (rendering_of s.mark q)) q (at_event rules e es s (run rules es) (rendering_of s.mark q))
      by_painting (Err r) = (h, refl)
      by_painting (Ok p) = by_over p (is_over s.state.mode)

  by_stations : (es : List EventView) → ToldFrom es
  by_stations [] cleared s base h =
      subst (λ (r : Result Rendering Refusal). Tells base s.mark cleared [] (station_painting rules (station_at cleared s)) (at_no_event rules s r))
      (sym (rendered_at s cleared)) (by_last s base cleared h (station_painting rules (station_at cleared s)))
  by_stations (e ∷ es) cleared s base h = by_event e es (by_stations es) cleared s base h

  -- the batches of a run that begins at a frame
  pub batches_by_stations : BatchesByStations rules
  batches_by_stations f = (by_stations f.terminal.events false (progress_of f) f.terminal.batches (sym (append-nil f.terminal.batches))).0

  -- and the mark that it leaves
  mark_by_stations : (f : Frame V) → (run_of rules f).mark ≡ mark_after f.mark (painted_shots rules (stations_of rules f))
  mark_by_stations f = (by_stations f.terminal.events false (progress_of f) f.terminal.batches (sym (append-nil f.terminal.batches))).1

  -- ---- stations that are painted

  -- the station's painting is not refused
  abbrev pub IsPainted : Station V → Type 0
  IsPainted s = (p : Painting) × (station_painting rules s ≡ Ok p)

  -- all stations are painted
  abbrev pub ArePainted : List (Station V) → Type 0
  ArePainted [] = Unit {0}
  ArePainted (s ∷ more) = IsPainted s × ArePainted more

  -- all stations but the last are painted
  abbrev ArePaintedButLast : List (Station V) → Type 0
  ArePaintedButLast [] = Unit {0}
  ArePaintedButLast (s ∷ []) = Unit {0}
  ArePaintedButLast (s ∷ next ∷ more) = IsPainted s × ArePaintedButLast (next ∷ more)

  -- stations after a painted one
  painted_more : (s : Station V) (more : List (Station V)) → IsPainted s → ArePaintedButLast more → ArePaintedButLast (s ∷ more)
  painted_more s [] one rest = tt
  painted_more s (next ∷ more) one rest = (one, rest)

  -- a painting that is rendered is not refused
  rendering_of-ok : (mark : Option Mark) (q : Result Painting Refusal) (p : Rendering) → rendering_of mark q ≡ Ok p → (painted : Painting) × (q ≡ Ok painted)
  rendering_of-ok mark (Ok q) p h = (q, refl)
  rendering_of-ok mark (Err r) p h = absurd (subst IsErrRendered h tt)

  -- all stations of a run but the last are painted
  painted_from : (es : List EventView) (cleared : Bool) (s : Progress V) → ArePaintedButLast (stations_from rules es cleared s)
  painted_from [] cleared s = tt
  painted_from (e ∷ es) cleared s = by_painting (painted_from es) (painting_at rules s) refl
    where
      by_state : ((cleared : Bool) (s : Progress V) → ArePaintedButLast (stations_from rules es cleared s)) → (p : Rendering) → IsPainted (station_at cleared s)
          → (a : Result EditState Refusal) → ArePaintedButLast (station_at cleared s ∷ stations_after rules e (after_painting s p) (stations_from rules es) a)
      by_state rest p one (Err r) = tt
      by_state rest p one (Ok state) =
          painted_more (station_at cleared s) _ one (rest (is_repaint (chosen_action rules (after_painting s p) e)) (after_action rules (after_painting s p) e state))

      by_over : ((cleared : Bool) (s : Progress V) → ArePaintedButLast (stations_from rules es cleared s)) → (p : Rendering) → IsPainted (station_at cleared s)
          → (over : Bool) → ArePaintedButLast (station_at cleared s ∷ stations_unless (stations_after rules e (after_painting s p) (stations_from rules es) (state_after rules s e)) over)
      by_over rest p one true = tt
      by_over rest p one false = by_state rest p one (state_after rules s e)

      by_painting : ((cleared : Bool) (s : Progress V) → ArePaintedButLast (stations_from rules es cleared s)) → (q : Result Rendering Refusal) → painting_at rules s ≡ q
          → ArePaintedButLast (station_at cleared s ∷ stations_by rules e s (stations_from rules es) q)
      by_painting rest (Err r) h = tt
      by_painting rest (Ok p) h =
          by_over rest p (rendering_of-ok s.mark (station_painting rules (station_at cleared s)) p (sym (rendered_at s cleared) ∙ h)) (is_over s.state.mode)

  -- the stations up to a painted one are painted
  painted_up_to : (earlier : List (Station V)) (station : Station V) (later : List (Station V)) → ArePaintedButLast (earlier ++ station ∷ later)
      → IsPainted station → ArePainted (earlier ++ station ∷ [])
  painted_up_to [] station later h one = (one, tt)
  painted_up_to (s ∷ []) station later h one = (h.0, (one, tt))
  painted_up_to (s ∷ next ∷ more) station later h one = (h.0, painted_up_to (next ∷ more) station later h.1 one)

  -- a painting that is not refused is that of the scene at the screen's columns
  painting-is : (s : Station V) (p : Painting) → station_painting rules s ≡ Ok p → p ≡ painting s.size.cols (sized_scene rules s).scene
  painting-is s p h = painted-is s.size (sized_scene rules s).scene p h

  -- their paintings are those of their scenes, and come before those of the stations after them
  pub shots_before : (stations later : List (Station V)) → ArePainted stations
      → painted_shots rules (stations ++ later) ≡ map shot_of (map (sized_scene rules) stations) ++ painted_shots rules later
  shots_before [] later h = refl
  shots_before (s ∷ stations) later ((p, e), more) =
      let rest : List Shot = map shot_of (map (sized_scene rules) stations) ++ painted_shots rules later in
      rw (e, shots_before stations later more) (ap (λ (q : Painting). shot q s.cleared ∷ rest) (painting-is s p e))
    where
      shot : Painting → Bool → Shot
      shot q cleared = record { painting = q; cleared = cleared }

  -- none of them is refused
  clearing_behind : (stations later : List (Station V)) → ArePainted stations → refused_clearing rules (stations ++ later) ≡ refused_clearing rules later
  clearing_behind [] later h = refl
  clearing_behind (s ∷ stations) later ((p, e), more) = rw e (clearing_behind stations later more)

  pub painted_shots-are : (stations : List (Station V)) → ArePainted stations → painted_shots rules stations ≡ map shot_of (map (sized_scene rules) stations)
  painted_shots-are stations h =
      ap (painted_shots rules) (sym (append-nil stations)) ∙ shots_before stations [] h ∙ append-nil (map shot_of (map (sized_scene rules) stations))

  -- their batches are those of their scenes, and come before those of the stations after them
  pub batches_before : (mark : Option Mark) (stations later : List (Station V)) → ArePainted stations
      → station_batches rules mark (stations ++ later) ≡ batches_after mark (map shot_of (map (sized_scene rules) stations))
      ++ station_batches rules (mark_after mark (map shot_of (map (sized_scene rules) stations))) later
  batches_before mark stations later h =
      let list : List Shot = map shot_of (map (sized_scene rules) stations) in
      let others : List Batch = batches_after (mark_after mark list) (painted_shots rules later) in
      ap (λ (l : List Shot). batches_after mark l ++ refused_clearing rules (stations ++ later)) (shots_before stations later h)
      ∙ ap (λ (b : List Batch). batches_after mark (list ++ painted_shots rules later) ++ b) (clearing_behind stations later h)
      ∙ ap (λ (b : List Batch). b ++ refused_clearing rules later) (batches_after-append mark list (painted_shots rules later))
      ∙ append_assoc (batches_after mark list) others (refused_clearing rules later)

  pub batches_are_shots : (stations : List (Station V)) → ArePainted stations → batches_of rules stations ≡ batches (map shot_of (map (sized_scene rules) stations))
  batches_are_shots stations h =
      ap (batches_of rules) (sym (append-nil stations)) ∙ batches_before None stations [] h ∙ append-nil (batches (map shot_of (map (sized_scene rules) stations)))

  pub batches_of_before : (stations later : List (Station V)) → ArePainted stations
      → batches_of rules (stations ++ later) ≡ batches_of rules stations ++ station_batches rules (mark_after None (map shot_of (map (sized_scene rules) stations))) later
  batches_of_before stations later h =
      batches_before None stations later h
      ∙ ap (λ (b : List Batch). b ++ station_batches rules (mark_after None (map shot_of (map (sized_scene rules) stations))) later) (sym (batches_are_shots stations h))

  -- where nothing is rendered there are no paintings
  no_shots : (later : List (Station V)) → All (RendersNothing rules) later → painted_shots rules later ≡ []
  no_shots [] h = refl
  no_shots (s ∷ more) h = rw (All-head (RendersNothing rules) s more h).refused.1 refl

  -- and no clearing
  no_clearing : (later : List (Station V)) → All (RendersNothing rules) later → refused_clearing rules later ≡ []
  no_clearing [] h = refl
  no_clearing (s ∷ more) h =
      let one = All-head (RendersNothing rules) s more h in
      rw (one.refused.1, one.not_cleared) refl

  -- ---- a run that comes to a station

  module _ {f : Frame V} {earlier : List (Station V)} {station : Station V} {later : List (Station V)} (h : Comes rules f earlier station later) where
    -- what is shown up to the station
    abbrev so_far : List Shot
    so_far = map shot_of (map (sized_scene rules) (earlier ++ station ∷ []))

    -- the stations up to the painted one are painted
    pub all_painted : ArePainted (earlier ++ station ∷ [])
    all_painted =
        painted_up_to earlier station later
        (subst ArePaintedButLast h.stations (painted_from f.terminal.events false (progress_of f))) (h.painting, h.painted)

    -- their batches are those of their scenes
    pub played-is : batches_of rules (earlier ++ station ∷ []) ≡ batches so_far
    played-is = batches_are_shots (earlier ++ station ∷ []) all_painted

    -- all stations, the painted ones first
    parted : stations_of rules f ≡ (earlier ++ station ∷ []) ++ later
    parted = h.stations ∙ sym (append_assoc earlier (station ∷ []) later)

    shots-are : painted_shots rules (stations_of rules f) ≡ so_far ++ painted_shots rules later
    shots-are = ap (painted_shots rules) parted ∙ shots_before (earlier ++ station ∷ []) later all_painted

    -- the batches after the station
    abbrev rest_of : List Batch
    rest_of = station_batches rules (mark_after None so_far) later

    -- those up to it are the first ones of the run
    taken-is : (run_of rules f).taken ≡ f.terminal.batches ++ (batches_of rules (earlier ++ station ∷ []) ++ rest_of)
    taken-is =
        batches_by_stations f
        ∙ ap (λ (mark : Option Mark). f.terminal.batches ++ station_batches rules mark (stations_of rules f)) h.nothing_painted
        ∙ ap (λ (l : List (Station V)). f.terminal.batches ++ batches_of rules l) parted
        ∙ ap (λ (b : List Batch). f.terminal.batches ++ b) (batches_of_before (earlier ++ station ∷ []) later all_painted)

    pub first_batches : (rest : List Batch) × ((run_of rules f).taken ≡ f.terminal.batches ++ (batches_of rules (earlier ++ station ∷ []) ++ rest))
    first_batches = (rest_of, taken-is)

    -- and all, where nothing is rendered at later ones
    pub all_taken : All (RendersNothing rules) later → (run_of rules f).taken ≡ f.terminal.batches ++ batches_of rules (earlier ++ station ∷ [])
    all_taken none =
        let up_to : List Batch = batches_of rules (earlier ++ station ∷ []) in
        taken-is
        ∙ ap (λ (l : List Shot). f.terminal.batches ++ (up_to ++ (batches_after (mark_after None so_far) l ++ refused_clearing rules later))) (no_shots later none)
        ∙ ap (λ (b : List Batch). f.terminal.batches ++ (up_to ++ b)) (no_clearing later none)
        ∙ ap (λ (b : List Batch). f.terminal.batches ++ b) (append-nil up_to)

    -- then the closing batch is that of what is shown
    pub closing-is : All (RendersNothing rules) later → closing_if (run_of rules f).mark ≡ closing_batch so_far
    closing-is none =
        ap closing_if
        (mark_by_stations f
        ∙ ap (λ (mark : Option Mark). mark_after mark (painted_shots rules (stations_of rules f))) h.nothing_painted
        ∙ ap (mark_after None) (shots-are ∙ ap (λ (l : List Shot). so_far ++ l) (no_shots later none) ∙ append-nil so_far))

  -- a run tells its scenes
  pub tells_scenes : RunsTellScenes rules
  tells_scenes f earlier station later h = record { scenes = played-is h; beginning = first_batches h; all = all_taken h; closing = closing-is h }
