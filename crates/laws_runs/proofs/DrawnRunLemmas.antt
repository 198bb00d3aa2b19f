-- What a screen shows after the paintings of a run: plain calls that stack, a call that shows nothing, and the fresh
-- painting of each station on a screen of any kind of cells, also after a clearing.
use Rattle.std.proofs.Common.{◌≡◌, ℕ, ◌+◌, List, [], ◌∷◌, ◌++◌, false, sym, ◌∙◌, subst, length, ap, length-append, arith, true, refl, append_assoc, map, ◌-◌, ◌≤◌, Option, Some, None, Bool}
use Rattle.std.proofs.lemmas.List.{append_cancel_left, append-nil, map-append}
use Rattle.tw_surface.specs.Pictures.{Picture}
use Rattle.tw_surface.specs.Fresh.{last_row}
use Rattle.tw_surface.specs.PaintingBatches.{play_batches, closing_if, SizedScene, shot_of, batches, mark_after, closing_batch}
use Rattle.tw_host.specs.HostRules.{HostRules}
use Rattle.tw_lineedit.specs.Frame.{Frame}
use Rattle.tw_lineedit.specs.Run.{run_of}
use Rattle.tw_lineedit.specs.Stations.{Station}
use Rattle.tw_lineedit.specs.ScreenRuns.{sized_scene, batches_of, is_cleared, ReachesPlainly, first_row, ShowsFresh, Comes, RendersNothing}
use Rattle.tw_lineedit.proofs.ScreenRunLemmas.{first_row-is, run_is_fresh, closes_below}
use Rattle.laws_runs.specs.PlainRuns.{CallsStack, PaintsNothing}
use Rattle.std.specs.List.{list_all, All}
use Rattle.std.proofs.lemmas.List.Elements.{All-nil, All-cons}
use Rattle.tw_surface.specs.Scenes.{is_text}
use Rattle.laws_screens.specs.Screens.{HasTextPrompt, blank_of}
use Rattle.tw_host.specs.ElementView.{ElementView, Attribute, changes_of}
use Rattle.tw_lineedit.proofs.StationLemmas.{ArePainted, all_painted, batches_are_shots, played-is, first_batches, all_taken, closing-is}
use Rattle.laws_screens.specs.Strokes.{PictureOf, InSight, resized, narrowest}
use Rattle.tw_surface.specs.Paintings.{painting, mark_of, closing}
use Rattle.laws_screens.specs.PaintedAlike.{IsPaintedAs, ArePaintedAs}
use Rattle.tw_surface.proofs.BatchLemmas.{batches_after-append}
use Rattle.laws_screens.proofs.SizedBatchLemmas.{sized_are, sized_batches_are}
use Rattle.laws_screens.specs.Sheets.{sheet_last_row, sheet_cursor_row}
use Rattle.laws_screens.specs.Paintings.{IsClosedSheet, cols_of, top_row, seen_row}
use Rattle.laws_screens.proofs.PaintedLists.{top-le}
use Rattle.laws_screens.specs.SceneSheets.{painting_of}
use Rattle.laws_screens.specs.Pens.{Pen}
use Rattle.laws_screens.proofs.PaintedAlikeLemmas.{closing_is, shows_stations, heals_stations, closes_stations}
use Rattle.laws_runs.specs.DrawnRuns.{play_stations, closed_by, play_since, since_batches, DrawnPaintings, DrawnClosings, DrawnCallsStack, DrawnHealings, HealedClosings}

module _ {V : Type 0} (rules : HostRules V) where
  -- a painting with no clearing before it
  later_is_fresh : (f : Frame V) (w : ℕ) (earlier : List (Station V)) (station : Station V) (later : List (Station V)) (before : Picture)
      → ReachesPlainly rules f w earlier station later before → is_cleared rules (earlier ++ station ∷ []) ≡ false → ShowsFresh rules f (run_of rules f).taken w before.row earlier station before
  later_is_fresh f w earlier station later before h none =
      subst (λ (n : ℕ). ShowsFresh rules f (run_of rules f).taken w n earlier station before) (first_row-is rules f w earlier station later before h false none)
      (run_is_fresh rules f w earlier station later before h)

  -- two calls
  pub calls_stack : CallsStack rules
  calls_stack f g w earlier station none before h nothing others second later k clear =
      let closed = closes_below rules f w earlier station none before h nothing in
      let fresh = later_is_fresh g w others second later _ k clear in
      let under : (play_batches w (closing_if (run_of rules f).mark) (play_batches w (batches_of rules (earlier ++ station ∷ [])) before)).row
      ≡ last_row w (first_row rules before.row (earlier ++ station ∷ [])) (sized_scene rules station).scene + 1 = closed.1.row in
      let below : ShowsFresh rules g (run_of rules g).taken w (last_row w (first_row rules before.row (earlier ++ station ∷ [])) (sized_scene rules station).scene + 1) others second _ =
      subst (λ (s : ℕ). ShowsFresh rules g (run_of rules g).taken w s others second (play_batches w (closing_if (run_of rules f).mark) (play_batches w (batches_of rules (earlier ++ station ∷ [])) before))) under fresh in
      (below, λ r c low inside. below.above r c low inside ∙ closed.1.same_above r c (omega arith) inside)

  -- ---- of what a call shows

  -- a call that paints and takes nothing shows nothing
  pub paints_nothing : (A : Type 0) → PaintsNothing rules A
  paints_nothing A f g result w station later before h painted shows same =
      let first = (shows.painting w [] station later before h painted).beginning in
      let none : batches_of rules (station ∷ []) ++ first.0 ≡ [] =
      append_cancel_left f.terminal.batches (batches_of rules (station ∷ []) ++ first.0) [] (sym first.1 ∙ same ∙ sym (append-nil f.terminal.batches)) in
      let empty : length (batches_of rules (station ∷ []) ++ first.0) ≡ 0 = ap length none in
      absurd (omega (arith, simp length-append at (rw h.painted at empty)))

-- ---- on a screen of any kind of cells

-- elements become attributes and texts
changes_are_texts : (elements : List ElementView) → list_all is_text (changes_of elements) ≡ true
changes_are_texts [] = refl
changes_are_texts (Attribute a ∷ elements) = changes_are_texts elements
changes_are_texts (element ∷ elements) = changes_are_texts elements

module _ {V : Type 0} (rules : HostRules V) where
  pub text_prompts : (stations : List (Station V)) → All HasTextPrompt (map (sized_scene rules) stations)
  text_prompts [] = All-nil HasTextPrompt
  text_prompts (s ∷ stations) =
      All-cons HasTextPrompt (sized_scene rules s) (map (sized_scene rules) stations) (changes_are_texts (rules.prompt s.value s.state.prompt)) (text_prompts stations)

  first_painted : (xs ys : List (Station V)) → ArePainted rules (xs ++ ys) → ArePainted rules xs
  first_painted [] ys h = tt
  first_painted (x ∷ xs) ys h = (h.0, first_painted xs ys h.1)

-- ---- the laws

module _ {A C : Type 0} (pen : Pen A C) where
  narrowest-le : (v : ℕ) (widths : List ℕ) → narrowest v widths ≤ v
  narrowest-le v [] = omega arith
  narrowest-le v (w ∷ more) = omega arith

  seen-le : (rows : Option ℕ) (r : ℕ) → seen_row rows r ≤ r
  seen-le None r = omega arith
  seen-le (Some h) r = omega arith

  pub drawn_calls_stack : DrawnCallsStack pen
  drawn_calls_stack rows cuts w last shown entered after painting paintings closed over r c low inside least =
      let up : top_row rows entered.row paintings ≤ entered.row = top-le rows entered.row paintings in
      let down : entered.row ≤ last + 1 = omega (arith, closed.row, seen-le rows (last + 1)) in
      over.above r c low inside least
      ∙ closed.moved_up (r + (entered.row - top_row rows entered.row paintings)) c (omega (arith, up, low)) (omega (arith, least, narrowest-le w (cols_of paintings)))
      ∙ ap (λ (x : ℕ). shown.cell x c) (omega (arith, up, down))

  -- the last of some stations is painted as the last of the others
  pub last_alike : {S : Type 0} (view : S → SizedScene) (earlier : List S) (station : S) (measured : List SizedScene) (last : SizedScene)
      → ArePaintedAs pen (map view (earlier ++ station ∷ [])) (measured ++ last ∷ []) → IsPaintedAs pen (view station) last
  last_alike view [] station [] last k = k.0
  last_alike view [] station (other ∷ []) last k = absurd k.1
  last_alike view [] station (other ∷ next ∷ more) last k = absurd k.1
  last_alike view (first ∷ []) station [] last k = absurd k.1
  last_alike view (first ∷ next ∷ more) station [] last k = absurd k.1
  last_alike view (first ∷ earlier) station (other ∷ measured) last k = last_alike view earlier station measured last k.1

module _ {V A C : Type 0} (rules : HostRules V) (pen : Pen A C) where
  pub drawn_paintings : DrawnPaintings rules pen
  drawn_paintings f rows cuts v a earlier station later measured last before h = record {
    batches = sized_batches_are (map (sized_scene rules) (earlier ++ station ∷ [])) ∙ sym (played-is rules h.comes);
    beginning = first_batches rules h.comes;
    shown = shows_stations pen rows cuts v a (map (sized_scene rules) (earlier ++ station ∷ [])) measured last before h.at_start h.in_sight h.alike h.low;
  }

  resized-row : (cuts : Bool) (b : C) (v w : ℕ) (t : PictureOf C) → (resized cuts b v w t).row ≡ t.row
  resized-row false b v w t = refl
  resized-row true b v w t = refl

  some-rows : (rows : Option ℕ) (r : ℕ) → InSight rows r → InSight rows 0
  some-rows None r h = tt
  some-rows (Some h) r low = omega (arith, low)

  -- the closing batch of a run that comes to a station after which nothing is rendered
  pub run_closing : (f : Frame V) (earlier : List (Station V)) (station : Station V) (later : List (Station V)) → Comes rules f earlier station later → All (RendersNothing rules) later
      → closing_if (run_of rules f).mark ≡ closing (mark_of (painting station.size.cols (sized_scene rules station).scene)) ∷ []
  run_closing f earlier station later comes none =
      closing-is rules comes none ∙ ap (λ l. closing_batch (map shot_of l)) (map-append (sized_scene rules) earlier (station ∷ [])) ∙ closing_is (map (sized_scene rules) earlier) (sized_scene rules station)

  -- on a screen whose cursor stands where the painting left it
  closes : (f : Frame V) (rows : Option ℕ) (cuts : Bool) (w s : ℕ) (kept : A) (station : Station V) (last : SizedScene) (shown : PictureOf C)
      → closing_if (run_of rules f).mark ≡ closing (mark_of (painting station.size.cols (sized_scene rules station).scene)) ∷ []
      → 2 ≤ w → InSight rows 0 → IsPaintedAs pen (sized_scene rules station) last → shown.row ≡ s + sheet_cursor_row last.cols (painting_of pen last).sheet
      → IsClosedSheet rows w (blank_of pen) (s + sheet_last_row last.cols (painting_of pen last).sheet) (resized cuts (blank_of pen) last.cols w shown)
      (closed_by rules pen rows cuts last.cols w kept f shown)
  closes f rows cuts w s kept station last shown closing wide some alike row =
      rw closing (closes_stations pen rows w s kept (sized_scene rules station) last (resized cuts (blank_of pen) last.cols w shown) wide some alike
      (resized-row cuts (blank_of pen) last.cols w shown ∙ row))

  pub drawn_closings : DrawnClosings rules pen
  drawn_closings f rows cuts v w a kept earlier station later measured last before h none wide =
      let fresh = (drawn_paintings f rows cuts v a earlier station later measured last before h).shown.fresh in
      let top : ℕ = top_row rows before.row (map (painting_of pen) (measured ++ last ∷ [])) in (
        all_taken rules h.comes none,
        closes f rows cuts w top kept station last (play_stations rules pen rows cuts v a (earlier ++ station ∷ []) before)
            (run_closing f earlier station later h.comes none) wide (some-rows rows before.row h.in_sight) (last_alike pen (sized_scene rules) earlier station measured last h.alike) fresh.row,
      )

  -- ---- after a clearing

  pub drawn_healings : DrawnHealings rules pen
  drawn_healings f rows earlier since station later measured last h =
      let scenes : List (Station V) → List SizedScene = map (sized_scene rules) in
      let up_to : List (Station V) = since ++ station ∷ [] in
      let same = append_assoc earlier since (station ∷ []) in
      let painted = first_painted rules earlier since (first_painted rules (earlier ++ since) (station ∷ []) (all_painted rules h.comes)) in
      let first = first_batches rules h.comes in
      record {
        batches = ap (batches_of rules) (sym same) ∙ played-is rules h.comes
            ∙ ap (λ l. batches (map shot_of (scenes l))) same
            ∙ ap (λ l. batches (map shot_of l)) (map-append (sized_scene rules) earlier up_to)
            ∙ ap batches (map-append shot_of (scenes earlier) (scenes up_to))
            ∙ batches_after-append None (map shot_of (scenes earlier)) (map shot_of (scenes up_to))
            ∙ ap (λ l. batches (map shot_of (scenes earlier)) ++ l) (sym (sized_are (mark_after None (map shot_of (scenes earlier))) (scenes up_to)))
            ∙ ap (λ l. l ++ map (λ sized. sized.batch) (since_batches rules earlier up_to)) (sym (batches_are_shots rules earlier painted));
        beginning = (first.0, first.1 ∙ ap (λ (stations : List (Station V)). f.terminal.batches ++ (batches_of rules stations ++ first.0)) same);
        fresh = λ cuts v a before. heals_stations pen rows cuts v a (scenes earlier) (scenes up_to) measured last before h.in_sight (text_prompts rules earlier) h.cleared h.alike h.low;
      }

  pub healed_closings : HealedClosings rules pen
  healed_closings f rows earlier since station later measured last h none =
      let fresh = (drawn_healings f rows earlier since station later measured last h).fresh in
      let bottom : ℕ = sheet_last_row last.cols (painting_of pen last).sheet in
      let from_0 : 0 + bottom ≡ bottom = omega arith in (
        all_taken rules h.comes none ∙ ap (λ (stations : List (Station V)). f.terminal.batches ++ batches_of rules stations) (append_assoc earlier since (station ∷ [])),
        λ cuts v w a kept before wide. rw from_0 at (closes f rows cuts w 0 kept station last (play_since rules pen rows cuts v a earlier (since ++ station ∷ []) before)
            (run_closing f (earlier ++ since) station later h.comes none) wide h.in_sight (last_alike pen (sized_scene rules) since station measured last h.alike) (fresh cuts v a before).row),
      )
