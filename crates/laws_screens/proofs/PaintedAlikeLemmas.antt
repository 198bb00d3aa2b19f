-- The batches of stations draw the paintings of the measured ones as which they are painted, one over the other.
use Rattle.std.proofs.Common.{◌≡◌, ℕ, suc, ℤ, pos, negsuc, ◌≤ℤ◌, true, Option, Some, None, List, [], ◌∷◌, ◌++◌, map, refl, ap, ◌∙◌, arith, ◌+ℤ◌, neg_ℤ, ◌+◌, Bool, false, sym, subst, if◌then◌else◌}
use Rattle.std.proofs.lemmas.Bool.Decides.{nat_tests}
use Rattle.std.specs.List.{list_all, All}
use Rattle.std.proofs.lemmas.Int.{ints}
use Rattle.std.proofs.lemmas.List.{map-append}
use Rattle.tw_surface.specs.ChangeView.{AllAttributes, Batch}
use Rattle.tw_surface.specs.Defaults.{default_attributes}
use Rattle.tw_surface.specs.Paintings.{cursor_place, painting, Mark, mark_of, closing}
use Rattle.tw_surface.specs.PaintingBatches.{Shot, SizedScene, shot_of, mark_after, closing_batch, clearing, start_of}
use Rattle.tw_surface.specs.Positions.{at_least_0}
use Rattle.tw_surface.specs.Scenes.{Scene, is_text}
use Rattle.laws_screens.specs.Screens.{HasTextPrompt, blank_of, play_sized, HasRoom, paintings_to, begins_cleared, ShowsStations, HealsStations, ClosesStations}
use Rattle.laws_screens.specs.StyledCells.{characters}
use Rattle.laws_screens.proofs.DrawnScenes.{text-append, tracks-clear, painting_is, is_led}
use Rattle.std.proofs.lemmas.List.Elements.{All-head, All-tail}
use Rattle.tw_surface.specs.declared.change.Position.TheVariants.{Relative}
use Rattle.laws_screens.specs.Glyphs.{IsMeasuredWide}
use Rattle.laws_screens.specs.PaintedAlike.{ArePaintedAs, MeasuredIsItself}
use Rattle.laws_screens.specs.Paintings.{SheetPainting, painting_strokes, paint_all, top_row, cols_of, last_painting, AreShownOver, IsClosedSheet}
use Rattle.laws_screens.specs.Pens.{Pen, kept_after_all, strokes_of, led}
use Rattle.laws_screens.specs.SceneSheets.{painting_of}
use Rattle.laws_screens.specs.Sheets.{IsFreshSheet, sheet_last_row}
use Rattle.laws_screens.specs.SizedBatches.{SizedBatch, sized_at, sized_after}
use Rattle.laws_screens.specs.Strokes.{PictureOf, filled, scrolled, steps_on, InSight, resized, narrowest}
use Rattle.laws_screens.specs.Strokes.Stroke.{Move}
use Rattle.laws_screens.proofs.PaintedLists.{AreFit, IsBefore, in-sight-below, top-le, painted_all}
use Rattle.laws_screens.proofs.PaintedSheets.{closed}

-- the cursor of a painting is not above its first row, whatever its texts hold
cursor-down : (cols : ℕ) (scene : Scene) → list_all is_text scene.prompt ≡ true → pos 0 ≤ℤ (cursor_place cols scene).y
cursor-down cols scene h =
    let texts = text-append scene.prompt (AllAttributes default_attributes ∷ []) h refl in
    omega (arith, ints, (tracks-clear characters cols tt (AllAttributes default_attributes ∷ (scene.prompt ++ AllAttributes default_attributes ∷ [])) texts).y)

-- the painting before, if there was one, left the cursor in its first row or below
abbrev IsDown : Option Mark → Type 0
IsDown None = Unit {0}
IsDown (Some m) = pos 0 ≤ℤ m.row

stations-down : (earlier : Option Mark) (xs : List SizedScene) → IsDown earlier → All HasTextPrompt xs → IsDown (mark_after earlier (map shot_of xs))
stations-down earlier [] down a = down
stations-down earlier (x ∷ xs) down a =
    stations-down (Some (mark_of (painting x.cols x.scene))) xs (cursor-down x.cols x.scene (a 0 x (omega arith))) (λ k d q. a (suc k) d (omega arith))

none_above : (z : ℤ) → z ≤ℤ pos 0 → at_least_0 z ≡ 0
none_above (pos n) h = omega (arith, ints)
none_above (negsuc n) h = refl

-- ---- what closes them

closing_of_last : (shots : List Shot) (shot : Shot) → closing_batch (shots ++ shot ∷ []) ≡ closing (mark_of shot.painting) ∷ []
closing_of_last [] shot = refl
closing_of_last (x ∷ []) shot = refl
closing_of_last (x ∷ y ∷ more) shot = closing_of_last (y ∷ more) shot

pub closing_is : (earlier : List SizedScene) (station : SizedScene) → closing_batch (map shot_of (earlier ++ station ∷ [])) ≡ closing (mark_of (painting station.cols station.scene)) ∷ []
closing_is earlier station = ap closing_batch (map-append shot_of earlier (station ∷ [])) ∙ closing_of_last (map shot_of earlier) (shot_of station)

-- the move back that a mark tells
abbrev back_of : Option Mark → Option (ℕ → ℕ)
back_of None = None
back_of (Some m) = Some (led (Relative (neg_ℤ m.row)))

-- one cell everywhere is not scrolled
filled-still : {C : Type 0} (rows : Option ℕ) (b : C) → InSight rows 0 → scrolled rows (filled b) ≡ filled b
filled-still None b some = refl
filled-still (Some h) b some = grind (arith, some)

module _ {A C : Type 0} (pen : Pen A C) where
  abbrev b : C
  b = blank_of pen

  -- ---- measured stations

  pub measured_is_itself : MeasuredIsItself pen
  measured_is_itself station measured = record { cols = refl; cleared = refl; measured = measured; alike = record { strokes = begun; mark = refl } }
    where
      begun : (a c : A) (before : Option Mark)
          → strokes_of pen a (start_of before ++ (painting station.cols station.scene).changes) ≡ strokes_of pen c (start_of before ++ (painting station.cols station.scene).changes)
      begun a c None = refl
      begun a c (Some m) = refl

  -- a list of them, too
  pub are_themselves : (stations : List SizedScene) → All IsMeasuredWide stations → ArePaintedAs pen stations stations
  are_themselves [] wide = tt
  are_themselves (station ∷ more) wide = (measured_is_itself station (All-head IsMeasuredWide station more wide), are_themselves more (All-tail IsMeasuredWide station more wide))

  -- the strokes of one painting, from whatever is kept
  station_strokes : (a : A) (mark : Option Mark) (station : SizedScene) → IsMeasuredWide station
      → strokes_of pen a (start_of mark ++ (painting station.cols station.scene).changes) ≡ painting_strokes b (back_of mark) (painting_of pen station)
  station_strokes a None station k = painting_is pen station.cols station.scene k.0 k.1 a _ _
  station_strokes a (Some m) station k = ap (λ l. Move (led (Relative (neg_ℤ m.row))) (λ c. 0) ∷ l) (painting_is pen station.cols station.scene k.0 k.1 a _ _)

  -- ---- what batches draw

  -- the screen on which a painting begins
  abbrev begun_at : Bool → ℕ → ℕ → Bool → PictureOf C → PictureOf C
  begun_at cuts v cols cleared t = if cleared then resized cuts b cols cols (filled b) else resized cuts b v cols t

  -- the batch of a painting, behind that of a clearing where it is cleared
  first_batch : (rows : Option ℕ) (cuts : Bool) (v : ℕ) (a : A) (cols : ℕ) (cleared : Bool) (batch : Batch) (later : List SizedBatch) (t : PictureOf C) → InSight rows 0
      → play_sized rows cuts pen v a (sized_at cols (clearing cleared ++ batch ∷ []) ++ later) t
      ≡ play_sized rows cuts pen cols (kept_after_all pen a batch) later (steps_on rows cols (strokes_of pen a batch) (begun_at cuts v cols cleared t))
  first_batch rows cuts v a cols cleared batch later t some = grind (arith, nat_tests, filled-still rows b some)

  drawn : (rows : Option ℕ) (cuts : Bool) (v : ℕ) (a : A) (mark : Option Mark) (stations others : List SizedScene) (t : PictureOf C) → InSight rows 0 → ArePaintedAs pen stations others
      → play_sized rows cuts pen v a (sized_after mark stations) t ≡ paint_all rows cuts b v (back_of mark) (map (painting_of pen) others) t
  drawn rows cuts v a mark [] [] t some k = refl
  drawn rows cuts v a mark (station ∷ more) (other ∷ others) t some k =
      let cols : ℕ = station.cols in
      let here : SizedScene = record { scene = other.scene; cols = cols } in
      let batch : Batch = start_of mark ++ (painting cols station.scene).changes in
      let m : Mark = mark_of (painting cols station.scene) in
      let strokes : strokes_of pen a batch ≡ painting_strokes b (back_of mark) (painting_of pen here) =
      k.0.alike.strokes a a mark ∙ station_strokes a mark here (subst (λ n. IsMeasuredWide (record { scene = other.scene; cols = n })) k.0.cols k.0.measured) in
      cc (
        first_batch rows cuts v a cols station.scene.cleared batch (sized_after (Some m) more) t some,
        drawn rows cuts cols (kept_after_all pen a batch) (Some m) more others (steps_on rows cols (strokes_of pen a batch) (begun_at cuts v cols station.scene.cleared t)) some k.1,
        k.0.alike.mark,
        strokes,
        k.0.cleared,
        k.0.cols,
      )
  drawn rows cuts v a mark _ _ t some k = absurd k

  -- ---- what they leave

  fit : (rows : Option ℕ) (stations others : List SizedScene) → ArePaintedAs pen stations others → All (HasRoom rows pen) others → AreFit rows b (map (painting_of pen) others)
  fit rows [] [] k room = tt
  fit rows (station ∷ more) (other ∷ others) k room = (
    record { led = is_led pen other.cols other.scene k.0.measured.0 k.0.measured.1 other.scene.cleared; low = All-head (HasRoom rows pen) other others room },
    fit rows more others k.1 (All-tail (HasRoom rows pen) other others room),
  )
  fit rows _ _ k room = absurd k

  -- stations after any painting, where the first one begins as it should
  shown : (rows : Option ℕ) (cuts : Bool) (v e : ℕ) (a : A) (mark : Option Mark) (stations measured : List SizedScene) (last : SizedScene) (t : PictureOf C)
      → InSight rows e → ArePaintedAs pen stations (measured ++ last ∷ []) → All (HasRoom rows pen) (measured ++ last ∷ []) → IsBefore (begins_cleared stations) e (back_of mark) t
      → let paintings = paintings_to pen measured last in
      AreShownOver cuts b (narrowest v (cols_of paintings)) e (top_row rows e paintings) (painting_of pen last) t (play_sized rows cuts pen v a (sized_after mark stations) t)
  shown rows cuts v e a mark [] [] last t low k room before = absurd k
  shown rows cuts v e a mark [] (first ∷ more) last t low k room before = absurd k
  shown rows cuts v e a mark (station ∷ stations) [] last t low k room before =
      rw (drawn rows cuts v a mark (station ∷ stations) (last ∷ []) t (in-sight-below rows e 0 (omega arith) low) k)
      (painted_all rows cuts b v e (back_of mark) (painting_of pen last) [] t (fit rows (station ∷ stations) (last ∷ []) k room) low (subst (λ c. IsBefore c e (back_of mark) t) (sym k.0.cleared) before))
  shown rows cuts v e a mark (station ∷ stations) (first ∷ more) last t low k room before =
      let all : List SizedScene = first ∷ more ++ last ∷ [] in
      rw (drawn rows cuts v a mark (station ∷ stations) all t (in-sight-below rows e 0 (omega arith) low) k)
      (rw (last_is first more) at
      (painted_all rows cuts b v e (back_of mark) (painting_of pen first) (map (painting_of pen) (more ++ last ∷ [])) t (fit rows (station ∷ stations) all k room) low
      (subst (λ c. IsBefore c e (back_of mark) t) (sym k.0.cleared) before)))
    where
      last_is : (first : SizedScene) (more : List SizedScene) → last_painting (painting_of pen first) (map (painting_of pen) (more ++ last ∷ [])) ≡ painting_of pen last
      last_is first [] = refl
      last_is first (next ∷ more) = last_is next more

  pub shows_stations : ShowsStations pen
  shows_stations rows cuts v a stations measured last before col low same room =
      shown rows cuts v before.row a None stations measured last before low same room (at_first (begins_cleared stations))
    where
      at_first : (cleared : Bool) → IsBefore cleared before.row None before
      at_first true = tt
      at_first false = (refl, col)

  pub heals_stations : HealsStations pen
  heals_stations rows cuts v a earlier stations measured last before some texts cleared same room =
      let mark : Option Mark = mark_after None (map shot_of earlier) in
      let paintings : List (SheetPainting C) = paintings_to pen measured last in
      let start : IsBefore (begins_cleared stations) 0 (back_of mark) before = subst (λ x. IsBefore x 0 (back_of mark) before) (sym cleared) (to_top mark (stations-down None earlier tt texts)) in
      let top : top_row rows 0 paintings ≡ 0 = omega (arith, top-le rows 0 paintings) in
      subst (λ s. IsFreshSheet last.cols s b (painting_of pen last).sheet (play_sized rows cuts pen v a (sized_after mark stations) before)) top
      (shown rows cuts v 0 a mark stations measured last before some same room start).fresh
    where
      -- after a clearing, whatever was painted before
      to_top : (mark : Option Mark) → IsDown mark → IsBefore true 0 (back_of mark) before
      to_top None down = tt
      to_top (Some m) down = none_above (pos 0 +ℤ neg_ℤ m.row) (omega (arith, ints, down))

  pub closes_stations : ClosesStations pen
  closes_stations rows w s a station other before two some k row =
      let sheet = (painting_of pen other).sheet in
      let mark : mark_of (painting station.cols station.scene) ≡ mark_of (painting other.cols other.scene) =
      k.alike.mark ∙ ap (λ n. mark_of (painting n other.scene)) (sym k.cols) in
      subst (λ m. IsClosedSheet rows w b (s + sheet_last_row other.cols sheet) before (steps_on rows w (strokes_of pen a (closing m)) before)) (sym mark)
      (closed rows b w s (painting_of pen other) before two (is_led pen other.cols other.scene k.measured.0 k.measured.1 other.scene.cleared) some row)
