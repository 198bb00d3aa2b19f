-- A terminal that is sent the bytes of a run shows the picture on which its batches were played, from a clearing on
-- whatever it showed.
use Rattle.std.proofs.Common.{◌≡◌, ◌≤◌, ◌<◌, ◌^◌, ℕ, false, Option, Some, None, List, [], ◌∷◌, ◌++◌, map, ap, subst, ◌∙◌, sym, refl, append_assoc, arith, ◌+◌, ◌-ℤ◌, pos, true, neg_ℤ, ◌&&◌, append-nil}
use Rattle.std.specs.List.{AllByRecursion}
use Rattle.std.proofs.lemmas.List.{map-append}
use Rattle.laws_screens.specs.Strokes.{PictureOf, InSight, steps_on, filled}
use Rattle.tw_surface.specs.ChangeView.{Batch, CursorPosition, ClearScreen}
use Rattle.tw_surface.specs.Paintings.{Mark, painting, mark_of, start_move, closing}
use Rattle.tw_surface.specs.PaintingBatches.{SizedScene, shot_of, scenes_of, shots, clearing, start_of, batches, batches_after, closing_of, shown_batches, clear_batch, closing_if, mark_after}
use Rattle.laws_screens.specs.PaintedAlike.{IsPaintedAs, ArePaintedAs}
use Rattle.laws_screens.specs.Pens.{Pen, strokes_of}
use Rattle.laws_screens.specs.Screens.{play_sized, blank_of, begins_cleared}
use Rattle.laws_screens.specs.SizedBatches.{SizedBatch, sized_at, sized_after, sized_batches}
use Rattle.laws_screens.proofs.SizedBatchLemmas.{sized_batches_are, sized_are}
use Rattle.tw_host.specs.HostRules.{HostRules}
use Rattle.tw_lineedit.specs.Frame.{Frame}
use Rattle.tw_lineedit.specs.Run.{run_of}
use Rattle.tw_lineedit.specs.ScreenRuns.{sized_scene, batches_of}
use Rattle.tw_lineedit.specs.Stations.{Station}
use Rattle.laws_runs.specs.DrawnRuns.{play_stations, play_since, closed_by, LandsBelow}
use Rattle.laws_runs.proofs.DrawnRunLemmas.{last_alike, drawn_paintings, run_closing, drawn_closings, drawn_healings, healed_closings}
use Rattle.tw_ansi.specs.declared.encode.Encoder.{Encoder}
use Rattle.tw_ansi.specs.EcmaLaws.{IsColor}
use Rattle.tw_ansi.specs.EcmaBatches.{CarriesAttributes, IsReached}
use Rattle.tw_ansi.specs.EcmaPaintings.{IsShowable, AreAllSendable, sent_batches, IsTypedScene}
use Rattle.tw_ansi.specs.EcmaScreen.{EcmaScreen, receive_all}
use Rattle.tw_ansi.specs.EcmaTexts.{ShowsPicture, JoinsMarks}
use Rattle.tw_ansi.proofs.EcmaPaintings.{run_is_sendable, batches_are_shown, painting_knows_color, closing_is_sendable, repainting_is_sendable, later_sendable}
use Rattle.laws_runs.proofs.ReachLemmas.{IsShowableAt, all_showable}
use Rattle.laws_runs.specs.SentRuns.{IsSentAt, HealsSent, ShowsSent, ShowsClosed, taken_since, PaintingsAreShown, sent_paintings, shown_by, ClosingsAreShown, HealingsAreShown, HealedClosingsAreShown}
use Rattle.laws_screens.specs.Sheets.{sheet_last_row, IsFreshSheet}
use Rattle.laws_screens.specs.Paintings.{IsClosedSheet, top_row}
use Rattle.tw_surface.specs.declared.cell.CellAttributes.{CellAttributes}
use Rattle.tw_surface.specs.declared.change.Position.TheVariants.{Absolute, Relative}
use Rattle.tw_surface.specs.Defaults.{default_color}
use Rattle.tw_surface.specs.Scenes.{Scene}
use Rattle.laws_screens.specs.SceneSheets.{painting_of}
use Rattle.tw_ansi.specs.Encoding.{Sent, sent_batch, sent_change, sent_then, at_column}
use Rattle.tw_ansi.proofs.KnownTerminals.{clear_keeps}
use Rattle.tw_ansi.proofs.EcmaSequences.{received}
use Rattle.std.proofs.lemmas.Bool.{ne_eqb, false≢true}
use Rattle.tw_ansi.specs.EcmaScreen as terminal
use Rattle.tw_ansi.proofs.EcmaClearings.{clears_all}

-- ---- one number of columns

module _ (w : ℕ) where
  -- the batches of such stations are those that come at w columns
  pub sized_uniformly : (mark : Option Mark) (xs : List SizedScene) → AllByRecursion (IsSentAt w) xs
      → sized_after mark xs ≡ sized_at w (batches_after mark (map shot_of xs))
  sized_uniformly mark [] a = refl
  sized_uniformly mark (x ∷ xs) a =
      let begun : List Batch = (start_of mark ++ (painting x.cols x.scene).changes) ∷ [] in
      let played : List Batch = clearing x.scene.cleared ++ begun in
      let next : Option Mark = Some (mark_of (painting x.cols x.scene)) in
      let rest : List Batch = batches_after next (map shot_of xs) in
      ap (λ n. sized_at n played ++ sized_after next xs) a.0.cols
      ∙ ap (λ l. sized_at w played ++ l) (sized_uniformly next xs a.1)
      ∙ sym (map-append (λ batch. record { cols = w; batch = batch }) played rest)
      ∙ ap (sized_at w) (append_assoc (clearing x.scene.cleared) begun rest)

  -- their paintings are those of their scenes at w columns
  pub shots_are : (xs : List SizedScene) → AllByRecursion (IsSentAt w) xs → map shot_of xs ≡ shots w (scenes_of xs)
  shots_are [] a = refl
  shots_are (x ∷ xs) a =
      ap (λ cols. record { painting = painting cols x.scene; cleared = x.scene.cleared } ∷ map shot_of xs) a.0.cols
      ∙ ap (λ l. record { painting = painting w x.scene; cleared = x.scene.cleared } ∷ l) (shots_are xs a.1)

-- stations that are showable are sent at their columns, and their scenes are showable
are_sent : (h w : ℕ) (xs : List SizedScene) → AllByRecursion (IsShowableAt h w) xs → AllByRecursion (IsSentAt w) xs
are_sent h w [] a = tt
are_sent h w (x ∷ xs) a = (record { cols = a.0.cols; typed = a.0.showable.typed }, are_sent h w xs a.1)

scenes_showable : (h w : ℕ) (xs : List SizedScene) → AllByRecursion (IsShowableAt h w) xs → AllByRecursion (IsShowable h w) (scenes_of xs)
scenes_showable h w [] a = tt
scenes_showable h w (x ∷ xs) a = (a.0.showable, scenes_showable h w xs a.1)

-- what holds of each of a list holds of its last one
pub last_of_all : {S T : Type 0} (P : T → Type 0) (view : S → T) (earlier : List S) (last : S) → AllByRecursion P (map view (earlier ++ last ∷ [])) → P (view last)
last_of_all P view [] last a = a.0
last_of_all P view (first ∷ more) last a = last_of_all P view more last a.1

module _ {A C : Type 0} (pen : Pen A C) where
  -- the first of some batches that are sendable
  first_sendable : (h w : ℕ) (xs ys : List Batch) (e : Encoder) (s : PictureOf C) → AreAllSendable pen h w e (xs ++ ys) s → AreAllSendable pen h w e xs s
  first_sendable h w [] ys e s a = tt
  first_sendable h w (x ∷ xs) ys e s a = (a.0, first_sendable h w xs ys _ _ a.1)

  -- the batches of such stations
  pub stations_sendable : (h w : ℕ) (xs : List SizedScene) (e : Encoder) (s : PictureOf C) → 0 < w → AllByRecursion (IsShowableAt h w) xs
      → IsColor e.attributes.background → s.col < w → AreAllSendable pen h w e (batches (map shot_of xs)) s
  stations_sendable h w xs e s some a color inside =
      subst (λ l. AreAllSendable pen h w e (batches l) s) (sym (shots_are w xs (are_sent h w xs a)))
      (first_sendable h w (shown_batches w (scenes_of xs)) (closing_of w (scenes_of xs)) e s
      (run_is_sendable pen h w (scenes_of xs) e s some (scenes_showable h w xs a) color inside))

  -- a terminal that is sent them
  stations_shown : (h w : ℕ) (xs : List SizedScene) (e : Encoder) (t : EcmaScreen C) (s : PictureOf C) → CarriesAttributes pen → JoinsMarks pen → 0 < w → w < 2 ^ 64
      → AllByRecursion (IsShowableAt h w) xs → IsColor e.attributes.background → s.col < w → ShowsPicture pen h w e t s
      → ShowsPicture pen h w (sent_batches (batches (map shot_of xs)) e).next (receive_all pen h w (sent_batches (batches (map shot_of xs)) e).bytes t)
      (play_sized (Some h) false pen w (pen.attributes e.attributes) (sized_batches xs) s)
  stations_shown h w xs e t s carries joins some narrow a color inside shows =
      let played : List Batch = batches (map shot_of xs) in
      subst (λ l. ShowsPicture pen h w (sent_batches played e).next (receive_all pen h w (sent_batches played e).bytes t) (play_sized (Some h) false pen w (pen.attributes e.attributes) l s))
      (sym (sized_uniformly w None xs (are_sent h w xs a)))
      (batches_are_shown pen h w played e t s carries joins some narrow (stations_sendable h w xs e s some a color inside) shows)

  module _ {V : Type 0} (rules : HostRules V) where
    -- the columns of the terminal are those of the last painting
    pub last_cols : (w : ℕ) (earlier : List (Station V)) (station : Station V) (measured : List SizedScene) (last : SizedScene)
        → ArePaintedAs pen (map (sized_scene rules) (earlier ++ station ∷ [])) (measured ++ last ∷ [])
        → AllByRecursion (IsSentAt w) (map (sized_scene rules) (earlier ++ station ∷ [])) → (last.cols ≡ w) × (2 ≤ w)
    last_cols w earlier station measured last alike sent =
        let it : IsPaintedAs pen (sized_scene rules station) last = last_alike pen (sized_scene rules) earlier station measured last alike in
        let is : last.cols ≡ w = it.cols ∙ (last_of_all (IsSentAt w) (sized_scene rules) earlier station sent).cols in
        (is, subst (λ n. 2 ≤ n) is it.measured.0)

    pub paintings_are_shown : PaintingsAreShown rules pen
    paintings_are_shown f h w earlier station later measured last e t before carries joins k =
        let stations = earlier ++ station ∷ [] in
        let xs : List SizedScene = map (sized_scene rules) stations in
        let drawn = drawn_paintings rules pen f (Some h) false w (pen.attributes e.attributes) earlier station later measured last before k.comes in
        let two : 2 ≤ w = (last_cols w earlier station measured last k.comes.alike k.sent).1 in
        let inside : before.col < w = omega (arith, k.comes.at_start, two) in
        let showable = all_showable pen h w k.high xs (measured ++ last ∷ []) k.comes.alike k.comes.low k.sent in
        let taken : batches (map shot_of xs) ≡ batches_of rules stations = sym (sized_batches_are xs) ∙ drawn.batches in (
          subst (λ l. ShowsPicture pen h w (sent_batches l e).next (receive_all pen h w (sent_batches l e).bytes t) (play_stations rules pen (Some h) false w (pen.attributes e.attributes) stations before))
              taken (stations_shown h w xs e t before carries joins (omega (arith, two)) k.narrow showable k.color inside k.shows),
          drawn,
        )

-- ---- to the end

-- batches, and then others
pub sent_both : (xs ys : List Batch) (e : Encoder) → sent_batches (xs ++ ys) e ≡ sent_then (sent_batches xs e) (sent_batches ys)
sent_both [] ys e = refl
sent_both (x ∷ xs) ys e =
    let next : Encoder = (sent_batch x e).next in
    let first : List ℕ = (sent_batch x e).bytes in
    let later : Sent = sent_batches ys (sent_batches xs next).next in
    ap (λ s. record { bytes = first ++ s.bytes; next = s.next }) (sent_both xs ys next)
    ∙ ap (λ bytes. record { bytes = bytes; next = later.next }) (sym (append_assoc first (sent_batches xs next).bytes later.bytes))

-- ---- the colour that is known

-- after a painting
pub begun_color : (mark : Option Mark) (w : ℕ) (scene : Scene) (e : Encoder) → IsTypedScene w scene
    → IsColor (sent_batch (start_of mark ++ (painting w scene).changes) e).next.attributes.background
begun_color None w scene e t = painting_knows_color w scene e t
begun_color (Some m) w scene e t = painting_knows_color w scene (sent_change (start_move m) e).next t

-- after a list of paintings
pub known_color : (w : ℕ) (mark : Option Mark) (xs : List SizedScene) (e : Encoder) → AllByRecursion (IsSentAt w) xs → IsColor e.attributes.background
    → IsColor (sent_batches (batches_after mark (map shot_of xs)) e).next.attributes.background
known_color w mark [] e a color = color
known_color w mark (x ∷ xs) e a color =
    let begun : Batch = start_of mark ++ (painting x.cols x.scene).changes in
    let next : Option Mark = Some (mark_of (painting x.cols x.scene)) in
    let rest : List Batch = batches_after next (map shot_of xs) in
    let typed : IsTypedScene x.cols x.scene = subst (λ n. IsTypedScene n x.scene) (sym a.0.cols) a.0.typed in
    elim x.scene.cleared as (λ cleared. IsColor (sent_batches (clearing cleared ++ begun ∷ rest) e).next.attributes.background) [
      | true ↦ known_color w next xs _ a.1 (begun_color mark x.cols x.scene (sent_batch clear_batch e).next typed)
      | false ↦ known_color w next xs _ a.1 (begun_color mark x.cols x.scene e typed)
    ]

-- ---- the closing batch

-- after the closing batch
pub closing_color : (taken : List Batch) (m : Mark) (e : Encoder) → IsColor (sent_batches taken e).next.attributes.background
    → IsColor (sent_batches (taken ++ closing m ∷ []) e).next.attributes.background
closing_color taken m e color = subst (λ (s : Sent). IsColor s.next.attributes.background) (sym (sent_both taken (closing m ∷ []) e))
    (subst (λ (c : CellAttributes). IsColor c.background) (sym (clear_keeps default_color (sent_change (CursorPosition (Absolute 0) (Relative (pos (1 + m.height) -ℤ m.row))) (sent_batches taken e).next).next)) color)

module _ {A C : Type 0} (pen : Pen A C) where
  -- a terminal that is sent a closing batch after some bytes
  pub closing_shown : (h w : ℕ) (taken : List Batch) (m : Mark) (e : Encoder) (t : EcmaScreen C) (shown : PictureOf C) → CarriesAttributes pen → JoinsMarks pen → 0 < w → w < 2 ^ 64
      → IsReached h (Relative (pos (1 + m.height) -ℤ m.row)) → IsColor (sent_batches taken e).next.attributes.background
      → ShowsPicture pen h w (sent_batches taken e).next (receive_all pen h w (sent_batches taken e).bytes t) shown
      → ShowsPicture pen h w (sent_batches (taken ++ closing m ∷ []) e).next (receive_all pen h w (sent_batches (taken ++ closing m ∷ []) e).bytes t)
      (play_sized (Some h) false pen w (pen.attributes (sent_batches taken e).next.attributes) (sized_at w (closing m ∷ [])) shown)
  closing_shown h w taken m e t shown carries joins some narrow under color shows =
      let first : Sent = sent_batches taken e in
      let closed : PictureOf C = play_sized (Some h) false pen w (pen.attributes first.next.attributes) (sized_at w (closing m ∷ [])) shown in
      let last : Sent = sent_batches (closing m ∷ []) first.next in
      subst (λ (s : Sent). ShowsPicture pen h w s.next (receive_all pen h w s.bytes t) closed) (sym (sent_both taken (closing m ∷ []) e))
      (subst (λ u. ShowsPicture pen h w last.next u closed) (sym (received pen h w first.bytes last.bytes t))
      (batches_are_shown pen h w (closing m ∷ []) first.next (receive_all pen h w first.bytes t) shown carries joins some narrow
      (closing_is_sendable pen h w m first.next shown some under color, tt) shows))

  module _ {V : Type 0} (rules : HostRules V) where
    -- the closing batch of a run is sent after some batches, and leaves the cursor in the row below the last painting
    end_shown : (f : Frame V) (h w : ℕ) (earlier : List (Station V)) (station : Station V) (measured : List SizedScene) (last : SizedScene) (taken : List Batch) (bottom : ℕ → ℕ)
        (e : Encoder) (t : EcmaScreen C) (shown : PictureOf C) → CarriesAttributes pen → JoinsMarks pen → w < 2 ^ 64
        → closing_if (run_of rules f).mark ≡ closing (mark_of (painting station.size.cols (sized_scene rules station).scene)) ∷ []
        → ArePaintedAs pen (map (sized_scene rules) (earlier ++ station ∷ [])) (measured ++ last ∷ []) → AllByRecursion (IsShowableAt h w) (map (sized_scene rules) (earlier ++ station ∷ []))
        → let sent = sent_batches taken e in
        let kept = pen.attributes sent.next.attributes in
        IsColor sent.next.attributes.background → ShowsSent pen h w sent t shown → LandsBelow rules pen (Some h) false last.cols w kept f (bottom last.cols) shown
        → ShowsClosed pen h w (sent_batches (taken ++ closing_if (run_of rules f).mark) e) t (bottom w) shown (closed_by rules pen (Some h) false w w kept f shown)
    end_shown f h w earlier station measured last taken bottom e t shown carries joins narrow is alike sent color shows below =
        let kept = pen.attributes (sent_batches taken e).next.attributes in
        let cols = last_cols pen rules w earlier station measured last alike (are_sent h w (map (sized_scene rules) (earlier ++ station ∷ [])) sent) in
        let m : Mark = mark_of (painting station.size.cols (sized_scene rules station).scene) in
        let here : IsShowableAt h w (sized_scene rules station) = last_of_all (IsShowableAt h w) (sized_scene rules) earlier station sent in
        let under : IsReached h (Relative (pos (1 + m.height) -ℤ m.row)) =
        subst (λ n. let p = painting n (sized_scene rules station).scene in IsReached h (Relative (pos (1 + p.height) -ℤ p.row))) (sym here.cols) here.showable.under in (
          rw is (closing_shown h w taken m e t shown carries joins (omega (arith, cols.1)) narrow under color shows),
          subst (λ n. IsClosedSheet (Some h) w (blank_of pen) (bottom n) shown (closed_by rules pen (Some h) false n w kept f shown)) cols.0 below,
          rw is (closing_color taken m e color),
        )

    pub closings_are_shown : ClosingsAreShown rules pen
    closings_are_shown f h w earlier station later measured last e t before carries joins k none =
        let stations = earlier ++ station ∷ [] in
        let xs : List SizedScene = map (sized_scene rules) stations in
        let painted = paintings_are_shown pen rules f h w earlier station later measured last e t before carries joins k in
        let kept = pen.attributes (sent_paintings rules stations e).next.attributes in
        let wide = (last_cols pen rules w earlier station measured last k.comes.alike k.sent).1 in
        let taken : batches (map shot_of xs) ≡ batches_of rules stations = sym (sized_batches_are xs) ∙ painted.1.batches in
        let color = subst (λ l. IsColor (sent_batches l e).next.attributes.background) taken (known_color w None xs e k.sent k.color) in
        let showable = all_showable pen h w k.high xs (measured ++ last ∷ []) k.comes.alike k.comes.low k.sent in
        let top : ℕ = top_row (Some h) before.row (map (painting_of pen) (measured ++ last ∷ [])) in
        let drawn = drawn_closings rules pen f (Some h) false w w (pen.attributes e.attributes) kept earlier station later measured last before k.comes none wide in (
          drawn.0,
          end_shown f h w earlier station measured last (batches_of rules stations) (λ n. top + sheet_last_row n (painting_of pen last).sheet) e t (shown_by rules pen h w e stations before) carries joins k.narrow
              (run_closing rules pen f earlier station later k.comes.comes none) k.comes.alike showable color painted.0 drawn.1,
        )

-- ---- a terminal that may show anything, after a clearing

module _ {A C : Type 0} (pen : Pen A C) where
  -- a terminal once its screen is cleared
  abbrev pub emptied : EcmaScreen C → EcmaScreen C
  emptied t = record t { cell = λ r c. blank_of pen; row = 0; col = 0; waits = false; reading = terminal.Text }

  -- the bytes of the clearing empty it
  pub cleared_by : (h w : ℕ) (e : Encoder) (t : EcmaScreen C) → IsColor e.attributes.background → t.reading ≡ terminal.Text → t.rendition ≡ e.attributes
      → receive_all pen h w (sent_batch clear_batch e).bytes t ≡ emptied t
  cleared_by h w e t color reading rendition =
      let bytes : List ℕ = (sent_batch clear_batch e).bytes in
      let rest : EcmaScreen C = record t { reading = terminal.Text; rendition = e.attributes } in
      let is : t ≡ rest = ap (λ r. record t { reading = r }) reading ∙ ap (λ a. record t { reading = terminal.Text; rendition = a }) rendition in
      let clear : List ℕ = (sent_change (ClearScreen default_color) e).bytes in
      ap (receive_all pen h w bytes) is ∙ ap (λ l. receive_all pen h w l rest) (append-nil clear) ∙ clears_all pen h w default_color rest tt color ∙ sym (ap emptied is)

  -- it then shows an empty picture
  empty_shown : (h w : ℕ) (e : Encoder) (t : EcmaScreen C) → 0 < h → 0 < w → t.rendition ≡ e.attributes → e.cols ≡ w
      → ShowsPicture pen h w (at_column 0 e) (emptied t) (filled (blank_of pen))
  empty_shown h w e t tall some rendition cols = record {
    within = record { row = tall; below = λ r c low. refl };
    edge = omega arith;
    cells = λ r c low inside. refl;
    row = refl;
    col = omega arith;
    waits = sym (ap (λ edge. edge && true) (ne_eqb 0 w (λ none. omega (arith, none, some))));
    parted = λ parted. absurd (false≢true parted);
    reading = refl;
    rendition = rendition;
    cols = cols;
    x = refl;
  }

  -- stations after a mark, from a clearing on, are sendable
  since_sendable : (h w : ℕ) (mark : Option Mark) (xs : List SizedScene) (e : Encoder) (s : PictureOf C) → 0 < w → AllByRecursion (IsShowableAt h w) xs → begins_cleared xs ≡ true
      → ((m : Mark) → mark ≡ Some m → IsReached h (Relative (neg_ℤ m.row))) → IsColor e.attributes.background → s.col < w
      → AreAllSendable pen h w e (batches_after mark (map shot_of xs)) s
  since_sendable h w None xs e s some a cleared back color inside = stations_sendable pen h w xs e s some a color inside
  since_sendable h w (Some m) [] e s some a cleared back color inside = tt
  since_sendable h w (Some m) (x ∷ xs) e s some a cleared back color inside =
      let begun : Batch = start_move m ∷ (painting x.cols x.scene).changes in
      let rest : List Batch = batches_after (Some (mark_of (painting x.cols x.scene))) (map shot_of xs) in
      let drawn : PictureOf C = steps_on (Some h) w (strokes_of pen (pen.attributes e.attributes) clear_batch) s in
      let next : Encoder = (sent_batch clear_batch e).next in
      let known : Encoder = (sent_batch begun next).next in
      let is : painting w x.scene ≡ painting x.cols x.scene = ap (λ cols. painting cols x.scene) (sym a.0.cols) in
      let first = subst (λ p. AreAllSendable pen h w next ((start_move m ∷ p.changes) ∷ []) drawn) is
      (repainting_is_sendable pen h w m x.scene next drawn some a.0.showable.typed a.0.showable.near (back m refl) color, tt) in
      let colored : IsColor known.attributes.background = painting_knows_color x.cols x.scene (sent_change (start_move m) next).next
      (subst (λ n. IsTypedScene n x.scene) (sym a.0.cols) a.0.showable.typed) in
      let shown : PictureOf C = steps_on (Some h) w (strokes_of pen (pen.attributes next.attributes) begun) drawn in
      let later : AreAllSendable pen h w known rest shown =
      subst (λ (p : _). AreAllSendable pen h w known (batches_after (Some (mark_of p)) (map shot_of xs)) shown) is
      (subst (λ l. AreAllSendable pen h w known (batches_after (Some (mark_of (painting w x.scene))) l) shown) (sym (shots_are w xs (are_sent h w xs a.1)))
      (subst (λ l. AreAllSendable pen h w known l shown) (append-nil (batches_after (Some (mark_of (painting w x.scene))) (shots w (scenes_of xs))))
      (later_sendable pen h w some [] (λ d r colour. tt) x.scene (scenes_of xs) a.0.showable (scenes_showable h w xs a.1) known shown colored))) in
      subst (λ t. AreAllSendable pen h w e (clearing t ++ begun ∷ rest) s) (sym cleared) (((tt, color, refl), tt), (first.0, later))

  -- what a terminal shows that was empty, it shows whatever it was
  from_anything : (h w : ℕ) (mark : Option Mark) (xs : List SizedScene) (e : Encoder) (t : EcmaScreen C) (s : PictureOf C) → begins_cleared xs ≡ true
      → IsColor e.attributes.background → t.reading ≡ terminal.Text → t.rendition ≡ e.attributes
      → let played = batches_after mark (map shot_of xs) in
      let known = sent_batches played (at_column 0 e) in
      ShowsPicture pen h w known.next (receive_all pen h w known.bytes (emptied t)) s
      → ShowsPicture pen h w (sent_batches played e).next (receive_all pen h w (sent_batches played e).bytes t) s
  from_anything h w mark [] e t s cleared color reading rendition shows = absurd (false≢true cleared)
  from_anything h w mark (x ∷ xs) e t s cleared color reading rendition shows =
      let more : List Batch = (start_of mark ++ (painting x.cols x.scene).changes) ∷ batches_after (Some (mark_of (painting x.cols x.scene))) (map shot_of xs) in
      let clear : List ℕ = (sent_batch clear_batch e).bytes in
      let rest : Sent = sent_batches more (at_column 0 e) in
      let same : receive_all pen h w (clear ++ rest.bytes) (emptied t) ≡ receive_all pen h w (clear ++ rest.bytes) t =
      received pen h w clear rest.bytes (emptied t)
      ∙ ap (receive_all pen h w rest.bytes) (cleared_by h w e (emptied t) color refl rendition ∙ sym (cleared_by h w e t color reading rendition))
      ∙ sym (received pen h w clear rest.bytes t) in
      subst (λ c. let played = clearing c ++ more in
      let known = sent_batches played (at_column 0 e) in
      ShowsPicture pen h w known.next (receive_all pen h w known.bytes (emptied t)) s
      → ShowsPicture pen h w (sent_batches played e).next (receive_all pen h w (sent_batches played e).bytes t) s) (sym cleared)
      (λ given. subst (λ u. ShowsPicture pen h w rest.next u s) same given) shows

  -- so it shows what the batches of stations leave on an empty picture, from a clearing on, whatever it was
  healed_by : (h w : ℕ) (mark : Option Mark) (xs : List SizedScene) (e : Encoder) (t : EcmaScreen C) → CarriesAttributes pen → JoinsMarks pen → 2 ≤ w → w < 2 ^ 64 → InSight (Some h) 0
      → AllByRecursion (IsShowableAt h w) xs → begins_cleared xs ≡ true → ((m : Mark) → mark ≡ Some m → IsReached h (Relative (neg_ℤ m.row)))
      → IsColor e.attributes.background → t.reading ≡ terminal.Text → t.rendition ≡ e.attributes → e.cols ≡ w
      → ShowsSent pen h w (sent_batches (map (λ sized. sized.batch) (sized_after mark xs)) e) t (play_sized (Some h) false pen w (pen.attributes e.attributes) (sized_after mark xs) (filled (blank_of pen)))
  healed_by h w mark xs e t carries joins two narrow sight sent cleared back color reading rendition cols =
      let first : Encoder = at_column 0 e in
      let played : List Batch = batches_after mark (map shot_of xs) in
      let empty : PictureOf C = filled (blank_of pen) in
      let picture : List SizedBatch → PictureOf C = λ sized. play_sized (Some h) false pen w (pen.attributes e.attributes) sized empty in
      let sendable : AreAllSendable pen h w first played empty = since_sendable h w mark xs first empty (omega (arith, two)) sent cleared back color (omega (arith, two)) in
      let shown = batches_are_shown pen h w played first (emptied t) empty carries joins (omega (arith, two)) narrow sendable (empty_shown h w e t sight (omega (arith, two)) rendition cols) in
      subst (λ l. ShowsSent pen h w (sent_batches l e) t (picture (sized_after mark xs))) (sym (sized_are mark xs))
      (subst (λ sized. ShowsSent pen h w (sent_batches played e) t (picture sized)) (sym (sized_uniformly w mark xs (are_sent h w xs sent)))
      (from_anything h w mark xs e t (picture (sized_at w played)) cleared color reading rendition shown))

  module _ {V : Type 0} (rules : HostRules V) where
    -- it shows a fresh painting
    healing_shown : (f : Frame V) (h w : ℕ) (earlier since : List (Station V)) (station : Station V) (later : List (Station V)) (measured : List SizedScene) (last : SizedScene)
        (e : Encoder) (t : EcmaScreen C) → CarriesAttributes pen → JoinsMarks pen → HealsSent rules pen h w f earlier since station later measured last e t
        → let picture = play_since rules pen (Some h) false w (pen.attributes e.attributes) earlier (since ++ station ∷ []) (filled (blank_of pen)) in
        ShowsSent pen h w (sent_batches (taken_since rules earlier since station) e) t picture × IsFreshSheet w 0 (blank_of pen) (painting_of pen last).sheet picture
    healing_shown f h w earlier since station later measured last e t carries joins k =
        let a = pen.attributes e.attributes in
        let cols = last_cols pen rules w since station measured last k.comes.alike k.sent in
        let showable = all_showable pen h w k.high (map (sized_scene rules) (since ++ station ∷ [])) (measured ++ last ∷ []) k.comes.alike k.comes.low k.sent in
        let fresh = (drawn_healings rules pen f (Some h) earlier since station later measured last k.comes).fresh false w a (filled (blank_of pen)) in (
          healed_by h w (mark_after None (map shot_of (map (sized_scene rules) earlier))) (map (sized_scene rules) (since ++ station ∷ [])) e t carries joins cols.1 k.narrow k.comes.in_sight showable k.comes.cleared
              k.back k.color k.reading k.rendition k.cols,
          subst (λ n. IsFreshSheet n 0 (blank_of pen) (painting_of pen last).sheet (play_since rules pen (Some h) false w a earlier (since ++ station ∷ []) (filled (blank_of pen)))) cols.0 fresh,
        )

    pub healings_are_shown : HealingsAreShown rules pen
    healings_are_shown f h w earlier since station later measured last e t carries joins k =
        let healed = healing_shown f h w earlier since station later measured last e t carries joins k in (_, healed.0, healed.1)

    pub healed_closings_are_shown : HealedClosingsAreShown rules pen
    healed_closings_are_shown f h w earlier since station later measured last e t carries joins k none =
        let mark : Option Mark = mark_after None (map shot_of (map (sized_scene rules) earlier)) in
        let xs : List SizedScene = map (sized_scene rules) (since ++ station ∷ []) in
        let a = pen.attributes e.attributes in
        let shown : PictureOf C = play_since rules pen (Some h) false w a earlier (since ++ station ∷ []) (filled (blank_of pen)) in
        let healed = healing_shown f h w earlier since station later measured last e t carries joins k in
        let taken : List Batch = taken_since rules earlier since station in
        let kept = pen.attributes (sent_batches taken e).next.attributes in
        let color = subst (λ l. IsColor (sent_batches l e).next.attributes.background) (sym (sized_are mark xs)) (known_color w mark xs e k.sent k.color) in
        let showable = all_showable pen h w k.high xs (measured ++ last ∷ []) k.comes.alike k.comes.low k.sent in
        let wide = (last_cols pen rules w since station measured last k.comes.alike k.sent).1 in
        let below = (healed_closings rules pen f (Some h) earlier since station later measured last k.comes none).1 false w w a kept (filled (blank_of pen)) wide in (
          shown,
          _,
          healed.1,
          end_shown pen rules f h w since station measured last taken (λ n. sheet_last_row n (painting_of pen last).sheet) e t shown carries joins k.narrow
              (run_closing rules pen f (earlier ++ since) station later k.comes.comes none) k.comes.alike showable color healed.0 below,
        )
