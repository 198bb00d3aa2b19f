-- What a terminal shows that is sent the bytes of a run's batches.
use Rattle.std.specs.Prelude.{◌≡◌, ◌<◌, ◌≤◌, ◌+◌, ◌^◌, neg_ℤ, ℕ, Some, None, false, List, [], ◌∷◌, ◌++◌, map}
use Rattle.std.specs.List.{All, AllByRecursion}
use Rattle.laws_screens.specs.Strokes.{PictureOf}
use Rattle.laws_screens.specs.Sheets.{IsFreshSheet, sheet_last_row}
use Rattle.laws_screens.specs.Paintings.{IsClosedSheet, top_row}
use Rattle.tw_surface.specs.declared.change.Position.TheVariants.{Relative}
use Rattle.tw_surface.specs.ChangeView.{Batch}
use Rattle.tw_surface.specs.Paintings.{Mark}
use Rattle.tw_surface.specs.PaintingBatches.{SizedScene, shot_of, mark_after, closing_if}
use Rattle.laws_screens.specs.Pens.{Pen}
use Rattle.laws_screens.specs.SceneSheets.{painting_of}
use Rattle.laws_screens.specs.Screens.{blank_of, paintings_to}
use Rattle.tw_host.specs.HostRules.{HostRules}
use Rattle.tw_lineedit.specs.Frame.{Frame}
use Rattle.tw_lineedit.specs.Run.{run_of}
use Rattle.tw_lineedit.specs.ScreenRuns.{sized_scene, batches_of, RendersNothing}
use Rattle.tw_lineedit.specs.Stations.{Station}
use Rattle.laws_runs.specs.DrawnRuns.{play_stations, closed_by, since_batches, TakesAll, ComesMeasured, ComesHealed, ShowsDrawn}
use Rattle.tw_ansi.specs.declared.encode.Encoder.{Encoder}
use Rattle.tw_ansi.specs.Encoding.{Sent}
use Rattle.tw_ansi.specs.Sequences.{most_rows}
use Rattle.tw_ansi.specs.EcmaLaws.{IsColor}
use Rattle.tw_ansi.specs.EcmaBatches.{CarriesAttributes, IsReached}
use Rattle.tw_ansi.specs.EcmaPaintings.{IsTypedScene, sent_batches}
use Rattle.tw_ansi.specs.EcmaScreen.{EcmaScreen, receive_all}
use Rattle.tw_ansi.specs.EcmaScreen as terminal
use Rattle.tw_ansi.specs.EcmaTexts.{ShowsPicture, JoinsMarks}

-- a station that is painted for w columns, of texts that are shown as they are measured
pub record IsSentAt (w : ℕ) (station : SizedScene) : Type 0 where
  pub cols : station.cols ≡ w
  pub typed : IsTypedScene w station.scene

module _ {V : Type 0} (rules : HostRules V) where
  -- the bytes of the batches of stations, by what is known of the terminal, and what is known then
  abbrev pub sent_paintings : List (Station V) → Encoder → Sent
  sent_paintings stations e = sent_batches (batches_of rules stations) e

  -- and those of the closing batch of a run too
  abbrev pub sent_run : Frame V → List (Station V) → Encoder → Sent
  sent_run f stations e = sent_batches (batches_of rules stations ++ closing_if (run_of rules f).mark) e

  -- the batches from a clearing on, to a station's
  abbrev pub taken_since : List (Station V) → List (Station V) → Station V → List Batch
  taken_since earlier since station = map (λ sized. sized.batch) (since_batches rules earlier (since ++ station ∷ []))

module _ {A C : Type 0} (pen : Pen A C) where
  -- a terminal that is sent these bytes shows a picture, and the encoder knows what is then known
  abbrev pub ShowsSent : ℕ → ℕ → Sent → EcmaScreen C → PictureOf C → Type 0
  ShowsSent h w sent t picture = ShowsPicture pen h w sent.next (receive_all pen h w sent.bytes t) picture

  -- it shows one on which the cursor stands in the row below another, with blanks from there on; the colour that is
  -- known is by bytes
  abbrev pub ShowsClosed : ℕ → ℕ → Sent → EcmaScreen C → ℕ → PictureOf C → PictureOf C → Type 0
  ShowsClosed h w sent t bottom shown closed =
      ShowsSent h w sent t closed × IsClosedSheet (Some h) w (blank_of pen) bottom shown closed × IsColor sent.next.attributes.background

module _ {V A C : Type 0} (rules : HostRules V) (pen : Pen A C) where
  -- The run from a frame comes to a station and paints it, and so far every station was such a one. A terminal of h
  -- rows and w columns shows a picture, and the colour that is known after its text is by bytes.
  pub record ComesSent (h w : ℕ) (f : Frame V) (earlier : List (Station V)) (station : Station V) (later : List (Station V))
      (measured : List SizedScene) (last : SizedScene) (e : Encoder) (t : EcmaScreen C) (before : PictureOf C) : Type 0 where
    pub comes : ComesMeasured rules pen (Some h) f earlier station later measured last before
    pub sent : AllByRecursion (IsSentAt w) (map (sized_scene rules) (earlier ++ station ∷ []))
    pub high : h ≤ most_rows
    pub narrow : w < 2 ^ 64
    pub color : IsColor e.attributes.background
    pub shows : ShowsPicture pen h w e t before

  -- a picture on which the batches of stations were played, at w columns
  abbrev pub shown_by : ℕ → ℕ → Encoder → List (Station V) → PictureOf C → PictureOf C
  shown_by h w e stations before = play_stations rules pen (Some h) false w (pen.attributes e.attributes) stations before

  -- The terminal that is sent the bytes of stations shows the picture on which the batches were played, and there the
  -- last one's painting is fresh.
  abbrev pub ShowsPainting : ℕ → ℕ → Frame V → List (Station V) → Station V → List SizedScene → SizedScene → Encoder → EcmaScreen C → PictureOf C → Type 0
  ShowsPainting h w f earlier station measured last e t before =
      let stations = earlier ++ station ∷ [] in
      ShowsSent pen h w (sent_paintings rules stations e) t (shown_by h w e stations before)
      × ShowsDrawn rules pen (Some h) false w (pen.attributes e.attributes) f earlier station measured last before

  -- So it is at each station to which a run comes so.
  abbrev pub PaintingsAreShown : Type 0
  PaintingsAreShown = (f : Frame V) (h w : ℕ) (earlier : List (Station V)) (station : Station V) (later : List (Station V))
      (measured : List SizedScene) (last : SizedScene) (e : Encoder) (t : EcmaScreen C) (before : PictureOf C)
      → CarriesAttributes pen → JoinsMarks pen → ComesSent h w f earlier station later measured last e t before
      → ShowsPainting h w f earlier station measured last e t before

  -- Some stations are all that a run paints, and the terminal that is sent its bytes shows what the closing batch left:
  -- the cursor in the row below their last painting.
  abbrev pub ShowsEnd : ℕ → ℕ → Frame V → List (Station V) → List SizedScene → SizedScene → Encoder → EcmaScreen C → PictureOf C → Type 0
  ShowsEnd h w f stations measured last e t before =
      let bottom = top_row (Some h) before.row (paintings_to pen measured last) + sheet_last_row w (painting_of pen last).sheet in
      let shown = shown_by h w e stations before in
      let closed = closed_by rules pen (Some h) false w w (pen.attributes (sent_paintings rules stations e).next.attributes) f shown in
      TakesAll rules f stations × ShowsClosed pen h w (sent_run rules f stations e) t bottom shown closed

  -- So it is after the last painting of a run; another run can follow.
  abbrev pub ClosingsAreShown : Type 0
  ClosingsAreShown = (f : Frame V) (h w : ℕ) (earlier : List (Station V)) (station : Station V) (later : List (Station V))
      (measured : List SizedScene) (last : SizedScene) (e : Encoder) (t : EcmaScreen C) (before : PictureOf C)
      → CarriesAttributes pen → JoinsMarks pen → ComesSent h w f earlier station later measured last e t before → All (RendersNothing rules) later
      → ShowsEnd h w f (earlier ++ station ∷ []) measured last e t before

  -- ---- after a clearing

  -- The run from a frame comes to a station and paints it. The screen was cleared before the first of the stations
  -- since then, and these are sent at w columns; a move back from the painting before them leads no further than a move
  -- can. Of the terminal it is known that it has read no part of a sequence, and which attributes are selected; it may
  -- show anything, its cursor anywhere.
  pub record HealsSent (h w : ℕ) (f : Frame V) (earlier since : List (Station V)) (station : Station V) (later : List (Station V))
      (measured : List SizedScene) (last : SizedScene) (e : Encoder) (t : EcmaScreen C) : Type 0 where
    pub comes : ComesHealed rules pen (Some h) f earlier since station later measured last
    pub sent : AllByRecursion (IsSentAt w) (map (sized_scene rules) (since ++ station ∷ []))
    pub high : h ≤ most_rows
    pub back : (m : Mark) → mark_after None (map shot_of (map (sized_scene rules) earlier)) ≡ Some m → IsReached h (Relative (neg_ℤ m.row))
    pub narrow : w < 2 ^ 64
    pub color : IsColor e.attributes.background
    pub reading : t.reading ≡ terminal.Text
    pub rendition : t.rendition ≡ e.attributes
    pub cols : e.cols ≡ w

  -- The terminal that is sent the bytes from the clearing on shows the last station's painting, fresh from row 0 on.
  abbrev pub HealingsAreShown : Type 0
  HealingsAreShown = (f : Frame V) (h w : ℕ) (earlier since : List (Station V)) (station : Station V) (later : List (Station V))
      (measured : List SizedScene) (last : SizedScene) (e : Encoder) (t : EcmaScreen C)
      → CarriesAttributes pen → JoinsMarks pen → HealsSent h w f earlier since station later measured last e t
      → (picture : PictureOf C) × ShowsSent pen h w (sent_batches (taken_since rules earlier since station) e) t picture
      × IsFreshSheet w 0 (blank_of pen) (painting_of pen last).sheet picture

  -- Sent the bytes of the closing batch too, it shows what that left: the cursor in the row below it.
  abbrev pub ShowsHealedEnd : ℕ → ℕ → Frame V → List (Station V) → List (Station V) → Station V → SizedScene → Encoder → EcmaScreen C → Type 0
  ShowsHealedEnd h w f earlier since station last e t =
      let sent = sent_batches (taken_since rules earlier since station ++ closing_if (run_of rules f).mark) e in
      let sheet = (painting_of pen last).sheet in
      (shown : PictureOf C) × (closed : PictureOf C) × IsFreshSheet w 0 (blank_of pen) sheet shown × ShowsClosed pen h w sent t (sheet_last_row w sheet) shown closed

  -- So it is where nothing is rendered after that station; another run can follow.
  abbrev pub HealedClosingsAreShown : Type 0
  HealedClosingsAreShown = (f : Frame V) (h w : ℕ) (earlier since : List (Station V)) (station : Station V) (later : List (Station V))
      (measured : List SizedScene) (last : SizedScene) (e : Encoder) (t : EcmaScreen C)
      → CarriesAttributes pen → JoinsMarks pen → HealsSent h w f earlier since station later measured last e t → All (RendersNothing rules) later
      → ShowsHealedEnd h w f earlier since station last e t
