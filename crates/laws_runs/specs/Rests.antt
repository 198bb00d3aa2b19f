-- A terminal whose size changes between the batches that it is sent stays at rest, and the attributes that are known
-- stay those that are selected.
use Rattle.std.specs.Prelude.{◌≡◌, ◌<◌, ◌≤◌, ◌^◌, neg_ℤ, ℕ, Some, None, List, [], ◌∷◌, ◌++◌, map}
use Rattle.std.specs.List.{AllByRecursion}
use Rattle.tw_surface.specs.declared.cell.CellAttributes.{CellAttributes}
use Rattle.tw_surface.specs.declared.change.Position.TheVariants.{Relative}
use Rattle.tw_surface.specs.Paintings.{Mark}
use Rattle.tw_surface.specs.PaintingBatches.{SizedScene, shot_of, mark_after}
use Rattle.laws_screens.specs.Pens.{Pen}
use Rattle.laws_screens.specs.SizedBatches.{SizedBatch}
use Rattle.tw_host.specs.HostRules.{HostRules}
use Rattle.tw_lineedit.specs.Frame.{Frame}
use Rattle.tw_lineedit.specs.ScreenRuns.{sized_scene}
use Rattle.tw_lineedit.specs.Stations.{Station}
use Rattle.laws_runs.specs.DrawnRuns.{ComesHealed}
use Rattle.tw_ansi.specs.declared.encode.Encoder.{Encoder}
use Rattle.tw_ansi.specs.Sequences.{most_rows}
use Rattle.tw_ansi.specs.EcmaLaws.{IsColor}
use Rattle.tw_ansi.specs.EcmaBatches.{IsReached}
use Rattle.tw_ansi.specs.EcmaPaintings.{IsTypedScene}
use Rattle.tw_ansi.specs.EcmaScreen.{EcmaScreen, receive_all}
use Rattle.tw_ansi.specs.EcmaScreen as terminal
use Rattle.laws_runs.specs.SentRuns.{IsSentAt, HealsSent}
use Rattle.laws_runs.specs.SentReadings.{sent_at, sent_sized, stations_sized}

-- it has read no part of a sequence, and these attributes are selected
abbrev pub Rests : {C : Type 0} → CellAttributes → EcmaScreen C → Type 0
Rests a t = (t.reading ≡ terminal.Text) × (t.rendition ≡ a)

-- A change of a terminal's size may change its cells, its cursor and whether it waits, as it likes, and nothing else.
abbrev pub IsReshaped : {C : Type 0} → EcmaScreen C → EcmaScreen C → Type 0
IsReshaped t u = (u.reading ≡ t.reading) × (u.rendition ≡ t.rendition)

-- It receives batches one after the other, each at some size; before each, and at last, its size may change.
abbrev pub Receives : {A C : Type 0} → Pen A C → List SizedBatch → Encoder → EcmaScreen C → EcmaScreen C → Type 0
Receives pen [] e t u = IsReshaped t u
Receives {A} {C} pen (sized ∷ more) e t u =
    (h : ℕ) × (w : ℕ) × (s : EcmaScreen C) × IsReshaped t s × Receives pen more (sent_at sized e).next (receive_all pen h w (sent_at sized e).bytes s) u

-- a station of texts that are sent as they are measured, and of colours by bytes
pub record IsTypedStation (station : SizedScene) : Type 0 where
  pub typed : IsTypedScene station.cols station.scene
  pub narrow : station.cols < 2 ^ 64

module _ {V A C : Type 0} (rules : HostRules V) (pen : Pen A C) where
  -- What is sent of such stations leaves it at rest under the attributes that are known then, and the colour after its
  -- text is by bytes.
  abbrev pub RestIsKept : Type 0
  RestIsKept = (stations : List (Station V)) (e : Encoder) (t u : EcmaScreen C) → AllByRecursion IsTypedStation (map (sized_scene rules) stations)
      → IsColor e.attributes.background → Rests e.attributes t → Receives pen (stations_sized rules stations) e t u
      → Rests (sent_sized (stations_sized rules stations) e).next.attributes u
      × IsColor (sent_sized (stations_sized rules stations) e).next.attributes.background

  -- As in `HealsSent`, and what is known of the terminal is known where the run begins: it is at rest there, and
  -- receives what is sent up to the clearing, whatever becomes of its size meanwhile.
  pub record HealsResized (h w : ℕ) (f : Frame V) (earlier since : List (Station V)) (station : Station V) (later : List (Station V))
      (measured : List SizedScene) (last : SizedScene) (e : Encoder) (first t : EcmaScreen C) : Type 0 where
    pub comes : ComesHealed rules pen (Some h) f earlier since station later measured last
    pub sent : AllByRecursion (IsSentAt w) (map (sized_scene rules) (since ++ station ∷ []))
    pub high : h ≤ most_rows
    pub back : (m : Mark) → mark_after None (map shot_of (map (sized_scene rules) earlier)) ≡ Some m → IsReached h (Relative (neg_ℤ m.row))
    pub narrow : w < 2 ^ 64
    pub typed : AllByRecursion IsTypedStation (map (sized_scene rules) earlier)
    pub color : IsColor e.attributes.background
    pub rests : Rests e.attributes first
    pub received : Receives pen (stations_sized rules earlier) e first t

  -- Such a terminal is one that a clearing heals.
  abbrev pub ResizedHeals : Type 0
  ResizedHeals = (h w : ℕ) (f : Frame V) (earlier since : List (Station V)) (station : Station V) (later : List (Station V))
      (measured : List SizedScene) (last : SizedScene) (e : Encoder) (first t : EcmaScreen C)
      → HealsResized h w f earlier since station later measured last e first t
      → HealsSent rules pen h w f earlier since station later measured last (record (sent_sized (stations_sized rules earlier) e).next { cols = w }) t
