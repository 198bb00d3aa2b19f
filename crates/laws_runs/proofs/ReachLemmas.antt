-- The moves of a painting that has room on a screen are moves that bytes can make.
use Rattle.std.proofs.Common.{◌≡◌, ◌≤◌, ◌+◌, ◌-ℤ◌, ◌∙◌, ◌++◌, ℕ, ℤ, pos, negsuc, neg_ℤ, true, Some, List, [], ◌∷◌, refl, sym, ap, subst, map, max, arith}
use Rattle.std.specs.List.{list_all, All, AllByRecursion}
use Rattle.std.proofs.lemmas.Int.{ints}
use Rattle.std.proofs.lemmas.List.Elements.{All-head, All-tail}
use Rattle.tw_surface.specs.declared.change.Position.TheVariants.{Relative}
use Rattle.tw_surface.specs.ChangeView.{Batch, Attribute, AllAttributes, Text}
use Rattle.tw_surface.specs.Defaults.{default_attributes}
use Rattle.tw_surface.specs.Paintings.{painting, mark_of, shown_part, edge_space, lower_changes, before_line, cursor_place}
use Rattle.tw_surface.specs.PaintingBatches.{SizedScene}
use Rattle.tw_surface.specs.Places.{Place, place_after_all, origin}
use Rattle.tw_surface.specs.Scenes.{Scene, Lower, is_text}
use Rattle.tw_surface.specs.Scenes.Lower.{NoLower, Preview, Search}
use Rattle.laws_screens.specs.Strokes.{steps}
use Rattle.laws_screens.specs.PaintedAlike.{IsPaintedAs, ArePaintedAs}
use Rattle.laws_screens.specs.Pens.{Pen, strokes_of}
use Rattle.laws_screens.specs.Screens.{HasRoom}
use Rattle.laws_screens.specs.SceneSheets.{sheet_of}
use Rattle.laws_screens.specs.Glyphs.{IsMeasured}
use Rattle.laws_screens.specs.Sheets.{sheet_last_row, sheet_cursor_row, IsLow}
use Rattle.laws_screens.proofs.DrawnScenes.{clear, text-append, tracks-clear, measured_height, cursor_y, height_is}
use Rattle.tw_ansi.specs.Sequences.{most_rows}
use Rattle.tw_ansi.specs.EcmaBatches.{IsReached}
use Rattle.tw_ansi.specs.EcmaPaintings.{IsTypedChange, IsTypedLower, IsTypedScene, IsShowable}
use Rattle.laws_runs.specs.SentRuns.{IsSentAt}

-- a station that is painted for w columns, and whose bytes do what its changes do on a terminal of h rows
pub record IsShowableAt (h w : ℕ) (station : SizedScene) : Type 0 where
  pub cols : station.cols ≡ w
  pub showable : IsShowable h w station.scene

-- ---- texts

-- typed changes are attributes and texts
are_texts : (w : ℕ) (changes : Batch) → AllByRecursion (IsTypedChange w) changes → list_all is_text changes ≡ true
are_texts w [] a = refl
are_texts w (Text text ∷ more) a = are_texts w more a.1
are_texts w (Attribute change ∷ more) a = are_texts w more a.1
are_texts w (AllAttributes to ∷ more) a = are_texts w more a.1
are_texts w (_ ∷ more) a = absurd a.0

lower_texts : (w : ℕ) (lower : Lower) → IsTypedLower w lower → list_all is_text (lower_changes lower) ≡ true
lower_texts w NoLower a = refl
lower_texts w (Preview elements) a = are_texts w elements a
lower_texts w (Search text) a = refl

edge_texts : (w : ℕ) (at : Place) → list_all is_text (edge_space w at) ≡ true
edge_texts w at = grind (arith)

-- ---- rows

-- a move by fewer rows than a screen can have
reached : (h : ℕ) (d : ℤ) (m n : ℕ) → m ≤ most_rows → n ≤ most_rows → d ≡ pos m -ℤ pos n → IsReached h (Relative d)
reached h (pos k) m n up down is = omega (arith, ints, up, down, is)
reached h (negsuc k) m n up down is = omega (arith, ints, up, down, is)

module _ {A C : Type 0} (pen : Pen A C) (h w : ℕ) (high : h ≤ most_rows) where
  -- the last row of a typed scene is its height
  last_row : (scene : Scene) → IsTypedScene w scene → (place_after_all w (shown_part w scene) origin).y ≡ pos (painting w scene).height
  last_row scene typed =
      let head : Batch = AllAttributes default_attributes ∷ scene.prompt ++ AllAttributes default_attributes ∷ [] in
      let place : Place = place_after_all w (before_line scene.prompt ++ scene.line) origin in
      let end : Batch = edge_space w place ++ lower_changes scene.lower in
      let body : Batch = (head ++ scene.line) ++ end in
      let text : list_all is_text body ≡ true =
      text-append (head ++ scene.line) end
      (text-append head scene.line (text-append scene.prompt (AllAttributes default_attributes ∷ []) (are_texts w scene.prompt typed.prompt) refl) (are_texts w scene.line typed.line))
      (text-append (edge_space w place) (lower_changes scene.lower) (edge_texts w place) (lower_texts w scene.lower typed.lower)) in
      let row : ℕ = (steps w (strokes_of pen (pen.attributes default_attributes) body) (clear pen w)).row in
      let at : (place_after_all w body origin).y ≡ pos row = omega (arith, ints, (tracks-clear pen w (pen.attributes default_attributes) body text).y) in
      at ∙ sym (ap pos (measured_height w body text row at))

  -- so such a station, painted as a measured one that has room, is showable
  showable : (station other : SizedScene) → IsPaintedAs pen station other → HasRoom (Some h) pen other → IsSentAt w station → IsShowable h w station.scene
  showable station other is low sent =
      let scene : Scene = station.scene in
      let cols : other.cols ≡ w = is.cols ∙ sent.cols in
      let two : 2 ≤ w = subst (λ n. 2 ≤ n) cols is.measured.0 in
      let measured = subst (λ n. IsMeasured n other.scene) cols is.measured.1 in
      let mark : mark_of (painting w scene) ≡ mark_of (painting w other.scene) = subst (λ n. mark_of (painting n scene) ≡ mark_of (painting n other.scene)) sent.cols is.alike.mark in
      let last : ℕ = sheet_last_row w (sheet_of pen w other.scene) in
      let at : ℕ = sheet_cursor_row w (sheet_of pen w other.scene) in
      let room : 1 + max last at ≤ h = subst (λ n. IsLow (Some h) n (sheet_of pen n other.scene)) cols low in
      let row : (painting w scene).row ≡ pos at = ap (λ m. m.row) mark ∙ cursor_y pen w other.scene two measured in
      let height : (painting w scene).height ≡ last = ap (λ m. m.height) mark ∙ height_is pen w other.scene two measured in
      let end = last_row scene sent.typed in
      record {
        typed = sent.typed;
        near = reached h ((painting w scene).row -ℤ (place_after_all w (shown_part w scene) origin).y) at last (omega (arith, room, high)) (omega (arith, room, high)) (omega (arith, ints, row, height, end));
        back = reached h (neg_ℤ (painting w scene).row) 0 at (omega arith) (omega (arith, room, high)) (omega (arith, ints, row));
        under = reached h (pos (1 + (painting w scene).height) -ℤ (painting w scene).row) (1 + last) at (omega (arith, room, high)) (omega (arith, room, high)) (omega (arith, ints, row, height));
      }

  -- and so is each of a list
  pub all_showable : (stations others : List SizedScene) → ArePaintedAs pen stations others → All (HasRoom (Some h) pen) others → AllByRecursion (IsSentAt w) stations
      → AllByRecursion (IsShowableAt h w) stations
  all_showable [] [] alike low sent = tt
  all_showable (station ∷ stations) [] alike low sent = absurd alike
  all_showable [] (other ∷ others) alike low sent = absurd alike
  all_showable (station ∷ stations) (other ∷ others) alike low sent = (
    record { cols = sent.0.cols; showable = showable station other alike.0 (All-head (HasRoom (Some h) pen) other others low) sent.0 },
    all_showable stations others alike.1 (All-tail (HasRoom (Some h) pen) other others low) sent.1,
  )
