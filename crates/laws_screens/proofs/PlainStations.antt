-- What lists of plain stations and scenes paint, one over the other, and what closes them.
use Rattle.std.proofs.Common.{◌≡◌, ℕ, pos, ◌+◌, ◌/◌, ◌≤◌, true, false, Option, Some, None, List, [], ◌∷◌, ◌++◌, map, length, refl, sym, ap, subst, ◌∙◌, arith, if◌then◌else◌}
use Rattle.std.specs.List.{All, list_all, list_any, sum_by}
use Rattle.std.proofs.lemmas.Bool.{and_parts, and_from, false≢true}
use Rattle.std.proofs.lemmas.Bool.Decides.{nat_tests}
use Rattle.std.proofs.lemmas.List.Elements.{All-head, All-tail, All-weaker, All-nil, All-push, All-map}
use Rattle.std.proofs.lemmas.List.Folds.{list_all-append}
use Rattle.laws_screens.specs.Strokes.{steps_on, narrowest}
use Rattle.laws_screens.specs.Sheets as sheets
use Rattle.laws_screens.specs.Paintings as paintings
use Rattle.laws_screens.specs.Paintings.{AreShownOver, cols_of, top_row}
use Rattle.tw_surface.specs.ChangeView.{Batch, Attribute, AllAttributes, Text}
use Rattle.tw_surface.specs.Fresh.{IsFresh, IsSameAbove, IsClosed, last_row, cursor_row}
use Rattle.tw_surface.specs.Lines.{rows_of}
use Rattle.tw_surface.specs.Paintings.{painting, lower_changes, Mark, mark_of, closing}
use Rattle.tw_surface.specs.Characters.{is_plain}
use Rattle.tw_surface.specs.PaintingBatches.{SizedScene, IsPlainAt, shot_of, scenes_of, clearing, start_of, batches_after, batches, start_row, play_batches, shots, closing_batch, shown_batches, last_of, closing_of, run_batches}
use Rattle.tw_surface.specs.Pictures.{Picture, blank, can_play, play_all}
use Rattle.tw_surface.specs.Scenes.{Scene, IsPlain, Lower, IsPlainLower, typed_text, is_text, is_typing}
use Rattle.tw_surface.specs.Scenes.Lower.{NoLower, Preview, Search}
use Rattle.laws_screens.specs.Pens.{strokes_of}
use Rattle.laws_screens.specs.PlainScreens.{IncrementalEqualsFresh, ClosingBatch, CountedRows, Stacking}
use Rattle.laws_screens.specs.SceneSheets.{sheet_of, painting_of}
use Rattle.laws_screens.specs.Screens.{play_sized}
use Rattle.laws_screens.specs.SizedBatches.{sized_at, sized_after, sized_batches}
use Rattle.laws_screens.specs.Glyphs.{IsMeasured, IsMeasuredWide}
use Rattle.laws_screens.specs.StyledCells.{characters}
use Rattle.laws_screens.specs.CharacterScreens.{cells_of}
use Rattle.laws_screens.proofs.DrawnScenes.{cursor_y, height_is}
use Rattle.laws_screens.proofs.PaintedAlikeLemmas.{closing_is, are_themselves, measured_is_itself, shows_stations, closes_stations}
use Rattle.laws_screens.proofs.FreshCharacters.{at_is, text_is, lower_is, row_is, fresh_characters}
use Rattle.laws_screens.proofs.PlainGlyphs.{plain_from_printable, typing_is}
use Rattle.laws_screens.proofs.PlainScenes.{lower_plain, plain_is_measured}
use Rattle.laws_screens.proofs.PlayedCharacters.{plays_batches}
use Rattle.std.proofs.lemmas.List.{map-append}

-- the fresh painting of a scene from row s on, and the rows above as they were
pub record Painted (w s : ℕ) (scene : Scene) (before after : Picture) : Type 0 where
  pub fresh : IsFresh w s scene after
  pub above : IsSameAbove w s before after

wide : (w : ℕ) → 2 ≤ w → (station : SizedScene) → IsPlainAt w station → IsMeasuredWide station
wide w two station k = (omega (arith, two, k.0), subst (λ n. IsMeasured n station.scene) (sym k.0) (plain_is_measured w station.scene two k.1))

-- ---- their batches are of plain texts

can_type : (changes : Batch) → list_all is_text changes ≡ true → list_all is_plain (typed_text changes) ≡ true → list_all can_play changes ≡ true
can_type [] a h = refl
can_type (Text text ∷ changes) a h =
    let both = and_parts (list_all is_plain text) (list_all is_plain (typed_text changes)) (sym (list_all-append is_plain text (typed_text changes)) ∙ h) in
    and_from _ _ both.0 (can_type changes a both.1)
can_type (Attribute x ∷ changes) a h = can_type changes a h
can_type (AllAttributes x ∷ changes) a h = can_type changes a h
can_type (_ ∷ changes) a h = absurd (false≢true a)

can_typing : (changes : Batch) → list_all is_typing changes ≡ true → list_all can_play changes ≡ true
can_typing changes h = let both = typing_is changes h in can_type changes both.0 (plain_from_printable (typed_text changes) both.1)

can_lower : (lower : Lower) → IsPlainLower lower → list_all can_play (lower_changes lower) ≡ true
can_lower NoLower a = refl
can_lower (Preview elements) a = can_type elements a.0 (lower_plain (Preview elements) a)
can_lower (Search text) a = and_from _ _ (plain_from_printable text a) refl

can_paint : (w : ℕ) (scene : Scene) → IsPlain scene → list_all can_play (painting w scene).changes ≡ true
can_paint w scene plain = simp list_all-append (grind (arith, nat_tests, can_typing scene.prompt plain.prompt, can_typing scene.line plain.line, can_lower scene.lower plain.lower))

can_start : (mark : Option Mark) (batch : Batch) → list_all can_play batch ≡ true → list_all can_play (start_of mark ++ batch) ≡ true
can_start None batch h = h
can_start (Some m) batch h = h

-- those of stations for w columns
can_batches : (w : ℕ) (mark : Option Mark) (stations : List SizedScene) → All (IsPlainAt w) stations → list_all (list_all can_play) (batches_after mark (map shot_of stations)) ≡ true
can_batches w mark [] plain = refl
can_batches w mark (station ∷ more) plain =
    let here = can_start mark (painting station.cols station.scene).changes (can_paint station.cols station.scene (All-head (IsPlainAt w) station more plain).1) in
    let rest = can_batches w (Some (mark_of (painting station.cols station.scene))) more (All-tail (IsPlainAt w) station more plain) in
    grind (arith, nat_tests, here, rest)

sized_are_at : (w : ℕ) (mark : Option Mark) (stations : List SizedScene) → All (IsPlainAt w) stations → sized_after mark stations ≡ sized_at w (batches_after mark (map shot_of stations))
sized_are_at w mark [] plain = refl
sized_are_at w mark (station ∷ more) plain =
    let batch : Batch = start_of mark ++ (painting station.cols station.scene).changes in
    let rest = sized_are_at w (Some (mark_of (painting station.cols station.scene))) more (All-tail (IsPlainAt w) station more plain) in
    ap (λ n. sized_at n (clearing station.scene.cleared ++ batch ∷ []) ++ sized_after (Some (mark_of (painting station.cols station.scene))) more) (All-head (IsPlainAt w) station more plain).0
    ∙ grind (arith, nat_tests, rest)

-- where the last one begins
top_is : (s : ℕ) (stations : List SizedScene) → top_row None s (map (painting_of characters) stations) ≡ start_row s (scenes_of stations)
top_is s [] = refl
top_is s (station ∷ more) = top_is (if station.scene.cleared then 0 else s) more ∙ grind (arith, nat_tests)

least_is : (w : ℕ) (stations : List SizedScene) → All (IsPlainAt w) stations → narrowest w (cols_of (map (painting_of characters) stations)) ≡ w
least_is w [] plain = refl
least_is w (station ∷ more) plain =
    let rest : w ≤ narrowest station.cols (cols_of (map (painting_of characters) more)) = omega (arith, (All-head (IsPlainAt w) station more plain).0, ap (λ n. narrowest n (cols_of (map (painting_of characters) more))) (All-head (IsPlainAt w) station more plain).0, least_is w more (All-tail (IsPlainAt w) station more plain)) in
    omega (arith, rest)

-- ---- paintings

pub last_at : (w : ℕ) (earlier : List SizedScene) (station : SizedScene) → All (IsPlainAt w) (earlier ++ station ∷ []) → IsPlainAt w station
last_at w [] station a = All-head (IsPlainAt w) station [] a
last_at w (x ∷ xs) station a = last_at w xs station (All-tail (IsPlainAt w) x (xs ++ station ∷ []) a)

-- after the last one of some stations the screen shows it fresh, and the rows above as they were
pub painted_station : (w e : ℕ) (earlier : List SizedScene) (station : SizedScene) (t : Picture) → 2 ≤ w → t.row ≡ e → t.col ≡ 0 → All (IsPlainAt w) (earlier ++ station ∷ [])
    → let stations = earlier ++ station ∷ [] in
    Painted w (start_row e (scenes_of stations)) station.scene t (play_batches w (batches (map shot_of stations)) t)
painted_station w e earlier station t two row col plain =
    let stations : List SizedScene = earlier ++ station ∷ [] in
    let last : IsPlainAt w station = last_at w earlier station plain in
    let s : ℕ = start_row t.row (scenes_of stations) in
    let u : Picture = play_batches w (batches (map shot_of stations)) t in
    let played : play_sized None false characters w tt (sized_batches stations) (cells_of t) ≡ cells_of u =
    ap (λ l. play_sized None false characters w tt l (cells_of t)) (sized_are_at w None stations plain)
    ∙ sym (plays_batches w (batches (map shot_of stations)) t (omega (arith, two)) (omega (arith, col)) (can_batches w None stations plain)) in
    let q = shows_stations characters None false w tt stations earlier station (cells_of t) col tt (are_themselves characters stations (All-weaker _ _ (wide w two) stations plain)) (λ k d h. tt) in
    let shown : AreShownOver false blank w t.row s (painting_of characters (record { scene = station.scene; cols = w })) (cells_of t) (cells_of u) =
    subst (λ n. AreShownOver false blank w t.row s (painting_of characters (record { scene = station.scene; cols = n })) (cells_of t) (cells_of u)) last.0
    (rw (least_is w stations plain, top_is t.row stations, played) at q) in
    let p : Painted w s station.scene t u = record {
      fresh = fresh_characters w s station.scene two last.1 u shown.fresh;
      above = λ r c h k. shown.above r c h k k ∙ ap (λ i. t.cell i c) (grind (arith, nat_tests, h));
    } in
    subst (λ n. Painted w (start_row n (scenes_of stations)) station.scene t u) row p

-- ---- rows by division

sheet_rows : (w s : ℕ) (scene : Scene) → 2 ≤ w → IsPlain scene → s + sheets.sheet_last_row w (sheet_of characters w scene) ≡ last_row w s scene
sheet_rows w s scene two plain =
    omega (arith, ap (λ l. length l / w) (text_is w s scene two plain) ∙ row_is w s scene two plain, ap (sum_by (rows_of w)) (lower_is w s scene two plain scene.lower plain.lower))

cursor_rows : (w s : ℕ) (scene : Scene) → 2 ≤ w → IsPlain scene → sheets.sheet_cursor_row w (sheet_of characters w scene) ≡ cursor_row w scene
cursor_rows w s scene two plain = ap (λ i. i / w) (at_is w s scene two plain)

-- the closing batch of a plain scene
pub closed_painting : (w s : ℕ) (scene : Scene) (t : Picture) → 2 ≤ w → IsPlain scene → t.row ≡ s + cursor_row w scene
    → IsClosed w (last_row w s scene) t (play_all w (closing (mark_of (painting w scene))) t)
closed_painting w s scene t two plain row =
    let station : SizedScene = record { scene = scene; cols = w } in
    let batch : Batch = closing (mark_of (painting w scene)) in
    let at : t.row ≡ s + sheets.sheet_cursor_row w (sheet_of characters w scene) = row ∙ ap (λ n. s + n) (sym (cursor_rows w s scene two plain)) in
    let q = closes_stations characters None w s tt station station (cells_of t) two tt (measured_is_itself characters station (two, plain_is_measured w scene two plain)) at in
    let played : steps_on None w (strokes_of characters tt batch) (cells_of t) ≡ cells_of (play_all w batch t) = refl in
    let c : paintings.IsClosedSheet None w blank (last_row w s scene) (cells_of t) (cells_of (play_all w batch t)) = rw (sheet_rows w s scene two plain, played) at q in
    record {
      row = c.row;
      col = c.col;
      blank_below = λ r i h k. c.blank_below r i (omega (arith, c.row, h)) k;
      same_above = λ r i h k. c.moved_up r i (omega (arith, c.row, h)) k ∙ ap (λ j. t.cell j i) (omega (arith, c.row));
    }

-- what the painter counts
pub counted_rows : CountedRows
counted_rows w s scene two plain =
    let measured = plain_is_measured w scene two plain in (
      cursor_y characters w scene two measured ∙ ap pos (cursor_rows w s scene two plain),
      ap (λ n. s + n) (height_is characters w scene two measured) ∙ sheet_rows w s scene two plain,
    )

pub every_painting : IncrementalEqualsFresh
every_painting w e earlier station t two row col all =
    let q = painted_station w e earlier station t two row col all in
    (q.fresh, q.above)

pub last_painting : ClosingBatch
last_painting w e earlier station t two row col a =
    let q = painted_station w e earlier station t two row col a in
    let last : IsPlainAt w station = last_at w earlier station a in
    let c : closing_batch (map shot_of (earlier ++ station ∷ [])) ≡ closing (mark_of (painting w station.scene)) ∷ [] =
    closing_is earlier station ∙ ap (λ n. closing (mark_of (painting n station.scene)) ∷ []) last.0 in
    let after : Picture = play_batches w (batches (map shot_of (earlier ++ station ∷ []))) t in
    subst (λ bs. IsClosed w (last_row w (start_row e (scenes_of (earlier ++ station ∷ []))) station.scene) after (play_batches w bs after)) (sym c)
    (closed_painting w (start_row e (scenes_of (earlier ++ station ∷ []))) station.scene after two last.1 q.fresh.row)

abbrev station_at : ℕ → Scene → SizedScene
station_at w scene = record { scene = scene; cols = w }

-- scenes as stations of one width
as_stations : (w : ℕ) (scenes : List Scene) → (scenes_of (map (station_at w) scenes) ≡ scenes) × (map shot_of (map (station_at w) scenes) ≡ shots w scenes)
as_stations w [] = (refl, refl)
as_stations w (scene ∷ more) = let rest = as_stations w more in (ap (λ l. scene ∷ l) rest.0, ap (λ l. shot_of (station_at w scene) ∷ l) rest.1)

-- a list by its last scene
by_last : (first : Scene) (more : List Scene) → (earlier : List Scene) × (first ∷ more ≡ earlier ++ last_of first more ∷ [])
by_last first [] = ([], refl)
by_last first (next ∷ more) = let rest = by_last next more in (first ∷ rest.0, ap (λ l. first ∷ l) rest.1)

play_batches-append : (w : ℕ) (a b : List Batch) (t : Picture) → play_batches w (a ++ b) t ≡ play_batches w b (play_batches w a t)
play_batches-append w [] b t = refl
play_batches-append w (batch ∷ a) b t = play_batches-append w a b (play_all w batch t)

-- what a run of scenes shows at last, and once it is closed
ran : (w e : ℕ) (first : Scene) (more : List Scene) (t : Picture) → 2 ≤ w → t.row ≡ e → t.col ≡ 0 → All IsPlain (first ∷ more)
    → let shown = play_batches w (shown_batches w (first ∷ more)) t in
    Painted w (start_row e (first ∷ more)) (last_of first more) t shown
    × IsClosed w (last_row w (start_row e (first ∷ more)) (last_of first more)) shown (play_batches w (run_batches w (first ∷ more)) t)
ran w e first more t two row col plain =
    let split = by_last first more in
    let last : Scene = last_of first more in
    let scenes : List Scene = split.0 ++ last ∷ [] in
    let earlier : List SizedScene = map (station_at w) split.0 in
    let same : map (station_at w) scenes ≡ earlier ++ station_at w last ∷ [] = map-append (station_at w) split.0 (last ∷ []) in
    let each = All-weaker IsPlain (λ x. IsPlainAt w (station_at w x)) (λ x k. (refl, k)) scenes (subst (All IsPlain) split.1 plain) in
    let all : All (IsPlainAt w) (earlier ++ station_at w last ∷ []) = subst (All (IsPlainAt w)) same (All-map (IsPlainAt w) (station_at w) scenes each) in
    let a = as_stations w scenes in
    subst (λ l. let shown = play_batches w (shown_batches w l) t in Painted w (start_row e l) last t shown × IsClosed w (last_row w (start_row e l) last) shown (play_batches w (run_batches w l) t)) (sym split.1) (
      rw (← same, a.0, a.1) at (painted_station w e earlier (station_at w last) t two row col all),
      rw (play_batches-append w (shown_batches w scenes) (closing_of w scenes) t) (rw (← same, a.0, a.1) at (last_painting w e earlier (station_at w last) t two row col all)),
    )

-- a run whose screen is not cleared paints from the row in which it was entered
uncleared : (s : ℕ) (scenes : List Scene) → list_any (λ x. x.cleared) scenes ≡ false → start_row s scenes ≡ s
uncleared s scenes e = rw e refl

pub first_painting : (w s : ℕ) (scene : Scene) (t : Picture) → 2 ≤ w → t.row ≡ s → t.col ≡ 0 → IsPlain scene → scene.cleared ≡ false
    → IsFresh w s scene (play_batches w (shown_batches w (scene ∷ [])) t) × IsSameAbove w s t (play_batches w (shown_batches w (scene ∷ [])) t)
first_painting w s scene t two row col plain none =
    let q = painted_station w s [] (station_at w scene) t two row col (All-push (IsPlainAt w) [] (station_at w scene) (All-nil (IsPlainAt w)) (refl, plain)) in
    let e : start_row s (scene ∷ []) ≡ s = rw none refl in
    let p : Painted w s scene t (play_batches w (shown_batches w (scene ∷ [])) t) = rw e at q in
    (p.fresh, p.above)

pub stacked : Stacking
stacked w first more second others t k =
    let last : ℕ = last_row w (start_row t.row (first ∷ more)) (last_of first more) in
    let entered : Picture = play_batches w (run_batches w (first ∷ more)) t in
    let one = ran w t.row first more t k.wide refl k.at_start k.plain in
    let top : start_row (last + 1) (second ∷ others) ≡ last + 1 = uncleared (last + 1) (second ∷ others) k.uncleared in
    let both = ran w (last + 1) second others entered k.wide one.1.row one.1.col k.plain_second in
    let q : Painted w (last + 1) (last_of second others) entered (play_batches w (shown_batches w (second ∷ others)) entered) = rw top at both.0 in
    let c : IsClosed w (last_row w (last + 1) (last_of second others)) (play_batches w (shown_batches w (second ∷ others)) entered) (play_batches w (run_batches w (second ∷ others)) entered) =
    rw top at both.1 in (
      λ r i h j. q.above r i h j ∙ one.1.same_above r i (omega arith) j,
      λ r i h j. c.same_above r i (omega arith) j ∙ q.above r i h j ∙ one.1.same_above r i (omega arith) j,
      q.fresh,
    )
