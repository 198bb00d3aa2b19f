-- What is played on a screen of characters is what its strokes draw.
use Rattle.std.proofs.Common.{◌≡◌, ℕ, ◌+◌, ◌-◌, ◌<◌, ◌≤◌, true, Some, None, false, List, [], ◌∷◌, map, refl, sym, ap, ◌∙◌, arith}
use Rattle.std.specs.List.{list_all}
use Rattle.std.proofs.lemmas.Bool.Decides.{nat_tests}
use Rattle.std.proofs.lemmas.Bool.{and_parts}
use Rattle.laws_screens.specs.Strokes.{PictureOf, Stroke, step, steps, scrolled, steps_on}
use Rattle.std.proofs.Math.Path.{fun_ext}
use Rattle.laws_screens.proofs.LineOfCells.{steps-append}
use Rattle.laws_screens.proofs.SeenRows.{low-on, steps_on-append}
use Rattle.tw_surface.specs.ChangeView.{ChangeView, Batch, Attribute, AllAttributes, Text, ClearScreen, ClearToEndOfScreen, CursorPosition}
use Rattle.tw_surface.specs.Pictures.{Picture, can_play, play_char, play_text, play, play_all}
use Rattle.tw_surface.specs.Scrolling.{scroll, play_text_on, play_on, play_all_on}
use Rattle.laws_screens.specs.Pens.{char_stroke, change_strokes, strokes_of}
use Rattle.laws_screens.specs.StyledCells.{characters}
use Rattle.laws_screens.specs.CharacterScreens.{cells_of, PlaysBatches, PlaysBatchesOn}
use Rattle.laws_screens.specs.Screens.{play_sized}
use Rattle.laws_screens.specs.SizedBatches.{sized_at}
use Rattle.laws_screens.proofs.PlainGlyphs.{plain_strokes}

abbrev kept : Unit {0}
kept = tt

abbrev char : ℕ → Stroke ℕ
char ch = char_stroke characters kept ch

played_char : (w ch : ℕ) (s : Picture) → 0 < w → s.col ≤ w → (cells_of (play_char w ch s) ≡ step w (char ch) (cells_of s)) × ((play_char w ch s).col ≤ w)
played_char w ch s some within = grind (arith, nat_tests)

played_text : (w : ℕ) (text : List ℕ) (s : Picture) → 0 < w → s.col ≤ w → (cells_of (play_text w text s) ≡ steps w (map char text) (cells_of s)) × ((play_text w text s).col ≤ w)
played_text w [] s some within = (refl, within)
played_text w (ch ∷ text) s some within =
    let one = played_char w ch s some within in
    let rest = played_text w text (play_char w ch s) some one.1 in
    (rest.0 ∙ ap (steps w (map char text)) one.0, rest.1)

played_change : (w : ℕ) (change : ChangeView) (s : Picture) → 0 < w → s.col ≤ w → can_play change ≡ true
    → (cells_of (play w change s) ≡ steps w (change_strokes characters kept change) (cells_of s)) × ((play w change s).col ≤ w)
played_change w (Attribute a) s some within h = (refl, within)
played_change w (AllAttributes a) s some within h = (refl, within)
played_change w (Text text) s some within h =
    let all = played_text w text s some within in
    (all.0 ∙ ap (λ l. steps w l (cells_of s)) (sym (plain_strokes characters kept text h)), all.1)
played_change w (ClearScreen color) s some within h = (refl, omega arith)
played_change w (ClearToEndOfScreen color) s some within h = (refl, within)
played_change w (CursorPosition x y) s some within h = (refl, omega arith)

-- a batch
pub plays_strokes : (w : ℕ) (batch : Batch) (s : Picture) → 0 < w → s.col ≤ w → list_all can_play batch ≡ true
    → (cells_of (play_all w batch s) ≡ steps w (strokes_of characters kept batch) (cells_of s)) × ((play_all w batch s).col ≤ w)
plays_strokes w [] s some within h = (refl, within)
plays_strokes w (change ∷ changes) s some within h =
    let both = and_parts (can_play change) (list_all can_play changes) h in
    let one = played_change w change s some within both.0 in
    let rest = plays_strokes w changes (play w change s) some one.1 both.1 in (
      rest.0 ∙ ap (steps w (strokes_of characters kept changes)) one.0
          ∙ sym (steps-append w (change_strokes characters kept change) (strokes_of characters kept changes) (cells_of s)),
      rest.1,
    )

-- a screen without a bottom never scrolls
pub steps_on-none : {C : Type 0} (w : ℕ) (strokes : List (Stroke C)) (s : PictureOf C) → steps_on None w strokes s ≡ steps w strokes s
steps_on-none w [] s = refl
steps_on-none w (stroke ∷ more) s = steps_on-none w more (step w stroke s)

pub plays_batches : PlaysBatches
plays_batches w [] s some within h = refl
plays_batches w (batch ∷ more) s some within h =
    let both = and_parts (list_all can_play batch) (list_all (list_all can_play) more) h in
    let one = plays_strokes w batch s some within both.0 in
    plays_batches w more (play_all w batch s) some one.1 both.1
    ∙ ap (play_sized None false characters w kept (sized_at w more)) (one.0 ∙ sym (steps_on-none w (strokes_of characters kept batch) (cells_of s)))

-- ---- on some rows

played_text_on : (h w : ℕ) (text : List ℕ) (s : Picture) → 0 < w → s.col ≤ w
    → (cells_of (play_text_on h w text s) ≡ steps_on (Some h) w (map char text) (cells_of s)) × ((play_text_on h w text s).col ≤ w)
played_text_on h w [] s some within = (refl, within)
played_text_on h w (ch ∷ text) s some within =
    let one = played_char w ch s some within in
    let rest = played_text_on h w text (scroll h (play_char w ch s)) some one.1 in
    (rest.0 ∙ ap (λ q. steps_on (Some h) w (map char text) (scrolled (Some h) q)) one.0, rest.1)

-- a cursor in sight scrolls nothing
still : (h : ℕ) (s : PictureOf ℕ) → s.row < h → s ≡ scrolled (Some h) s
still h s low =
    ap (λ f. record { cell = f; row = s.row; col = s.col }) (fun_ext (λ i. fun_ext (λ j. ap (λ r. s.cell r j) (omega (arith, low)))))
    ∙ ap (λ r. record { cell = λ i j. s.cell (i + (s.row + 1 - h)) j; row = r; col = s.col }) (omega (arith, low))

played_change_on : (h w : ℕ) (change : ChangeView) (s : Picture) → 0 < w → s.row < h → s.col ≤ w → can_play change ≡ true
    → (cells_of (play_on h w change s) ≡ steps_on (Some h) w (change_strokes characters kept change) (cells_of s)) × ((play_on h w change s).col ≤ w)
played_change_on h w (Attribute a) s some low within k = (refl, within)
played_change_on h w (AllAttributes a) s some low within k = (refl, within)
played_change_on h w (Text text) s some low within k =
    let all = played_text_on h w text s some within in
    (all.0 ∙ ap (λ l. steps_on (Some h) w l (cells_of s)) (sym (plain_strokes characters kept text k)), all.1)
played_change_on h w (ClearScreen color) s some low within k = (still h (cells_of (play w (ClearScreen color) s)) (omega (arith, low)), omega arith)
played_change_on h w (ClearToEndOfScreen color) s some low within k = (still h (cells_of (play w (ClearToEndOfScreen color) s)) low, within)
played_change_on h w (CursorPosition x y) s some low within k = (refl, omega arith)

plays_strokes_on : (h w : ℕ) (batch : Batch) (s : Picture) → 0 < w → s.row < h → s.col ≤ w → list_all can_play batch ≡ true
    → (cells_of (play_all_on h w batch s) ≡ steps_on (Some h) w (strokes_of characters kept batch) (cells_of s)) × ((play_all_on h w batch s).row < h) × ((play_all_on h w batch s).col ≤ w)
plays_strokes_on h w [] s some low within k = (refl, low, within)
plays_strokes_on h w (change ∷ changes) s some low within k =
    let both = and_parts (can_play change) (list_all can_play changes) k in
    let one = played_change_on h w change s some low within both.0 in
    let strokes : List (Stroke ℕ) = change_strokes characters kept change in
    let low' : (play_on h w change s).row < h = omega (arith, ap (λ q. q.row) one.0, low-on (Some h) w strokes (cells_of s) low) in
    let rest = plays_strokes_on h w changes (play_on h w change s) some low' one.1 both.1 in (
      rest.0 ∙ ap (steps_on (Some h) w (strokes_of characters kept changes)) one.0
          ∙ sym (steps_on-append (Some h) w strokes (strokes_of characters kept changes) (cells_of s)),
      rest.1,
      rest.2,
    )

pub plays_batches_on : PlaysBatchesOn
plays_batches_on h w [] s some low within k = refl
plays_batches_on h w (batch ∷ more) s some low within k =
    let both = and_parts (list_all can_play batch) (list_all (list_all can_play) more) k in
    let one = plays_strokes_on h w batch s some low within both.0 in
    plays_batches_on h w more (play_all_on h w batch s) some one.1 one.2 both.1
    ∙ ap (play_sized (Some h) false characters w kept (sized_at w more)) one.0
