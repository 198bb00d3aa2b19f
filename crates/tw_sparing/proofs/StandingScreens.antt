-- What is known stands in the picture of a terminal: before a batch is played on it, and afterwards.
use Rattle.std.proofs.Common.{◌≡◌, ◌<◌, ◌≤◌, ◌+◌, ◌-◌, ◌*◌, ◌/◌, ◌%◌, ℕ, cond, ltb, inl, inr, ap, subst, ◌∙◌, sym, refl, arith}
use Rattle.std.proofs.Math.Nat.{mod-lt, add-mul}
use Rattle.std.proofs.lemmas.Bool.{cases_lt, lt-ltb, le-ltb}
use Rattle.laws_screens.specs.Strokes.{PictureOf}
use Rattle.laws_screens.specs.Screens.{blank_of}
use Rattle.laws_screens.specs.StyledCells.{StyledCell, styled}
use Rattle.tw_ansi.specs.declared.encode.Encoder.{Encoder}
use Rattle.tw_ansi.specs.EcmaScreen.{EcmaScreen}
use Rattle.tw_ansi.specs.EcmaTexts.{IsOfRows}
use Rattle.tw_sparing.specs.StyledScreens.{styled_at, without_rows}
use Rattle.tw_sparing.specs.ChangedScreens.{IsBlankFrom, IsSeenFrom}
use Rattle.tw_sparing.specs.Sending.{screen_cells, hand_of}
use Rattle.tw_sparing.specs.declared.shown.Shown.{Shown}
use Rattle.tw_sparing.specs.Shown.{left_behind, FitsTerminal}
use Rattle.tw_sparing.specs.ShownTerminals.{IsShownBy}
use Rattle.tw_sparing.proofs.CutScreens.{cut_cells}
use Rattle.tw_sparing.proofs.SpannedPictures.{IsSpanned, seen_row}

-- ---- before

module _ (h w : ℕ) (e : Encoder) (t : EcmaScreen StyledCell) (p : PictureOf StyledCell) (old : Shown) (a : IsShownBy h w e t p old) where
  abbrev top : ℕ
  top = left_behind h old

  -- what is known, as a picture: what has left the terminal from the screen, and the rest from the terminal
  abbrev part : PictureOf StyledCell
  part = record { cell = λ i j. cond (ltb i top) (screen_cells old.screen i j) (p.cell (a.from + (i - top)) j); row = old.screen.row; col = old.screen.col }

  -- below what stands above it on the terminal
  abbrev whole : PictureOf StyledCell
  whole = record { cell = λ i j. cond (ltb i a.from) (p.cell i j) (part.cell (i - a.from) j); row = old.screen.row + a.from; col = old.screen.col }

  part_left : (i j : ℕ) → top ≤ i → part.cell i j ≡ p.cell (a.from + (i - top)) j
  part_left i j low = ap (λ b. cond b (screen_cells old.screen i j) (p.cell (a.from + (i - top)) j)) (le-ltb i top low)

  part_gone : (i j : ℕ) → i < top → part.cell i j ≡ screen_cells old.screen i j
  part_gone i j up = ap (λ b. cond b (screen_cells old.screen i j) (p.cell (a.from + (i - top)) j)) (lt-ltb i top up)

  whole_below : (i j : ℕ) → a.from ≤ i → whole.cell i j ≡ part.cell (i - a.from) j
  whole_below i j low = ap (λ b. cond b (p.cell i j) (part.cell (i - a.from) j)) (le-ltb i a.from low)

  whole_above : (i j : ℕ) → i < a.from → whole.cell i j ≡ p.cell i j
  whole_above i j up = ap (λ b. cond b (p.cell i j) (part.cell (i - a.from) j)) (lt-ltb i a.from up)

  part_shows : (i j : ℕ) → j < w → part.cell i j ≡ screen_cells old.screen i j
  part_shows i j left = elim (cases_lt i top) [
    | inl up ↦ part_gone i j up
    | inr low ↦ part_left i j low ∙ a.seen.cell (i - top) j left ∙ cut_cells top old.screen (i - top) j ∙ ap (λ n. screen_cells old.screen n j) (omega (arith, low))
  ]

  seen_cell : (i j : ℕ) → p.cell i j ≡ whole.cell (i + seen_row h a.from old) j
  seen_cell i j =
      let room : a.from + (old.reached - (old.reached - h)) ≤ h = a.room in
      elim (cases_lt (i + seen_row h a.from old) a.from) [
        | inl up ↦ ap (λ n. p.cell n j) (omega (arith, up, room)) ∙ sym (whole_above (i + seen_row h a.from old) j up)
        | inr low ↦
            ap (λ n. p.cell n j) (omega (arith, low, room))
            ∙ sym (part_left (i + seen_row h a.from old - a.from) j (omega (arith, low, room)))
            ∙ sym (whole_below (i + seen_row h a.from old) j low)
      ]

  pub start_spans : IsSpanned h w a.from p old p
  start_spans =
      let room : a.from + (old.reached - (old.reached - h)) ≤ h = a.room in
      let above : old.reached - h ≤ old.screen.row = a.fits.row in
      let row : p.row ≡ a.from + (old.screen.row - (old.reached - h)) = a.seen.row in
      record {
        part = part;
        whole = whole;
        width = a.width;
        screen = record {
          cell = λ r c left. part_shows r c (subst (λ n. c < n) a.width left);
          row = refl;
          col = refl;
        };
        known = record { row = refl; col = refl; cell = λ i j. ap (λ n. part.cell n j) (omega arith) ∙ sym (whole_below (i + a.from) j (omega arith)) };
        seen = record { row = omega (arith, room, above, row); col = sym a.seen.col; cell = seen_cell };
        inside = a.picture.within.row;
        low = a.fits.low;
        blank = λ i j far left. part_shows i j left ∙ a.blank i j far;
        bottom = λ i j far.
            ap (λ n. whole.cell n j) (omega (arith, far, room))
            ∙ sym (seen_cell (i - seen_row h a.from old) j)
            ∙ a.picture.within.below (i - seen_row h a.from old) j (omega (arith, far));
        above = λ i j up. whole_above i j up;
      }

-- ---- afterwards

module _ (h w s : ℕ) (first : PictureOf StyledCell) (new : Shown) (q : PictureOf StyledCell) (a : IsSpanned h w s first new q) where
  -- where it stands
  abbrev pub stands_at : ℕ
  stands_at = left_behind h new + s - seen_row h s new

  shown_cell : (i j : ℕ) → j < w → a.part.cell i j ≡ screen_cells new.screen i j
  shown_cell i j left = a.screen.cell i j (subst (λ n. j < n) (sym a.width) left)

  pub span_cell : (i j : ℕ) → j < w → q.cell (stands_at + i) j ≡ screen_cells (without_rows (left_behind h new) new.screen) i j
  span_cell i j left =
      a.seen.cell (stands_at + i) j
      ∙ ap (λ n. a.whole.cell n j) (omega arith)
      ∙ sym (a.known.cell (left_behind h new + i) j)
      ∙ shown_cell (left_behind h new + i) j left
      ∙ sym (cut_cells (left_behind h new) new.screen i j)

  pub span_seen : FitsTerminal h new → IsSeenFrom w stands_at (screen_cells (without_rows (left_behind h new) new.screen)) (hand_of (without_rows (left_behind h new) new.screen)) q
  span_seen fits =
      let above : new.reached - h ≤ new.screen.row = fits.row in
      record {
        cell = span_cell;
        row = omega (arith, a.seen.row, a.known.row, a.screen.row, above);
        col = sym a.seen.col ∙ a.known.col ∙ a.screen.col;
      }

  pub span_within : IsOfRows (blank_of styled) h q
  span_within = record {
    row = a.inside;
    below = λ r c far. a.seen.cell r c ∙ a.bottom (r + seen_row h s new) c (omega (arith, far));
  }

  -- a column after the last one is a column of a row below
  pub span_blank : 0 < w → IsBlankFrom new.reached (screen_cells new.screen)
  span_blank some i j far =
      let q : ℕ = j / w in
      let c : ℕ = j % w in
      let left : j % w < w = mod-lt j some in
      let product : (i + j / w) * w ≡ i * w + (j / w) * w = add-mul i (j / w) w in
      let is : i * w + j ≡ (i + j / w) * w + j % w = parts (j / w) (j % w) (omega (arith, left)) product in
      let here : screen_cells new.screen i j ≡ screen_cells new.screen (i + j / w) (j % w) =
      ap (λ n. styled_at new.screen n) (ap (λ n. i * n + j) a.width ∙ is ∙ ap (λ n. (i + j / w) * n + j % w) (sym a.width)) in
      here ∙ sym (shown_cell (i + j / w) (j % w) left) ∙ a.blank (i + j / w) (j % w) (omega (arith, far)) left
    where
      parts : (n m : ℕ) → j ≡ n * w + m → (i + n) * w ≡ i * w + n * w → i * w + j ≡ (i + n) * w + m
      parts n m e f = omega (arith, e, f)
