-- What a clearing leaves of a picture, and what is seen of it once its last row has come into sight.
use Rattle.std.proofs.Common.{◌≡◌, ◌<◌, ◌≤◌, ◌+◌, ◌-◌, ◌*◌, ◌/◌, ◌%◌, ◌&&◌, ◌||◌, ℕ, zero, suc, Bool, true, false, cond, eqb, ltb, leb, Some, None, ap, subst, ◌∙◌, sym, refl, inl, inr, arith}
use Rattle.std.proofs.Math.Nat.{mod-lt, div-lt_iff_lt-mul}
use Rattle.std.proofs.lemmas.Nat.{div-mul-add, mod-mul-add, mul-le}
use Rattle.std.proofs.lemmas.Bool.{cases_eq, cases_lt, eq-eqb, ne_eqb, lt-ltb, le-ltb, ltb-true, leb-true, leb-false}
use Rattle.laws_screens.specs.Glyphs.{glyphs}
use Rattle.laws_screens.specs.Strokes.{PictureOf, cleared_in}
use Rattle.laws_screens.specs.Pens.{strokes_of}
use Rattle.laws_screens.specs.StyledCells.{StyledCell, styled}
use Rattle.tw_sparing.specs.Differences.{blank_cell, end_of, is_used, behind_index}
use Rattle.tw_sparing.specs.declared.hand.Hand.{Hand}
use Rattle.tw_sparing.specs.Redrawings.{Redrawing, at_ease, redraw_then, led_to, emptied_here, emptied, rest_of, rest_emptied, left_of, fed_once, fed, lowest_reached, sunk_to, lowered}
use Rattle.tw_sparing.proofs.DrawnRows.{Holds, redrawn_on, redrawn_both, Leads, leads_both, leads_then, leads_ease, gone, unscrolled, rows_inside}
use Rattle.tw_sparing.proofs.FoundColumns.{greatest_cases, same_where}

shifted_eqb : (s i r : ℕ) → eqb (s + i) (s + r) ≡ eqb i r
shifted_eqb s i r = elim (cases_eq i r) [
  | inl e ↦ eq-eqb (s + i) (s + r) (omega (arith, e)) ∙ sym (eq-eqb i r e)
  | inr n ↦ ne_eqb (s + i) (s + r) (λ e. n (omega (arith, e))) ∙ sym (ne_eqb i r n)
]

shifted_ltb : (s i r : ℕ) → ltb (s + i) (s + r) ≡ ltb i r
shifted_ltb s i r = elim (cases_lt i r) [
  | inl e ↦ lt-ltb (s + i) (s + r) (omega (arith, e)) ∙ sym (lt-ltb i r e)
  | inr n ↦ le-ltb (s + i) (s + r) (omega (arith, n)) ∙ sym (le-ltb i r n)
]

-- a clearing from a place on, seen from row s on
cleared_from : {C : Type 0} (f g : ℕ → ℕ → C) (s r c i j : ℕ) (x : C) → f (s + i) j ≡ g i j → cleared_in f (s + r) c x (s + i) j ≡ cleared_in g r c x i j
cleared_from f g s r c i j x is =
    ap (λ b. cond (b || (eqb (s + r) (s + i) && leb c j)) x (f (s + i) j)) (shifted_ltb s r i)
    ∙ ap (λ b. cond (ltb r i || (b && leb c j)) x (f (s + i) j)) (shifted_eqb s r i)
    ∙ ap (λ v. cond (ltb r i || (eqb r i && leb c j)) x v) is

cleared_above : {C : Type 0} (f : ℕ → ℕ → C) (r c i j : ℕ) (x : C) → i < r → cleared_in f r c x i j ≡ f i j
cleared_above f r c i j x up =
    ap (λ b. cond (b || (eqb r i && leb c j)) x (f i j)) (le-ltb r i (omega (arith, up)))
    ∙ ap (λ b. cond (b && leb c j) x (f i j)) (ne_eqb r i (λ e. omega (arith, e, up)))

-- the end of some rows is in them, or after them
pub end_within : (w rows : ℕ) (cells : ℕ → ℕ → StyledCell) → end_of w rows cells ≤ rows * w
end_within w rows cells = elim (greatest_cases (is_used w cells) (rows * w)) [
  | inl none ↦ rw none.0 (omega arith)
  | inr found ↦ rw found.1 (let high = found.2.high in omega (arith, high))
]

-- after the end of some rows no place is used
pub unused_after : (w rows : ℕ) (cells : ℕ → ℕ → StyledCell) (m : ℕ) → end_of w rows cells ≤ m → m < rows * w → is_used w cells m ≡ false
unused_after w rows cells m after inside = elim (greatest_cases (is_used w cells) (rows * w)) [
  | inl none ↦ none.1 m (omega arith) inside
  | inr found ↦ let end : end_of w rows cells ≡ found.0 + 1 = ap behind_index found.1 in found.2.last m (omega (arith, end, after)) inside
]

-- so nothing is shown there
pub blank_at : (w rows : ℕ) (cells : ℕ → ℕ → StyledCell) (i j : ℕ) → end_of w rows cells ≤ i * w + j → ((i j : ℕ) → rows ≤ i → cells i j ≡ blank_cell) → j < w → cells i j ≡ blank_cell
blank_at w rows cells i j after blank left = elim (cases_lt i rows) [
  | inl inside ↦
      let next : suc i * w ≤ rows * w = mul-le (suc i) w rows w inside (omega arith) in
      let within : i * w + w ≤ rows * w = omega (arith, next) in
      let unused = unused_after w rows cells (i * w + j) after (omega (arith, left, within)) in
      let row : (i * w + j) / w ≡ i = div-mul-add i w j left in
      let col : (i * w + j) % w ≡ j = mod-mul-add i w j left in
      ap (λ n. cells n j) (sym row) ∙ ap (λ n. cells ((i * w + j) / w) n) (sym col)
      ∙ same_where (λ n. cells ((i * w + j) / w) n) (λ n. blank_cell) ((i * w + j) % w) unused
  | inr below ↦ blank i j below
]

module _ (h w : ℕ) where
  -- from row s on the picture shows these cells in its columns
  abbrev pub ShowsFrom : ℕ → (ℕ → ℕ → StyledCell) → PictureOf StyledCell → Type 0
  ShowsFrom s cells p = (i j : ℕ) → j < w → p.cell (s + i) j ≡ cells i j

  -- the picture shows other cells from row s on, and the rows above are as they were
  pub record Turns (s : ℕ) (cells : ℕ → ℕ → StyledCell) (hand : Hand) (d : Redrawing) (p : PictureOf StyledCell) : Type 0 where
    pub leads : Leads h w s hand d p
    pub shown : ShowsFrom s cells (redrawn_on h w hand d p)
    pub above : (i j : ℕ) → i < s → (redrawn_on h w hand d p).cell i j ≡ p.cell i j

  emptied_from : (s from : ℕ) (old : ℕ → ℕ → StyledCell) (hand : Hand) (p : PictureOf StyledCell) → s + from / w < h → from % w < w
      → ShowsFrom s old p → Holds s hand p → Turns s (cleared_in old (from / w) (from % w) blank_cell) hand (emptied w from hand) p
  emptied_from s from old hand p low left is_old holds =
      let move : Redrawing = led_to (from / w) (from % w) hand in
      let g = gone h w s (from / w) (from % w) hand p low left holds in
      let q : PictureOf StyledCell = redrawn_on h w hand move p in
      let at_row : q.row ≡ s + from / w = g.leads.holds.row ∙ ap (λ n. s + n) g.row in
      let at_col : q.col ≡ from % w = g.leads.holds.col ∙ g.col in
      let more : Hand → Redrawing = emptied_here in
      let is = redrawn_both h w hand move more p g.leads.kept in
      let empty : PictureOf StyledCell = record q { cell = cleared_in q.cell q.row q.col blank_cell } in
      let still = unscrolled h empty (omega (arith, at_row, low)) in
      let second : Leads h w s move.hand (more move.hand) q = record { kept = refl; holds = record { row = still.0 ∙ g.leads.holds.row; col = g.leads.holds.col }; stays = (tt, tt) } in
      let end : (i j : ℕ) → (redrawn_on h w hand (emptied w from hand) p).cell i j ≡ cleared_in q.cell (s + from / w) (from % w) blank_cell i j =
      λ i j. ap (λ (v : PictureOf StyledCell). v.cell i j) is ∙ still.1 i j ∙ ap (λ n. cleared_in q.cell n q.col blank_cell i j) at_row ∙ ap (λ n. cleared_in q.cell (s + from / w) n blank_cell i j) at_col in
      record {
        leads = leads_both h w s hand move more p g.leads second;
        shown = λ i j left. end (s + i) j ∙ cleared_from q.cell old s (from / w) (from % w) i j blank_cell (g.cells (s + i) j ∙ is_old i j left);
        above = λ i j up. end i j ∙ cleared_above q.cell (s + from / w) (from % w) i j blank_cell (omega (arith, up)) ∙ g.cells i j;
      }

  -- ---- the rest is emptied

  rest_cases : (s rows : ℕ) (old new : ℕ → ℕ → StyledCell) (hand : Hand) (p : PictureOf StyledCell) → 0 < w → s + rows ≤ h → ShowsFrom s old p → Holds s hand p
      → (b : Bool) → ltb (end_of w rows new) (end_of w rows old) ≡ b
      → Turns s (left_of w (cond b (Some (end_of w rows new)) None) old) hand (rest_emptied w (cond b (Some (end_of w rows new)) None) hand) p
  rest_cases s rows old new hand p some low is_old holds true is =
      let less : end_of w rows new < end_of w rows old = ltb-true _ _ is in
      let most = end_within w rows old in
      let line : end_of w rows new / w < rows = (div-lt_iff_lt-mul some).1 (omega (arith, less, most)) in
      emptied_from s (end_of w rows new) old hand p (omega (arith, line, low)) (mod-lt (end_of w rows new) some) is_old holds
  rest_cases s rows old new hand p some low is_old holds false is = record {
    leads = leads_ease h w s hand p holds;
    shown = is_old;
    above = λ i j up. refl;
  }

  pub rest : (s rows : ℕ) (old new : ℕ → ℕ → StyledCell) (hand : Hand) (p : PictureOf StyledCell) → 0 < w → s + rows ≤ h → ShowsFrom s old p → Holds s hand p
      → Turns s (left_of w (rest_of w rows old new) old) hand (rest_emptied w (rest_of w rows old new) hand) p
  rest s rows old new hand p some low is_old holds = rest_cases s rows old new hand p some low is_old holds (ltb (end_of w rows new) (end_of w rows old)) refl

  -- the cursor goes to a row of the terminal, whose rows go up as far as that needs
  pub record Sinks (s t r c : ℕ) (hand : Hand) (d : Redrawing) (p : PictureOf StyledCell) : Type 0 where
    pub leads : Leads h w t hand d p
    pub row : d.hand.row ≡ r
    pub col : d.hand.col ≡ c
    pub attributes : d.hand.attributes ≡ hand.attributes
    pub cells : (i j : ℕ) → (redrawn_on h w hand d p).cell i j ≡ p.cell (i + (s - t)) j

  sinks_then : (s t u r c r1 c1 : ℕ) (hand : Hand) (d : Redrawing) (more : Hand → Redrawing) (p : PictureOf StyledCell) → t ≤ s → u ≤ t
      → Sinks s t r c hand d p → Sinks t u r1 c1 d.hand (more d.hand) (redrawn_on h w hand d p) → Sinks s u r1 c1 hand (redraw_then d more) p
  sinks_then s t u r c r1 c1 hand d more p first_up second_up a b = record {
    leads = leads_then h w t u hand d more p a.leads b.leads;
    row = b.row;
    col = b.col;
    attributes = b.attributes ∙ a.attributes;
    cells = λ i j.
        ap (λ (v : PictureOf StyledCell). v.cell i j) (redrawn_both h w hand d more p a.leads.kept) ∙ b.cells i j ∙ a.cells (i + (t - u)) j
        ∙ ap (λ n. p.cell n j) (let e : i + (t - u) + (s - t) ≡ i + (s - u) = omega (arith, first_up, second_up) in e);
  }

  -- a move to a row that is on the terminal
  sinks_by_move : (s row col : ℕ) (hand : Hand) (p : PictureOf StyledCell) → s + row < h → col < w → Holds s hand p → Sinks s s row col hand (led_to row col hand) p
  sinks_by_move s row col hand p low left holds =
      let g = gone h w s row col hand p low left holds in
      record {
        leads = g.leads;
        row = g.row;
        col = g.col;
        attributes = g.attributes;
        cells = λ i j. g.cells i j ∙ ap (λ n. p.cell n j) (let e : i ≡ i + (s - s) = omega arith in e);
      }

  -- a line feed
  sinks_once : (s : ℕ) (hand : Hand) (p : PictureOf StyledCell) → hand.row + 1 < h → p.row < h → Holds s hand p
      → Sinks s (s - (s + hand.row + 2 - h)) (hand.row + 1) hand.col hand (fed_once hand) p
  unfolding glyphs
  sinks_once s hand p low inside holds = record {
    leads = record {
      kept = refl;
      holds = record { row = let e : p.row + 1 - (p.row + 1 + 1 - h) ≡ s - (s + hand.row + 2 - h) + (hand.row + 1) = omega (arith, holds.row, low, inside) in e; col = holds.col };
      stays = (tt, tt);
    };
    row = refl;
    col = refl;
    attributes = refl;
    cells = λ i j. ap (λ n. p.cell n j) (let e : i + (p.row + 1 + 1 - h) ≡ i + (s - (s - (s + hand.row + 2 - h))) = omega (arith, holds.row, low, inside) in e);
  }

  -- some line feeds
  sinks_by_feeds : (s n : ℕ) (hand : Hand) (p : PictureOf StyledCell) → hand.row + n < h → p.row < h → Holds s hand p
      → Sinks s (s - (s + hand.row + n + 1 - h)) (hand.row + n) hand.col hand (fed n hand) p
  sinks_by_feeds s zero hand p low inside holds =
      subst (λ t. Sinks s t (hand.row + 0) hand.col hand (fed 0 hand) p) (let e : s ≡ s - (s + hand.row + 0 + 1 - h) = omega (arith, holds.row, inside) in e) (record {
        leads = leads_ease h w s hand p holds;
        row = omega arith;
        col = refl;
        attributes = refl;
        cells = λ i j. ap (λ n. p.cell n j) (let e : i ≡ i + (s - s) = omega arith in e);
      })
  sinks_by_feeds s (suc n) hand p low inside holds =
      let t : ℕ = s - (s + hand.row + 2 - h) in
      let first : Redrawing = fed_once hand in
      let a = sinks_once s hand p (omega (arith, low)) inside holds in
      let q : PictureOf StyledCell = redrawn_on h w hand first p in
      let b = sinks_by_feeds (s - (s + hand.row + 2 - h)) n first.hand q (omega (arith, low)) (rows_inside h w (strokes_of styled hand.attributes first.changes) p inside) a.leads.holds in
      let end : t - (t + (hand.row + 1) + n + 1 - h) ≡ s - (s + hand.row + suc n + 1 - h) = omega (arith, holds.row, inside, low) in
      let last : hand.row + 1 + n ≡ hand.row + suc n = omega arith in
      subst (λ u. Sinks s u (hand.row + suc n) hand.col hand (fed (suc n) hand) p) end
      (subst (λ r. Sinks s (t - (t + (hand.row + 1) + n + 1 - h)) r hand.col hand (fed (suc n) hand) p) last
      (sinks_then s (s - (s + hand.row + 2 - h)) (t - (t + (hand.row + 1) + n + 1 - h)) _ _ _ _ hand first (fed n) p (omega arith) (omega arith) a b))

  module _ (s reached row col : ℕ) (hand : Hand) (p : PictureOf StyledCell) (known : s + reached ≤ h) (low : row < h) (left : col < w) (inside : p.row < h) (holds : Holds s hand p) where
    abbrev last : ℕ
    last = lowest_reached reached hand

    -- by line feeds from the last row that is on the terminal
    sinks_down : last < row → Sinks s (s - (s + row + 1 - h)) row col hand (redraw_then (led_to last 0 hand) (λ there. redraw_then (fed (row - last) there) (led_to row col))) p
    sinks_down less =
        let first : Redrawing = led_to last 0 hand in
        let a = sinks_by_move s last 0 hand p (omega (arith, known, holds.row, inside)) (omega (arith, left)) holds in
        let q : PictureOf StyledCell = redrawn_on h w hand first p in
        let second : Redrawing = fed (row - last) first.hand in
        let b = sinks_by_feeds s (row - last) first.hand q (omega (arith, a.row, less, low)) (rows_inside h w (strokes_of styled hand.attributes first.changes) p inside) a.leads.holds in
        let up : s - (s + first.hand.row + (row - last) + 1 - h) ≡ s - (s + row + 1 - h) = omega (arith, a.row, less) in
        let c = subst (λ t. Sinks s t (first.hand.row + (row - last)) first.hand.col first.hand (fed (row - last) first.hand) q) up b in
        let d = sinks_by_move (s - (s + row + 1 - h)) row col second.hand (redrawn_on h w first.hand second q) (omega (arith, low)) left c.leads.holds in
        sinks_then s s (s - (s + row + 1 - h)) _ _ _ _ hand first (λ there. redraw_then (fed (row - last) there) (led_to row col)) p (omega arith) (omega arith) a
        (sinks_then s (s - (s + row + 1 - h)) (s - (s + row + 1 - h)) _ _ _ _ first.hand second (led_to row col) q (omega arith) (omega arith) c d)

    sinks_cases : (b : Bool) → leb row last ≡ b
        → Sinks s (s - (s + row + 1 - h)) row col hand (cond b (led_to row col hand) (redraw_then (led_to last 0 hand) (λ there. redraw_then (fed (row - last) there) (led_to row col)))) p
    sinks_cases true is =
        let up : row ≤ last = leb-true row last is in
        let fits : s + row < h = omega (arith, up, known, holds.row, inside) in
        subst (λ t. Sinks s t row col hand (led_to row col hand) p) (let e : s ≡ s - (s + row + 1 - h) = omega (arith, fits) in e) (sinks_by_move s row col hand p fits left holds)
    sinks_cases false is = sinks_down (leb-false row last is)

    pub sinks : Sinks s (s - (s + row + 1 - h)) row col hand (sunk_to reached row col hand) p
    sinks = sinks_cases (leb row last) refl

  -- ---- the last row comes into sight

  -- the picture shows the same cells from row t on, and the rows above are as they were, moved up
  pub record Rises (s t : ℕ) (cells : ℕ → ℕ → StyledCell) (hand : Hand) (d : Redrawing) (p : PictureOf StyledCell) : Type 0 where
    pub leads : Leads h w t hand d p
    pub attributes : d.hand.attributes ≡ hand.attributes
    pub shown : ShowsFrom t cells (redrawn_on h w hand d p)
    pub above : (i j : ℕ) → i < t → (redrawn_on h w hand d p).cell i j ≡ p.cell (i + (s - t)) j

  not_lowered : (s t : ℕ) (old : ℕ → ℕ → StyledCell) (hand : Hand) (p : PictureOf StyledCell) → t ≡ s → ShowsFrom s old p → Holds s hand p → Rises s t old hand (at_ease hand) p
  not_lowered s t old hand p same is_old holds = record {
    leads = record { kept = refl; holds = record { row = holds.row ∙ omega (arith, same); col = holds.col }; stays = tt };
    attributes = refl;
    shown = λ i j left. ap (λ n. p.cell (n + i) j) same ∙ is_old i j left;
    above = λ i j up. ap (λ n. p.cell n j) (omega (arith, same));
  }

  module _ (s reached rows : ℕ) (old : ℕ → ℕ → StyledCell) (hand : Hand) (p : PictureOf StyledCell) (some : 0 < w) (most : rows ≤ h) (low : s + reached ≤ h)
      (inside : p.row < h) (is_old : ShowsFrom s old p) (holds : Holds s hand p) where
    lowered_cases : (b : Bool) → leb rows reached ≡ b → Rises s (s - (s + rows - h)) old hand (cond b (at_ease hand) (sunk_to reached (rows - 1) 0 hand)) p
    lowered_cases true is =
        let up : rows ≤ reached = leb-true rows reached is in
        not_lowered s (s - (s + rows - h)) old hand p (omega (arith, up, low)) is_old holds
    lowered_cases false is =
        let one : 0 < rows = let more : reached < rows = leb-false rows reached is in omega (arith, more) in
        let k = sinks s reached (rows - 1) 0 hand p low (omega (arith, one, most)) some inside holds in
        let last : s - (s + (rows - 1) + 1 - h) ≡ s - (s + rows - h) = omega (arith, one) in
        subst (λ t. Rises s t old hand (sunk_to reached (rows - 1) 0 hand) p) last (record {
          leads = k.leads;
          attributes = k.attributes;
          shown = λ i j left. k.cells (s - (s + (rows - 1) + 1 - h) + i) j ∙ ap (λ n. p.cell n j) (omega arith) ∙ is_old i j left;
          above = λ i j up. k.cells i j;
        })

    pub rises : Rises s (s - (s + rows - h)) old hand (lowered reached rows hand) p
    rises = lowered_cases (leb rows reached) refl
