-- The changes of a redrawing are such that their bytes do what they do.
use Rattle.std.proofs.Common.{◌≡◌, ◌<◌, ◌≤◌, ◌+◌, ◌-◌, ◌*◌, ◌/◌, ◌%◌, ◌&&◌, ℕ, ℤ, zero, suc, pos, negsuc, ◌-ℤ◌, Bool, true, false, cond, eqb, leb, Some, [], ◌∷◌, ◌++◌, subst, sym, refl, inl, inr, arith}
use Rattle.std.specs.List.{AllByRecursion}
use Rattle.std.proofs.lemmas.Bool.{eqb-true, and_parts, leb-false}
use Rattle.std.proofs.lemmas.Int.{ints}
use Rattle.tw_surface.specs.contracts.cell.CellAttributesPartialEq.TheImpl.{ghosts as attributes}
use Rattle.tw_surface.specs.declared.cell.CellAttributes.{CellAttributes}
use Rattle.tw_surface.specs.declared.change.Position.TheVariants.{Absolute, Relative}
use Rattle.tw_surface.specs.Characters.{lf}
use Rattle.tw_surface.specs.ChangeView.{ChangeView, Batch}
use Rattle.tw_surface.specs.ChangeView.{Attribute, AllAttributes, Text, ClearScreen, ClearToEndOfScreen, CursorPosition}
use Rattle.laws_screens.specs.Strokes.{PictureOf, steps_on}
use Rattle.laws_screens.specs.Pens.{change_strokes}
use Rattle.laws_screens.specs.StyledCells.{StyledCell, styled}
use Rattle.tw_ansi.specs.declared.encode.Encoder.{Encoder}
use Rattle.tw_ansi.specs.Sequences.{most_rows}
use Rattle.tw_ansi.specs.Encoding.{sent_change}
use Rattle.tw_ansi.specs.EcmaBatches.{IsReached, IsSendable, AreSendable}
use Rattle.tw_ansi.specs.EcmaTexts.{is_sent}
use Rattle.tw_sparing.specs.Differences.{differ_in, first_changed, last_changed}
use Rattle.tw_ansi.proofs.EcmaPaintings.{plain_sent}
use Rattle.tw_sparing.specs.declared.hand.Hand.{Hand}
use Rattle.tw_sparing.specs.Redrawings.{Redrawing, at_ease, redraw_then, led_to, under, indexed, typed_in_cell, cell_redrawn, cells_redrawn, span_redrawn, row_redrawn, rows_redrawn, fed_once, fed, lowest_reached, sunk_to, handed_to, lowered}
use Rattle.tw_sparing.specs.ChangedScreens.{AreByBytes, IsInk}
use Rattle.tw_sparing.proofs.SingleCharacters.{number_typed}
use Rattle.tw_sparing.proofs.FoundColumns.{least_cases, greatest_cases}
use Rattle.tw_sparing.proofs.TypedCells.{inside_row}

-- changes that can be sent whatever a terminal of some columns shows
abbrev pub IsEasy : ChangeView → Type 0
IsEasy (Text text) = (w : ℕ) → 0 < w → is_sent w text ≡ true
IsEasy (Attribute change) = ⊥
IsEasy (AllAttributes to) = AreByBytes to
IsEasy (ClearScreen color) = ⊥
IsEasy (ClearToEndOfScreen color) = ⊥
IsEasy (CursorPosition x y) = (h : ℕ) → IsReached h y

easy_sendable : (h w : ℕ) (x : ChangeView) (e : Encoder) (p : PictureOf StyledCell) → 0 < w → IsEasy x → IsSendable styled h w e x p
easy_sendable h w (Text text) e p some a = a w some
easy_sendable h w (Attribute change) e p some a = absurd a
easy_sendable h w (AllAttributes to) e p some a = a
easy_sendable h w (ClearScreen color) e p some a = absurd a
easy_sendable h w (ClearToEndOfScreen color) e p some a = absurd a
easy_sendable h w (CursorPosition x y) e p some a = a h

pub all_sendable : (h w : ℕ) (xs : Batch) (e : Encoder) (p : PictureOf StyledCell) → 0 < w → AllByRecursion IsEasy xs → AreSendable styled h w e xs p
all_sendable h w [] e p some a = tt
all_sendable h w (x ∷ xs) e p some a =
    (easy_sendable h w x e p some a.0, all_sendable h w xs (sent_change x e).next (steps_on (Some h) w (change_strokes styled (styled.attributes e.attributes) x) p) some a.1)

-- such changes, which leave the hand in a row that a move reaches
pub record IsSent (d : Redrawing) : Type 0 where
  pub easy : AllByRecursion IsEasy d.changes
  pub low : d.hand.row ≤ most_rows

both_easy : (xs ys : Batch) → AllByRecursion IsEasy xs → AllByRecursion IsEasy ys → AllByRecursion IsEasy (xs ++ ys)
both_easy [] ys a b = b
both_easy (x ∷ xs) ys a b = (a.0, both_easy xs ys a.1 b)

pub sent_both : (d : Redrawing) (more : Hand → Redrawing) → IsSent d → IsSent (more d.hand) → IsSent (redraw_then d more)
sent_both d more a b = record { easy = both_easy d.changes (more d.hand).changes a.easy b.easy; low = b.low }

pub sent_ease : (hand : Hand) → hand.row ≤ most_rows → IsSent (at_ease hand)
sent_ease hand low = record { easy = tt; low = low }

reached : (from to : ℕ) → from ≤ most_rows → to ≤ most_rows → (h : ℕ) → IsReached h (Relative (pos to -ℤ pos from))
reached from to a b h = by_sign (pos to -ℤ pos from) refl
  where
    by_sign : (z : ℤ) → z ≡ (pos to -ℤ pos from) → IsReached h (Relative z)
    by_sign (pos k) e = omega (arith, ints, e, a, b)
    by_sign (negsuc k) e = omega (arith, ints, e, a, b)

pub sent_move : (row col : ℕ) (hand : Hand) → row ≤ most_rows → hand.row ≤ most_rows → IsSent (led_to row col hand)
sent_move row col hand to from = by_place (eqb hand.row row && eqb hand.col col)
  where
    by_place : (b : Bool) → IsSent (cond b (at_ease hand) (record { changes = CursorPosition (Absolute col) (Relative (pos row -ℤ pos hand.row)) ∷ []; hand = record hand { row = row; col = col } }))
    by_place true = sent_ease hand from
    by_place false = record { easy = (reached hand.row row from to, tt); low = to }

pub sent_under : (to : CellAttributes) (hand : Hand) → AreByBytes to → hand.row ≤ most_rows → IsSent (under to hand)
sent_under to hand colors low = by_same (attributes.eq hand.attributes to)
  where
    by_same : (b : Bool) → IsSent (cond b (at_ease hand) (record { changes = AllAttributes to ∷ []; hand = record hand { attributes = to } }))
    by_same true = sent_ease hand low
    by_same false = record { easy = (colors, tt); low = low }

-- cells that are typed one after the other
pub sent_cells : (w k n : ℕ) (cells : ℕ → ℕ → StyledCell) (hand : Hand) → ((m : ℕ) → k ≤ m → m < k + n → IsInk (indexed w cells m) × (m / w ≤ most_rows)) → hand.row ≤ most_rows
    → IsSent (cells_redrawn w cells k n hand)
sent_cells w k zero cells hand ink low = sent_ease hand low
sent_cells w k (suc n) cells hand ink low =
    let x : StyledCell = indexed w cells k in
    let here = ink k (omega arith) (omega arith) in
    let first : Redrawing = under x.attributes hand in
    let typed : IsSent (typed_in_cell w k x.ch first.hand) = record { easy = ((number_typed x.ch here.0.0).sent, tt); low = here.1 } in
    let cell = sent_both first (typed_in_cell w k x.ch) (sent_under x.attributes hand here.0.1 low) typed in
    sent_both (cell_redrawn w cells k hand) (cells_redrawn w cells (suc k) n) cell
    (sent_cells w (suc k) n cells (cell_redrawn w cells k hand).hand (λ m from to. ink m (omega (arith, from)) (omega (arith, to))) cell.low)

sent_row : (w r : ℕ) (old : ℕ → StyledCell) (new : ℕ → ℕ → StyledCell) (hand : Hand) → ((j : ℕ) → j < w → IsInk (new r j)) → r ≤ most_rows → hand.row ≤ most_rows
    → IsSent (span_redrawn w r new (first_changed w old (new r)) (last_changed w old (new r)) hand)
sent_row w r old new hand ink here low = elim (least_cases (differ_in old (new r)) w 0) [
  | inl none ↦ rw none.0 (sent_ease hand low)
  | inr found ↦ elim (greatest_cases (differ_in old (new r)) w) [
    | inl none ↦ rw (found.1, none.0) (sent_ease hand low)
    | inr last ↦ rw (found.1, last.1) (span found.0 last.0 last.2.high)
  ]
]
  where
    typed : (first last m : ℕ) → last < w → r * w + first ≤ m → m < r * w + first + (last + 1 - first) → IsInk (indexed w new m) × (m / w ≤ most_rows)
    typed first last m left from to =
        let at : r * w + (m - r * w) ≡ m = omega (arith, from) in
        let place = inside_row w m r (m - r * w) at (omega (arith, from, to, left)) in
        let there = ink (m - r * w) (omega (arith, from, to, left)) in
        (subst (λ i. IsInk (new i (m % w))) (sym place.0) (subst (λ j. IsInk (new r j)) (sym place.1) there), omega (arith, place.0, here))

    span : (first last : ℕ) → last < w → IsSent (span_redrawn w r new (Some first) (Some last) hand)
    span first last left =
        let a = sent_move r first hand here low in
        sent_both (led_to r first hand) (cells_redrawn w new (r * w + first) (last + 1 - first)) a
        (sent_cells w (r * w + first) (last + 1 - first) new (led_to r first hand).hand (λ m from to. typed first last m left from to) a.low)

pub sent_rows : (w r n : ℕ) (old new : ℕ → ℕ → StyledCell) (hand : Hand) → ((i j : ℕ) → r ≤ i → i < r + n → j < w → IsInk (new i j)) → r + n ≤ most_rows → hand.row ≤ most_rows
    → IsSent (rows_redrawn w old new r n hand)
sent_rows w r zero old new hand ink here low = sent_ease hand low
sent_rows w r (suc n) old new hand ink here low =
    let a = sent_row w r (old r) new hand (λ j left. ink r j (omega arith) (omega arith) left) (omega (arith, here)) low in
    sent_both (row_redrawn w old new r hand) (rows_redrawn w old new (suc r) n) a
    (sent_rows w (suc r) n old new (row_redrawn w old new r hand).hand (λ i j from to left. ink i j (omega (arith, from)) (omega (arith, to)) left) (omega (arith, here)) a.low)

sent_feeds : (n : ℕ) (hand : Hand) → hand.row + n ≤ most_rows → IsSent (fed n hand)
sent_feeds zero hand low = sent_ease hand (omega (arith, low))
sent_feeds (suc n) hand low = sent_both (fed_once hand) (fed n) (record { easy = (λ w some. plain_sent w (lf ∷ []) refl, tt); low = omega (arith, low) }) (sent_feeds n (fed_once hand).hand (omega (arith, low)))

-- a move leads to its row
led_row : (row col : ℕ) (hand : Hand) → (led_to row col hand).hand.row ≡ row
led_row row col hand = by_place (eqb hand.row row && eqb hand.col col) refl
  where
    by_place : (b : Bool) → (eqb hand.row row && eqb hand.col col) ≡ b
        → (cond b (at_ease hand) (record { changes = CursorPosition (Absolute col) (Relative (pos row -ℤ pos hand.row)) ∷ []; hand = record hand { row = row; col = col } })).hand.row ≡ row
    by_place true is = eqb-true hand.row row (and_parts _ _ is).0
    by_place false is = refl

module _ (reached row col : ℕ) (hand : Hand) (here : row ≤ most_rows) (low : hand.row ≤ most_rows) where
  abbrev last : ℕ
  last = lowest_reached reached hand

  sunk_cases : (b : Bool) → leb row last ≡ b
      → IsSent (cond b (led_to row col hand) (redraw_then (led_to last 0 hand) (λ there. redraw_then (fed (row - last) there) (led_to row col))))
  sunk_cases true is = sent_move row col hand here low
  sunk_cases false is =
      let less : last < row = leb-false row last is in
      let first : Redrawing = led_to last 0 hand in
      let a = sent_move last 0 hand (omega (arith, less, here)) low in
      let b = sent_feeds (row - last) first.hand (omega (arith, led_row last 0 hand, less, here)) in
      sent_both first (λ there. redraw_then (fed (row - last) there) (led_to row col)) a
      (sent_both (fed (row - last) first.hand) (led_to row col) b (sent_move row col (fed (row - last) first.hand).hand here b.low))

  sent_sunk : IsSent (sunk_to reached row col hand)
  sent_sunk = sunk_cases (leb row last) refl

pub sent_handed : (reached : ℕ) (to hand : Hand) → AreByBytes to.attributes → to.row ≤ most_rows → hand.row ≤ most_rows → IsSent (handed_to reached to hand)
sent_handed reached to hand colors here low =
    let a = sent_sunk reached to.row to.col hand here low in
    sent_both (sunk_to reached to.row to.col hand) (under to.attributes) a (sent_under to.attributes (sunk_to reached to.row to.col hand).hand colors a.low)

pub sent_lowered : (reached rows : ℕ) (hand : Hand) → rows ≤ most_rows → hand.row ≤ most_rows → IsSent (lowered reached rows hand)
sent_lowered reached rows hand here low = by_reached (leb rows reached)
  where
    by_reached : (b : Bool) → IsSent (cond b (at_ease hand) (sunk_to reached (rows - 1) 0 hand))
    by_reached true = sent_ease hand low
    by_reached false = sent_sunk reached (rows - 1) 0 hand (omega (arith, here)) low
