-- What does not differ is not sent.
use Rattle.std.proofs.Common.{◌≡◌, ◌<◌, ◌≤◌, ◌+◌, ◌*◌, ◌-◌, ◌/◌, ◌%◌, ℕ, zero, suc, Bool, true, false, not, max, cond, Option, Some, None, [], ap, ◌∙◌, refl, arith}
use Rattle.std.proofs.Math.Nat.{mod-lt, div-lt_iff_lt-mul}
use Rattle.std.proofs.lemmas.Bool.{eq-eqb, le-leb, le-ltb}
use Rattle.tw_surface.proofs.EqualityLemmas.{attributes_equal}
use Rattle.tw_surface.specs.declared.cell.CellAttributes.{CellAttributes}
use Rattle.tw_line.specs.Extremes.{greatest_below}
use Rattle.laws_screens.specs.StyledCells.{StyledCell}
use Rattle.tw_sparing.specs.declared.hand.Hand.{Hand}
use Rattle.tw_sparing.specs.Differences.{is_same_cell, is_used, end_of, blank_cell, behind_index}
use Rattle.tw_sparing.specs.Redrawings.{Redrawing, at_ease, redraw_then, led_to, under, row_redrawn, rows_redrawn, handed_to, rest_of, rest_emptied, left_of, lowest_reached, sunk_to, lowered, rows_drawn_on, hand_index, cells_redrawn, goes_onward, gone_onward}
use Rattle.tw_sparing.specs.ShortDifferences.{NothingIsSentForNothing}
use Rattle.tw_sparing.proofs.FoundColumns.{no_change}
use Rattle.tw_sparing.proofs.OnwardScreens.{going_on}

-- ---- ends

greatest_same : (p q : ℕ → Bool) (n : ℕ) → ((k : ℕ) → k < n → p k ≡ q k) → greatest_below p n ≡ greatest_below q n
unfolding greatest_below
greatest_same p q zero same = refl
greatest_same p q (suc n) same =
    ap (λ b. cond b (Some n) (greatest_below p n)) (same n (omega arith))
    ∙ ap (λ x. cond (q n) (Some n) x) (greatest_same p q n (λ k low. same k (omega (arith, low))))

pub same_ends : (w rows : ℕ) (old new : ℕ → ℕ → StyledCell) → 0 < w → ((i j : ℕ) → i < rows → j < w → old i j ≡ new i j) → end_of w rows old ≡ end_of w rows new
same_ends w rows old new some same =
    ap behind_index (greatest_same (is_used w old) (is_used w new) (rows * w)
    (λ k low. ap (λ x. not (is_same_cell x blank_cell)) (same (k / w) (k % w) ((div-lt_iff_lt-mul some).1 low) (mod-lt k some))))

pub no_rest : (w rows : ℕ) (old new : ℕ → ℕ → StyledCell) → end_of w rows old ≤ end_of w rows new → rest_of w rows old new ≡ None
no_rest w rows old new onward = ap (λ b. cond b (Some (end_of w rows new)) None) (le-ltb (end_of w rows new) (end_of w rows old) onward)

-- ---- moves and attributes that are not needed

pub stays_there : (row col : ℕ) (hand : Hand) → hand.row ≡ row → hand.col ≡ col → led_to row col hand ≡ at_ease hand
stays_there row col hand r c =
    rw (eq-eqb hand.row row r, eq-eqb hand.col col c) refl

pub stays_under : (to : CellAttributes) (hand : Hand) → hand.attributes ≡ to → under to hand ≡ at_ease hand
stays_under to hand e = rw ((attributes_equal hand.attributes to).1 e) refl

-- a row above that of the cursor, or its own, is on the terminal
stays_up : (reached row col : ℕ) (hand : Hand) → row ≤ hand.row → sunk_to reached row col hand ≡ led_to row col hand
stays_up reached row col hand up = rw (le-leb row (lowest_reached reached hand) (omega (arith, up))) refl

pub stays_handed : (reached : ℕ) (to hand : Hand) → hand ≡ to → (handed_to reached to hand).changes ≡ []
stays_handed reached to hand e =
    let row : hand.row ≡ to.row = ap (λ (y : Hand). y.row) e in
    ap (λ (x : Redrawing). (redraw_then x (under to.attributes)).changes)
    (stays_up reached to.row to.col hand (omega (arith, row)) ∙ stays_there to.row to.col hand (ap (λ (y : Hand). y.row) e) (ap (λ (y : Hand). y.col) e))
    ∙ ap (λ (x : Redrawing). x.changes) (stays_under to.attributes hand (ap (λ (y : Hand). y.attributes) e))

pub not_lowered : (reached rows : ℕ) (hand : Hand) → rows ≤ reached → lowered reached rows hand ≡ at_ease hand
not_lowered reached rows hand low = rw (le-leb rows reached low) refl

-- ---- rows that do not differ

pub row_stays : (w r : ℕ) (old new : ℕ → ℕ → StyledCell) (hand : Hand) → ((j : ℕ) → j < w → old r j ≡ new r j) → row_redrawn w old new r hand ≡ at_ease hand
row_stays w r old new hand same = rw (no_change w (old r) (new r) same) refl

pub rows_stay : (w r n : ℕ) (old new : ℕ → ℕ → StyledCell) (hand : Hand) → ((i j : ℕ) → r ≤ i → i < r + n → j < w → old i j ≡ new i j) → rows_redrawn w old new r n hand ≡ at_ease hand
rows_stay w r zero old new hand same = refl
rows_stay w r (suc n) old new hand same =
    ap (λ x. redraw_then x (rows_redrawn w old new (suc r) n)) (row_stays w r old new hand (λ j left. same r j (omega arith) (omega arith) left))
    ∙ rows_stay w (suc r) n old new hand (λ i j from to left. same i j (omega (arith, from)) (omega (arith, to)) left)

-- ---- all of it

-- where nothing is emptied and no row is new, the rows and the hand are all that is sent
pub sent_rows_alone : (w reached rows : ℕ) (old new : ℕ → ℕ → StyledCell) (to hand : Hand) → rows ≤ reached → end_of w rows old ≤ end_of w rows new
    → rows_drawn_on w reached rows old new to hand ≡ redraw_then (rows_redrawn w old new 0 rows hand) (handed_to (max reached rows) to)
sent_rows_alone w reached rows old new to hand low onward =
    let last : Hand → Redrawing = handed_to (max reached rows) to in
    let third : Option ℕ → Hand → Redrawing = λ from emptied. redraw_then (rows_redrawn w (left_of w from old) new 0 rows emptied) last in
    let second : Option ℕ → Hand → Redrawing = λ from low. redraw_then (rest_emptied w from low) (third from) in
    ap (λ x. redraw_then x (second (rest_of w rows old new))) (not_lowered reached rows hand low)
    ∙ ap (λ from. redraw_then (rest_emptied w from hand) (third from)) (no_rest w rows old new onward)

pub nothing_is_sent : NothingIsSentForNothing
nothing_is_sent w reached rows old new hand some low same = by_way (goes_onward w reached rows old new hand hand) refl
  where
    ends : end_of w rows old ≡ end_of w rows new
    ends = same_ends w rows old new some same

    by_way : (b : Bool) → goes_onward w reached rows old new hand hand ≡ b
        → (cond b (gone_onward w reached rows new hand hand) (rows_drawn_on w reached rows old new hand hand)).changes ≡ []
    by_way true is =
        let goes = going_on w reached rows old new hand hand is in
        let none : end_of w rows new - hand_index w hand ≡ 0 = omega (arith, ends, goes.ends) in
        ap (λ n. (redraw_then (cells_redrawn w new (hand_index w hand) n hand) (handed_to reached hand)).changes) none ∙ stays_handed reached hand hand refl
    by_way false is =
        let last : Hand → Redrawing = handed_to (max reached rows) hand in
        ap (λ (x : Redrawing). x.changes) (sent_rows_alone w reached rows old new hand hand low (omega (arith, ends)))
        ∙ ap (λ (x : Redrawing). (redraw_then x last).changes) (rows_stay w 0 rows old new hand (λ i j from to left. same i j (omega (arith, to)) left))
        ∙ stays_handed (max reached rows) hand hand refl
