-- A picture on which the new cells are typed on from the cursor is the new one.
use Rattle.std.proofs.Common.{◌≡◌, ◌<◌, ◌≤◌, ◌+◌, ◌-◌, ◌*◌, ◌/◌, ◌%◌, ℕ, suc, max, true, is_none, ap, subst, ◌∙◌, sym, refl, inl, inr, arith}
use Rattle.std.proofs.Math.Nat.{mod-lt, div-lt_iff_lt-mul}
use Rattle.std.proofs.lemmas.Bool.{cases_lt, and_parts, leb-true, false≢true}
use Rattle.std.proofs.lemmas.Nat.{div-mul-add, mod-mul-add, mul-le}
use Rattle.tw_line.specs.Extremes.{NonePasses}
use Rattle.laws_screens.specs.Strokes.{PictureOf}
use Rattle.laws_screens.specs.Pens.{strokes_of}
use Rattle.laws_screens.specs.StyledCells.{StyledCell, styled}
use Rattle.tw_sparing.specs.declared.hand.Hand.{Hand}
use Rattle.tw_sparing.specs.Differences.{differ_in, blank_cell, end_of}
use Rattle.tw_sparing.specs.Redrawings.{Redrawing, hand_index, indexed, cells_redrawn, goes_onward, gone_onward, handed_to}
use Rattle.tw_sparing.specs.Sending.{AreSingle}
use Rattle.tw_sparing.proofs.FoundColumns.{greatest_cases, same_where}
use Rattle.tw_sparing.proofs.DrawnRows.{Holds, redrawn_on, redrawn_both, kept_both, rows_inside}
use Rattle.tw_sparing.proofs.DrawnEnds.{ShowsFrom, end_within, blank_at}
use Rattle.tw_sparing.proofs.DrawnChangedScreens.{Becomes, Handed, handed}
use Rattle.tw_sparing.proofs.TypedCells.{WentOn, went_on, top_after}

-- what is known where a screen goes on
pub record GoesOn (w reached rows : ℕ) (old new : ℕ → ℕ → StyledCell) (to hand : Hand) : Type 0 where
  pub low : rows ≤ max reached (to.row + 1)
  pub ends : end_of w rows old ≤ hand_index w hand
  pub same : NonePasses (differ_in (indexed w old) (indexed w new)) 0 (hand_index w hand)

pub going_on : (w reached rows : ℕ) (old new : ℕ → ℕ → StyledCell) (to hand : Hand) → goes_onward w reached rows old new to hand ≡ true → GoesOn w reached rows old new to hand
going_on w reached rows old new to hand is =
    let full = and_parts _ _ is in
    let same = and_parts _ _ full.0 in
    let ends = and_parts _ _ same.0 in
    record {
      low = leb-true _ _ ends.0;
      ends = leb-true _ _ ends.1;
      same = elim (greatest_cases (differ_in (indexed w old) (indexed w new)) (hand_index w hand)) [
        | inl none ↦ none.1
        | inr found ↦ absurd (false≢true (sym (ap is_none found.1) ∙ same.1))
      ];
    }

module _ (h w s reached rows : ℕ) (old new : ℕ → ℕ → StyledCell) (to hand : Hand) (p : PictureOf StyledCell) (some : 0 < w) (most : rows ≤ h) (known : s + reached ≤ h)
    (inside : p.row < h) (edge : hand.col ≤ w) (to_row : to.row < rows) (to_col : to.col < w)
    (old_blank : (i j : ℕ) → rows ≤ i → old i j ≡ blank_cell) (new_blank : (i j : ℕ) → rows ≤ i → new i j ≡ blank_cell) (single : (i : ℕ) → i < rows → AreSingle w (new i))
    (is_old : ShowsFrom h w s old p) (holds : Holds s hand p) (goes : GoesOn w reached rows old new to hand) where
  abbrev start : ℕ
  start = hand_index w hand

  abbrev pub count : ℕ
  count = end_of w rows new - start

  abbrev pub typing : Redrawing
  typing = cells_redrawn w new start count hand

  -- the cells that are typed are in the rows, or none are typed
  limit : start + count ≤ max rows (hand.row + 1) * w
  limit =
      let ends = end_within w rows new in
      let all : rows * w ≤ max rows (hand.row + 1) * w = mul-le rows w (max rows (hand.row + 1)) w (omega arith) (omega arith) in
      let here : suc hand.row * w ≤ max rows (hand.row + 1) * w = mul-le (suc hand.row) w (max rows (hand.row + 1)) w (omega arith) (omega arith) in
      omega (arith, ends, all, here, edge)

  within : start + count ≤ h * w
  within =
      let top : max rows (hand.row + 1) * w ≤ h * w = mul-le (max rows (hand.row + 1)) w h w (omega (arith, most, holds.row, inside)) (omega arith) in
      let low = limit in
      omega (arith, low, top)

  pub typed_place : (m : ℕ) → start ≤ m → m < start + count → (m / w < rows) × (m % w < w)
  typed_place m from to =
      let ends = end_within w rows new in
      ((div-lt_iff_lt-mul some).1 (omega (arith, from, to, ends)), mod-lt m some)

  pub typing_goes : WentOn h w some s start count new hand typing p
  typing_goes = went_on h w some s start count new hand p within edge refl inside (λ m from to. let place = typed_place m from to in single (m / w) place.0 (m % w) place.1) holds

  abbrev top : ℕ
  top = top_after h w some s typing.hand.row

  pub last_row : typing.hand.row < max rows (hand.row + 1)
  last_row = typing_goes.low (max rows (hand.row + 1)) (omega arith) limit

  shown_then : ShowsFrom h w top new (redrawn_on h w hand typing p)
  shown_then i j left = elim (cases_lt (i * w + j) start) [
    | inl before ↦
        let row : (i * w + j) / w ≡ i = div-mul-add i w j left in
        let col : (i * w + j) % w ≡ j = mod-mul-add i w j left in
        typing_goes.before i j left before ∙ is_old i j left
        ∙ ap (λ n. old n j) (sym row) ∙ ap (λ n. old ((i * w + j) / w) n) (sym col)
        ∙ same_where (indexed w old) (indexed w new) (i * w + j) (goes.same (i * w + j) (omega arith) before)
        ∙ ap (λ n. new ((i * w + j) / w) n) col ∙ ap (λ n. new n j) row
    | inr from ↦ elim (cases_lt (i * w + j) (start + count)) [
      | inl to ↦ typing_goes.inside i j left from to
      | inr behind ↦
          typing_goes.behind i j left behind ∙ is_old i j left
          ∙ blank_at w rows old i j (omega (arith, from, goes.ends)) old_blank left ∙ sym (blank_at w rows new i j (omega (arith, behind)) new_blank left)
    ]
  ]

  pub handing : Handed h w top (s - (s + rows - h)) reached to typing.hand (redrawn_on h w hand typing p)
  handing =
      let last = last_row in
      let end : top - (top + to.row + 1 - h) ≡ s - (s + rows - h) = omega (arith, last, goes.low, known, holds.row, inside, to_row, most) in
      subst (λ t. Handed h w top t reached to typing.hand (redrawn_on h w hand typing p)) end
      (handed h w top reached to typing.hand (redrawn_on h w hand typing p) (omega (arith, known)) (omega (arith, to_row, most)) to_col
      (rows_inside h w (strokes_of styled hand.attributes typing.changes) p inside) typing_goes.leads.holds)

  pub becomes_onward : Becomes h w s (s - (s + rows - h)) new to hand (gone_onward w reached rows new to hand) p
  becomes_onward =
      let last : Hand → Redrawing = handed_to reached to in
      let t : ℕ = s - (s + rows - h) in
      let q : PictureOf StyledCell = redrawn_on h w hand typing p in
      let is = redrawn_both h w hand typing last p typing_goes.leads.kept in
      let rests = last_row in
      let cell_is : (i j : ℕ) → (redrawn_on h w hand (gone_onward w reached rows new to hand) p).cell i j ≡ q.cell (i + (top - t)) j =
      λ i j. ap (λ (v : PictureOf StyledCell). v.cell i j) is ∙ handing.cells i j in
      let up : t ≤ top = omega (arith, rests, goes.low, known, holds.row, inside, to_row, most) in
      record {
        kept = kept_both h w hand typing last typing_goes.leads.kept ∙ handing.kept;
        row = ap (λ (v : PictureOf StyledCell). v.row) is ∙ handing.row;
        col = ap (λ (v : PictureOf StyledCell). v.col) is ∙ handing.col;
        shown = λ i j left. cell_is (s - (s + rows - h) + i) j ∙ ap (λ n. q.cell n j) (let e : t + i + (top - t) ≡ top + i = omega (arith, up) in e) ∙ shown_then i j left;
        above = λ i j low.
            cell_is i j ∙ typing_goes.above (i + (top - t)) j (omega (arith, low, up))
            ∙ ap (λ n. p.cell n j) (let e : i + (top - t) + (s - top) ≡ i + (s - t) = omega (arith, up) in e);
      }
