-- What is typed at the cursor is sent alone.
use Rattle.std.proofs.Common.{◌≡◌, ◌<◌, ◌≤◌, ◌+◌, ◌-◌, ◌*◌, ◌/◌, ◌%◌, not, ℕ, zero, suc, Bool, true, false, leb, max, cond, Some, [], ◌∷◌, ◌++◌, append-nil, ap, ◌∙◌, sym, refl, inl, inr, arith}
use Rattle.std.proofs.Math.Nat.{mod-lt, div-lt_iff_lt-mul}
use Rattle.std.proofs.lemmas.Nat.{mul-le, div-add-mod'}
use Rattle.std.proofs.lemmas.Bool.{cases_Bool, cases_eq, le-leb}
use Rattle.tw_surface.specs.ChangeView.{Batch, Text}
use Rattle.tw_line.specs.Extremes.{NonePasses}
use Rattle.tw_line.proofs.ExtremesLemmas.{least_from-is, greatest_below-is}
use Rattle.laws_screens.specs.StyledCells.{StyledCell}
use Rattle.tw_ansi.specs.declared.encode.Encoder.{Encoder}
use Rattle.tw_ansi.specs.Encoding.{Sent, at_column, sent_columns, terse_change, terse_batch}
use Rattle.tw_sparing.specs.SingleCharacters.{IsSingle, number_bytes}
use Rattle.tw_sparing.specs.declared.hand.Hand.{Hand}
use Rattle.tw_sparing.specs.Differences.{is_same_cell, differ_in, first_changed, last_changed, blank_cell, is_used, end_of}
use Rattle.tw_sparing.specs.Redrawings.{Redrawing, redraw_then, span_redrawn, row_redrawn, rows_redrawn, handed_to, rows_drawn_on, hand_index, indexed, typed_in_cell, cells_redrawn, goes_onward, gone_onward, under, redrawn}
use Rattle.tw_sparing.specs.ShortDifferences.{characters_from, IsTypedAt, TypedIsSentAlone}
use Rattle.tw_sparing.proofs.SingleCharacters.{number_typed}
use Rattle.tw_sparing.proofs.FoundColumns.{same_where, ends_behind, no_difference}
use Rattle.tw_sparing.proofs.DrawnEnds.{unused_after}
use Rattle.tw_sparing.proofs.TypedCells.{inside_row}
use Rattle.tw_sparing.proofs.OnwardScreens.{going_on}
use Rattle.tw_sparing.proofs.ShortChanges.{stays_there, stays_under, stays_handed, row_stays, rows_stay, sent_rows_alone}

-- ---- the bytes of characters that have room in the row

one_text : (e : Encoder) (n : ℕ) → IsSingle n → e.x + 1 ≤ e.cols → terse_change (Text (number_bytes n)) e ≡ record { bytes = number_bytes n; next = at_column (e.x + 1) e }
one_text e n single room = (number_typed n single).typed e ∙ beginning (le-leb (e.x + 1) e.cols room)
  where
    sent : Sent
    sent = sent_columns e 1 (number_bytes n)

    beginning : leb (e.x + 1) e.cols ≡ true → (let y : Sent = record { bytes = sent.bytes; next = sent.next } in y) ≡ record { bytes = number_bytes n; next = at_column (e.x + 1) e }
    beginning fits = rw fits refl

-- the texts of the characters of n cells of a row, one by one
abbrev pub texts_from : (ℕ → StyledCell) → ℕ → ℕ → Batch
texts_from line c zero = []
texts_from line c (suc n) = Text (number_bytes (line c).ch) ∷ texts_from line (suc c) n

typed_bytes : (line : ℕ → StyledCell) (c n : ℕ) (e : Encoder) → e.x + n ≤ e.cols → ((j : ℕ) → c ≤ j → j < c + n → IsSingle (line j).ch)
    → (terse_batch (texts_from line c n) e).bytes ≡ characters_from line c n
typed_bytes line c zero e room single = refl
typed_bytes line c (suc n) e room single =
    let more : Batch = texts_from line (suc c) n in
    ap (λ (x : Sent). x.bytes ++ (terse_batch more x.next).bytes) (one_text e (line c).ch (single c (omega arith) (omega arith)) (omega (arith, room)))
    ∙ ap (λ bytes. number_bytes (line c).ch ++ bytes) (typed_bytes line (suc c) n (at_column (e.x + 1) e) (omega (arith, room)) (λ j from to. single j (omega (arith, from)) (omega (arith, to))))

-- ---- the changes of a run under the attributes that are selected

abbrev pub moved_on : ℕ → Hand → Hand
moved_on n hand = record hand { col = hand.col + n }

cells_typed : (w : ℕ) (cells : ℕ → ℕ → StyledCell) (r c n : ℕ) (hand : Hand) → hand.row ≡ r → hand.col ≡ c → c + n ≤ w
    → ((j : ℕ) → c ≤ j → j < c + n → (cells r j).attributes ≡ hand.attributes)
    → cells_redrawn w cells (r * w + c) n hand ≡ record { changes = texts_from (cells r) c n; hand = moved_on n hand }
cells_typed w cells r c zero hand row col room same = ap (λ k. let x : Redrawing = record { changes = []; hand = record hand { col = k } } in x) (omega arith)
cells_typed w cells r c (suc n) hand row col room same =
    let k : ℕ = r * w + c in
    let place = inside_row w (r * w + c) r c refl (omega (arith, room)) in
    let ch : ℕ = (cells r c).ch in
    let more : Hand → Redrawing = cells_redrawn w cells (suc (r * w + c)) n in
    let x_is : indexed w cells k ≡ cells r c = ap (λ i. cells i (k % w)) place.0 ∙ ap (cells r) place.1 in
    let next : suc (r * w + c) ≡ r * w + (c + 1) = omega arith in
    ap (λ (x : StyledCell). redraw_then (redraw_then (under x.attributes hand) (typed_in_cell w k x.ch)) more) x_is
    ∙ ap (λ d. redraw_then (redraw_then d (typed_in_cell w k ch)) more) (stays_under (cells r c).attributes hand (sym (same c (omega arith) (omega arith))))
    ∙ ap (λ i. let y : Redrawing = record { changes = Text (number_bytes ch) ∷ []; hand = record hand { row = i; col = k % w + 1 } } in redraw_then y more) (place.0 ∙ sym row)
    ∙ ap (λ j. let y : Redrawing = record { changes = Text (number_bytes ch) ∷ []; hand = record hand { col = j + 1 } } in redraw_then y more) (place.1 ∙ sym col)
    ∙ ap (λ m. let y : Redrawing = record { changes = Text (number_bytes ch) ∷ []; hand = moved_on 1 hand } in redraw_then y (cells_redrawn w cells m n)) next
    ∙ ap (λ (d : Redrawing). let y : Redrawing = record { changes = Text (number_bytes ch) ∷ d.changes; hand = d.hand } in y)
    (cells_typed w cells r (c + 1) n (moved_on 1 hand) row (ap (λ j. j + 1) col) (omega (arith, room)) (λ j from to. same j (omega (arith, from)) (omega (arith, to))))
    ∙ ap (λ m. let y : Redrawing = record { changes = Text (number_bytes ch) ∷ texts_from (cells r) m n; hand = moved_on n (moved_on 1 hand) } in y) (let e : c + 1 ≡ suc c = omega arith in e)
    ∙ ap (λ m. let y : Redrawing = record { changes = texts_from (cells r) c (suc n); hand = record hand { col = m } } in y)
    (let e : hand.col + 1 + n ≡ hand.col + suc n = omega arith in e)

-- ---- the row of the cursor

differs_where : (old new : ℕ → StyledCell) (j : ℕ) → (old j ≡ new j → ⊥) → differ_in old new j ≡ true
differs_where old new j other = elim (cases_Bool (differ_in old new j)) [ inl is ↦ is | inr is ↦ absurd (other (same_where old new j is)) ]

module _ (w rows n : ℕ) (old new : ℕ → ℕ → StyledCell) (hand to : Hand) (t : IsTypedAt w rows n old new hand to) where
  row_typed : row_redrawn w old new hand.row hand ≡ cells_redrawn w new (hand_index w hand) n hand
  row_typed =
      let r : ℕ = hand.row in
      let p : ℕ → Bool = differ_in (old hand.row) (new hand.row) in
      let some : 0 < n = t.some in
      let room : hand.col + n ≤ w = t.col in
      let first : first_changed w (old hand.row) (new hand.row) ≡ Some hand.col =
      least_from-is (differ_in (old hand.row) (new hand.row)) w 0 hand.col (omega arith) (omega (arith, some, room)) (differs_where (old hand.row) (new hand.row) hand.col t.first)
      (λ k low high. no_difference (old hand.row) (new hand.row) k (t.others hand.row k t.row (omega (arith, high, some, room)) (λ e from less. omega (arith, from, high)))) in
      let last : last_changed w (old hand.row) (new hand.row) ≡ Some (hand.col + n - 1) =
      greatest_below-is (differ_in (old hand.row) (new hand.row)) w (hand.col + n - 1) (omega (arith, some, room)) (differs_where (old hand.row) (new hand.row) (hand.col + n - 1) t.last)
      (λ k low high. no_difference (old hand.row) (new hand.row) k (t.others hand.row k t.row high (λ e from less. omega (arith, low, less, some)))) in
      let count : hand.col + n - 1 + 1 - hand.col ≡ n = omega (arith, some) in
      ap (λ f. span_redrawn w hand.row new f (last_changed w (old hand.row) (new hand.row)) hand) first
      ∙ ap (λ l. span_redrawn w hand.row new (Some hand.col) l hand) last
      ∙ ap (λ d. redraw_then d (cells_redrawn w new (hand_index w hand) (hand.col + n - 1 + 1 - hand.col))) (stays_there hand.row hand.col hand refl refl)
      ∙ ap (λ k. cells_redrawn w new (hand_index w hand) k hand) count

  rows_typed : (r count : ℕ) → r ≤ hand.row → hand.row < r + count → r + count ≤ rows → rows_redrawn w old new r count hand ≡ cells_redrawn w new (hand_index w hand) n hand
  rows_typed r zero from less within = absurd (omega (arith, from, less))
  rows_typed r (suc count) from less within = elim (cases_eq r hand.row) [
    | inl e ↦
        let run : Redrawing = cells_redrawn w new (hand_index w hand) n hand in
        ap (λ k. redraw_then (row_redrawn w old new k hand) (rows_redrawn w old new (suc r) count)) e
        ∙ ap (λ d. redraw_then d (rows_redrawn w old new (suc r) count)) row_typed
        ∙ ap (λ (d : Redrawing). let y : Redrawing = record { changes = run.changes ++ d.changes; hand = d.hand } in y)
        (rows_stay w (suc r) count old new run.hand (λ i j low high left. t.others i j (omega (arith, high, within)) left (λ at _ _. omega (arith, at, low, e))))
        ∙ ap (λ changes. let y : Redrawing = record { changes = changes; hand = run.hand } in y) (append-nil run.changes)
    | inr other ↦
        ap (λ d. redraw_then d (rows_redrawn w old new (suc r) count)) (row_stays w r old new hand (λ j left. t.others r j (omega (arith, within)) left (λ at _ _. other at)))
        ∙ rows_typed (suc r) count (omega (arith, from, other)) (omega (arith, less)) (omega (arith, within))
  ]

  -- by rows
  rows_changes : (reached : ℕ) → rows ≤ reached → (rows_drawn_on w reached rows old new to hand).changes ≡ texts_from (new hand.row) hand.col n
  rows_changes reached low =
      let last : Hand → Redrawing = handed_to (max reached rows) to in
      let inside : hand.row < rows = t.row in
      ap (λ (d : Redrawing). d.changes) (sent_rows_alone w reached rows old new to hand low t.onward)
      ∙ ap (λ (d : Redrawing). (redraw_then d last).changes) (rows_typed 0 rows (omega arith) (omega (arith, inside)) (omega arith) ∙ cells_typed w new hand.row hand.col n hand refl refl t.col t.typed)
      ∙ ap (λ changes. texts_from (new hand.row) hand.col n ++ changes) (stays_handed (max reached rows) to (moved_on n hand) (sym t.behind))
      ∙ append-nil (texts_from (new hand.row) hand.col n)

  -- ---- what goes on at the cursor

  module _ (ends : end_of w rows old ≤ hand_index w hand) where
    -- the place of a character that is typed
    place_within : (j : ℕ) → j < w → hand.row * w + j < rows * w
    place_within j left =
        let row : suc hand.row * w ≤ rows * w = mul-le (suc hand.row) w rows w t.row (omega arith) in
        omega (arith, row, left)

    last_used : is_used w new (hand_index w hand + n - 1) ≡ true
    last_used =
        let some : 0 < n = t.some in
        let room : hand.col + n ≤ w = t.col in
        let m : ℕ = hand_index w hand + n - 1 in
        let j : ℕ = hand.col + n - 1 in
        let is : hand.row * w + j ≡ m = omega (arith, some) in
        let place = inside_row w (hand_index w hand + n - 1) hand.row (hand.col + n - 1) is (omega (arith, some, room)) in
        let within = place_within (hand.col + n - 1) (omega (arith, some, room)) in
        let blank : old (m / w) (m % w) ≡ blank_cell =
        same_where (λ c. old (m / w) c) (λ c. blank_cell) (m % w) (unused_after w rows old (hand_index w hand + n - 1) (omega (arith, ends, some)) (omega (arith, is, within))) in
        let here : (f : ℕ → ℕ → StyledCell) → f (m / w) (m % w) ≡ f hand.row j = λ f. ap (λ r. f r (m % w)) place.0 ∙ ap (f hand.row) place.1 in
        differs_where (λ c. new (m / w) c) (λ c. blank_cell) (m % w)
        (λ e. t.last (sym (here old) ∙ blank ∙ sym e ∙ here new))

    none_used : NonePasses (is_used w new) (hand_index w hand + n) (rows * w)
    none_used m low high =
        let some : 0 < n = t.some in
        let fewer : m / w < rows = (div-lt_iff_lt-mul (wide m high)).1 high in
        let left : m % w < w = mod-lt m (wide m high) in
        let whole : m / w * w + m % w ≡ m = div-add-mod' m w in
        ap (λ x. not (is_same_cell x blank_cell)) (sym (t.others (m / w) (m % w) fewer left (λ row from to. absurd (after m low whole row to))))
        ∙ unused_after w rows old m (omega (arith, ends, low)) high
      where
        wide : (m : ℕ) → m < rows * w → 0 < w
        wide m high = let room : hand.col + n ≤ w = t.col in let some : 0 < n = t.some in omega (arith, room, some)

        after : (m : ℕ) → hand_index w hand + n ≤ m → m / w * w + m % w ≡ m → m / w ≡ hand.row → m % w < hand.col + n → ⊥
        after m low whole row to = let same : m / w * w ≡ hand.row * w = ap (λ r. r * w) row in omega (arith, low, whole, same, to)

    typed_count : end_of w rows new - hand_index w hand ≡ n
    typed_count =
        let some : 0 < n = t.some in
        let room : hand.col + n ≤ w = t.col in
        let last = place_within (hand.col + n - 1) (omega (arith, some, room)) in
        let end = ends_behind w rows (hand_index w hand + n) new (omega (arith, some)) (omega (arith, last, some)) last_used none_used in
        omega (arith, end)

  typed_changes : (reached : ℕ) → rows ≤ reached → (redrawn w reached rows old new to hand).changes ≡ texts_from (new hand.row) hand.col n
  typed_changes reached low = by_way (goes_onward w reached rows old new to hand) refl
    where
      by_way : (b : Bool) → goes_onward w reached rows old new to hand ≡ b
          → (cond b (gone_onward w reached rows new to hand) (rows_drawn_on w reached rows old new to hand)).changes
          ≡ texts_from (new hand.row) hand.col n
      by_way false is = rows_changes reached low
      by_way true is =
          let goes = going_on w reached rows old new to hand is in
          let last : Hand → Redrawing = handed_to reached to in
          ap (λ count. (redraw_then (cells_redrawn w new (hand_index w hand) count hand) last).changes) (typed_count goes.ends)
          ∙ ap (λ (d : Redrawing). (redraw_then d last).changes) (cells_typed w new hand.row hand.col n hand refl refl t.col t.typed)
          ∙ ap (λ changes. texts_from (new hand.row) hand.col n ++ changes) (stays_handed reached to (moved_on n hand) (sym t.behind))
          ∙ append-nil (texts_from (new hand.row) hand.col n)

pub typed_is_sent_alone : TypedIsSentAlone
typed_is_sent_alone w reached rows n old new hand to e low t cols at =
    let room : hand.col + n ≤ w = t.col in
    ap (λ changes. (terse_batch changes e).bytes) (typed_changes w rows n old new hand to t reached low)
    ∙ typed_bytes (new hand.row) hand.col n e (omega (arith, room, cols, at)) t.single
