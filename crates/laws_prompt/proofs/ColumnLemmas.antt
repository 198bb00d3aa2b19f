-- Where typed columns and the text that shows rows lead.
use Rattle.std.proofs.Common.{◌≡◌, ℕ, suc, pos, ◌+ℤ◌, ◌+◌, ◌*◌, ◌/◌, ◌%◌, ◌<◌, ◌≤◌, Bool, true, false, leb, List, [], ◌∷◌, ◌++◌, length, map, refl, ap, ◌∙◌, arith, length-append, ℤ, zero, negsuc, ◌-ℤ◌, ◌-◌, ◌&&◌, eqb, if◌then◌else◌, take, drop, sym, inl, inr}
use Rattle.std.specs.List.{list_all}
use Rattle.std.proofs.lemmas.Bool.{and_parts, leb-true, leb-false, ne_eqb, false≢true, and_from, le-leb, cases_lt}
use Rattle.std.proofs.lemmas.List.{map-append}
use Rattle.std.proofs.Math.Nat.{mul-add-mod_self_right, mul-add-div_right, mod-eq_of_lt, div-eq_of_lt, add-mul, one-mul}
use Rattle.tw_surface.specs.declared.measure.Piece.{Piece}
use Rattle.tw_surface.specs.declared.measure.Piece.TheVariants.{Wide, Cr, Lf}
use Rattle.tw_surface.specs.ChangeView.{Batch, Attribute, AllAttributes, Text}
use Rattle.tw_surface.specs.Characters.{is_plain, is_printable, cr, lf}
use Rattle.tw_surface.specs.Places.{Place, pieces, plain_piece, next_place, end_of_pieces, place_after_all, places_after, origin, is_in_range, begins_at}
use Rattle.tw_surface.specs.Scenes.{is_typing, typed_text}
use Rattle.tw_surface.proofs.RowLemmas.{plain_from_printable}
use Rattle.std.proofs.lemmas.Int.{ints}
use Rattle.std.proofs.lemmas.Nat.{div-add-mod', mod_below}
use Rattle.std.proofs.Math.Seq.{take-append_seam, drop-append_seam}
use Rattle.tw_surface.specs.Positions.{at_least_0}
use Rattle.tw_hosts.specs.Settling.{place_after_text, needed_by_text, line_start, rows_between, settled_place, settled_pieces, is_settled, is_measured, is_ahead}
use Rattle.tw_hosts.proofs.SettlingLemmas.{plain_needs, plain_settles, column_leads_there, cursor_is_settled}
use Rattle.laws_prompt.specs.Rows.{is_row_character, before_rows, rows_of_text, rows_taken, rows_down, column_after, row_cell, row_edge, spread, columns_behind, shown_cut}
use Rattle.laws_prompt.specs.RowCells.{ArePrintableRows, RowColumnLeadsThere, CursorStandsInItsRow, RowColumnIsSettled}
use Rattle.laws_prompt.proofs.RowTexts.{over_rows, an-edge, no-edge, spread-plain, some-rows, before-row}

-- a place after n columns from the beginning of a row on: some rows below it
pub record IsTip (cols from n : ℕ) (p : Place) : Type 0 where
  pub down : ℕ
  pub columns : n ≡ down * cols + p.x
  pub row : p.y ≡ pos (from + down)
  pub within : p.x ≤ cols
  pub off_start : 0 < n → 0 < p.x

pub tip-start : (cols from : ℕ) → IsTip cols from 0 (record { x = 0; y = pos from })
tip-start cols from = record { down = 0; columns = omega arith; row = ap pos (let e : from ≡ from + 0 = omega arith in e); within = omega arith; off_start = λ h. absurd (omega (arith, h)) }

-- one more column
pub tip-step : (cols from n : ℕ) (p : Place) → 0 < cols → IsTip cols from n p → IsTip cols from (n + 1) (next_place cols (Wide 1) p)
tip-step cols from n p some h = by (leb (p.x + 1) cols) refl
  where
    by : (b : Bool) → leb (p.x + 1) cols ≡ b → IsTip cols from (n + 1) (next_place cols (Wide 1) p)
    by true e = rw e (let fits = leb-true (p.x + 1) cols e in record { down = h.down; columns = omega (arith, h.columns); row = h.row; within = omega (arith, fits); off_start = λ z. omega arith })
    by false e =
        let full : p.x ≡ cols = omega (arith, leb-false (p.x + 1) cols e, h.within) in
        rw e (record {
          down = h.down + 1;
          columns = omega (arith, add-mul h.down 1 cols, h.columns, full);
          row = ap (λ y. y +ℤ pos 1) h.row ∙ ap pos (let f : from + h.down + 1 ≡ from + (h.down + 1) = omega arith in f);
          within = omega (arith, some);
          off_start = λ z. omega arith;
        })

-- ---- by division

-- before the last column or in it
pub record IsInside (cols n : ℕ) (down x : ℕ) : Type 0 where
  pub col : n % cols ≡ x
  pub row : n / cols ≡ down

pub tip-inside : (cols from n : ℕ) (p : Place) → (h : IsTip cols from n p) → p.x < cols → IsInside cols n h.down p.x
tip-inside cols from n p h less = record {
  col = ap (λ m. m % cols) h.columns ∙ mul-add-mod_self_right h.down cols p.x ∙ mod-eq_of_lt less;
  row = ap (λ m. m / cols) h.columns ∙ mul-add-div_right (omega (arith, less)) h.down p.x ∙ (let none = div-eq_of_lt less in omega (arith, none));
}

pub tip-off : (cols from n : ℕ) (p : Place) → IsTip cols from n p → p.x < cols → n % cols ≡ 0 → n ≡ 0
tip-off cols from n p h less none = elim (cases_lt 0 n) [
  | inl some ↦ absurd (omega (arith, none, (tip-inside cols from n p h less).col, h.off_start some))
  | inr nothing ↦ omega arith
]

-- after the last column
pub tip-full : (cols from n : ℕ) (p : Place) → 0 < cols → (h : IsTip cols from n p) → p.x ≡ cols → IsInside cols n (h.down + 1) 0
tip-full cols from n p some h full =
    let whole : n ≡ (h.down + 1) * cols + 0 = omega (arith, add-mul h.down 1 cols, h.columns, full) in
    record {
      col = ap (λ m. m % cols) whole ∙ mul-add-mod_self_right (h.down + 1) cols 0 ∙ mod-eq_of_lt some;
      row = ap (λ m. m / cols) whole ∙ mul-add-div_right some (h.down + 1) 0 ∙ (let none = div-eq_of_lt some in omega (arith, none));
    }

-- ---- texts

-- a printable character takes one column
pub printable-piece : (ch : ℕ) → is_printable ch ≡ true → plain_piece ch ≡ Wide 1
printable-piece ch h =
    let low : 32 ≤ ch = leb-true _ _ (and_parts (leb 32 ch) (leb ch 126) h).0 in
    rw (ne_eqb ch 13 (λ e. omega arith), ne_eqb ch 10 (λ e. omega arith)) refl

-- where the characters of a text lead
abbrev pub after : ℕ → List ℕ → Place → Place
after cols text p = end_of_pieces cols (map plain_piece text) p

end-append : (cols : ℕ) (ps more : List Piece) (p : Place) → end_of_pieces cols (ps ++ more) p ≡ end_of_pieces cols more (end_of_pieces cols ps p)
end-append cols [] more p = refl
end-append cols (piece ∷ ps) more p = end-append cols ps more (next_place cols piece p)

pub after-append : (cols : ℕ) (a b : List ℕ) (p : Place) → after cols (a ++ b) p ≡ after cols b (after cols a p)
after-append cols a b p = ap (λ ps. end_of_pieces cols ps p) (map-append plain_piece a b) ∙ end-append cols (map plain_piece a) (map plain_piece b) p

pub tip-typed : (cols from n : ℕ) (text : List ℕ) (p : Place) → 0 < cols → list_all is_printable text ≡ true → IsTip cols from n p → IsTip cols from (n + length text) (after cols text p)
tip-typed cols from n [] p some h tip = (let e : n ≡ n + 0 = omega arith in rw (← e) tip)
tip-typed cols from n (ch ∷ text) p some h tip =
    let both = and_parts (is_printable ch) (list_all is_printable text) h in
    let e : n + 1 + length text ≡ n + suc (length text) = omega arith in
    rw (printable-piece ch both.0) (rw (← e) (tip-typed cols from (n + 1) text (next_place cols (Wide 1) p) some both.1 (tip-step cols from n p some tip)))

-- a plain text leads where its characters lead
pub plain-pieces : (text : List ℕ) → list_all is_plain text ≡ true → pieces text ≡ map plain_piece text
unfolding pieces
plain-pieces text h = rw h refl

-- attributes and printable texts
pub tip-changes : (cols from n : ℕ) (changes : Batch) (p : Place) → 0 < cols → list_all is_typing changes ≡ true → IsTip cols from n p
    → IsTip cols from (n + length (typed_text changes)) (place_after_all cols changes p)
tip-changes cols from n [] p some h tip = (let e : n ≡ n + 0 = omega arith in rw (← e) tip)
tip-changes cols from n (Text text ∷ changes) p some h tip =
    let both = and_parts (list_all is_printable text) (list_all is_typing changes) h in
    let e : n + length text + length (typed_text changes) ≡ n + length (text ++ typed_text changes) = omega (arith, length-append text (typed_text changes)) in
    let here : end_of_pieces cols (pieces text) p ≡ after cols text p = ap (λ ps. end_of_pieces cols ps p) (plain-pieces text (plain_from_printable text both.0)) in
    rw (here, ← e) (tip-changes cols from (n + length text) changes (after cols text p) some both.1 (tip-typed cols from n text p some both.0 tip))
tip-changes cols from n (Attribute x ∷ changes) p some h tip = tip-changes cols from n changes p some h tip
tip-changes cols from n (AllAttributes x ∷ changes) p some h tip = tip-changes cols from n changes p some h tip
tip-changes cols from n (change ∷ changes) p some h tip = absurd (false≢true h)

-- ---- the end of a row

-- the cell for the cursor after n columns
tip-cell : (cols from n : ℕ) (p : Place) → 0 < cols → IsTip cols from n p → begins_at cols 1 p ≡ record { x = n % cols; y = pos (from + n / cols) }
tip-cell cols from n p some h = by (leb (p.x + 1) cols) refl
  where
    by : (b : Bool) → leb (p.x + 1) cols ≡ b → begins_at cols 1 p ≡ record { x = n % cols; y = pos (from + n / cols) }
    by true e =
        let fits = leb-true (p.x + 1) cols e in
        let at = tip-inside cols from n p h (omega (arith, fits)) in
        rw (e, at.col, at.row) (ap (λ y. record { x = p.x; y = y }) h.row)
    by false e =
        let at = tip-full cols from n p some h (omega (arith, leb-false (p.x + 1) cols e, h.within)) in
        let down : p.y +ℤ pos 1 ≡ pos (from + (h.down + 1)) = ap (λ y. y +ℤ pos 1) h.row ∙ ap pos (let f : from + h.down + 1 ≡ from + (h.down + 1) = omega arith in f) in
        rw (e, at.col, at.row) (ap (λ y. record { x = 0; y = y }) down)

-- a row is ended: the next one begins below all its rows
ended : (cols from n : ℕ) (p : Place) → 0 < cols → IsTip cols from n p
    → after cols (row_edge cols n ++ cr ∷ lf ∷ []) p ≡ record { x = 0; y = pos (from + rows_taken cols n) }
ended cols from n p some h = by (leb (p.x + 1) cols) refl
  where
    by : (b : Bool) → leb (p.x + 1) cols ≡ b → after cols (row_edge cols n ++ cr ∷ lf ∷ []) p ≡ record { x = 0; y = pos (from + rows_taken cols n) }
    by true e =
        let fits = leb-true (p.x + 1) cols e in
        let at = tip-inside cols from n p h (omega (arith, fits)) in
        let none = no-edge cols n (tip-off cols from n p h (omega (arith, fits))) in
        let down : p.y +ℤ pos 1 ≡ pos (from + rows_taken cols n) = ap (λ y. y +ℤ pos 1) h.row ∙ ap pos (let f : from + h.down + 1 ≡ from + (1 + n / cols) = omega (arith, at.row) in f) in
        rw none (ap (λ y. record { x = 0; y = y }) down)
    by false e =
        let full : p.x ≡ cols = omega (arith, leb-false (p.x + 1) cols e, h.within) in
        let at = tip-full cols from n p some h full in
        let space = an-edge cols n (omega (arith, h.columns, full, some)) at.col in
        let down : p.y +ℤ pos 1 +ℤ pos 1 ≡ pos (from + rows_taken cols n) =
        ap (λ y. y +ℤ pos 1 +ℤ pos 1) h.row ∙ ap pos (let f : from + h.down + 1 + 1 ≡ from + (1 + n / cols) = omega (arith, at.row) in f) in
        rw space (rw e (ap (λ y. record { x = 0; y = y }) down))

-- ---- the cell after a text that begins in a row after n columns

abbrev cell_after : ℕ → ℕ → ℕ → ℕ → List ℕ → Place
cell_after cols continuation from n text = record { x = column_after cols n continuation (rows_of_text text); y = pos (from + rows_down cols n continuation (rows_of_text text)) }

-- after a line feed
cell-below : (cols continuation from n : ℕ) (text : List ℕ)
    → cell_after cols continuation (from + rows_taken cols n) continuation text
    ≡ record { x = column_after cols n continuation ([] ∷ rows_of_text text); y = pos (from + rows_down cols n continuation ([] ∷ rows_of_text text)) }
cell-below cols continuation from n text =
    let it = some-rows text in
    let none : n + 0 ≡ n = omega arith in
    rw (it.2, none) (ap (λ (m : ℕ). record { x = column_after cols continuation continuation (it.0 ∷ it.1); y = pos m })
    (let e : from + rows_taken cols n + rows_down cols continuation continuation (it.0 ∷ it.1) ≡ from + (rows_taken cols n + rows_down cols continuation continuation (it.0 ∷ it.1)) = omega arith in e))

-- after a character
cell-behind : (cols continuation from n ch : ℕ) (text : List ℕ)
    → cell_after cols continuation from (n + 1) text
    ≡ record { x = column_after cols n continuation (before_rows ch (rows_of_text text)); y = pos (from + rows_down cols n continuation (before_rows ch (rows_of_text text))) }
cell-behind cols continuation from n ch text =
    let it = some-rows text in
    let same = before-row cols n continuation ch it.0 it.1 in
    rw (it.2, same.0, same.1) refl

-- what comes after a row and its edge
seam : (cols from n : ℕ) (continuation rest : List ℕ) (p : Place) → 0 < cols → IsTip cols from n p
    → after cols (row_edge cols n ++ (cr ∷ lf ∷ (continuation ++ rest))) p ≡ after cols rest (after cols continuation (record { x = 0; y = pos (from + rows_taken cols n) }))
seam cols from n continuation rest p some tip =
    let edge : List ℕ = row_edge cols n in
    after-append cols edge (cr ∷ lf ∷ (continuation ++ rest)) p
    ∙ after-append cols continuation rest (after cols (cr ∷ lf ∷ []) (after cols edge p))
    ∙ ap (λ q. after cols rest (after cols continuation q)) (sym (after-append cols edge (cr ∷ lf ∷ []) p) ∙ ended cols from n p some tip)

-- where the text that shows rows leads: some columns from the beginning of its last row on, in the cell after the text
pub record SpreadTip (cols : ℕ) (continuation : List ℕ) (from n : ℕ) (text : List ℕ) (p : Place) : Type 0 where
  pub last : ℕ
  pub tip : IsTip cols last (columns_behind (length continuation) n text) (after cols (spread cols continuation n text) p)
  pub cell : begins_at cols 1 (after cols (spread cols continuation n text) p) ≡ cell_after cols (length continuation) from n text

pub spread-tip : (cols : ℕ) (continuation : List ℕ) (from n : ℕ) (text : List ℕ) (p : Place) → 0 < cols
    → list_all is_printable continuation ≡ true → list_all is_row_character text ≡ true → IsTip cols from n p → SpreadTip cols continuation from n text p
spread-tip cols continuation from n text p some c h tip =
    over_rows (length continuation) (λ n text. (from : ℕ) (p : Place) → IsTip cols from n p → SpreadTip cols continuation from n text p)
    (λ n from p tip. record {
      last = from;
      tip = tip;
      cell = tip-cell cols from n p some tip ∙ (let none : n ≡ n + 0 = omega arith in ap (λ m. record { x = m % cols; y = pos (from + m / cols) }) none);
    })
    (λ n text so from p tip.
    let below = from + rows_taken cols n in
    let start : Place = record { x = 0; y = pos below } in
    let begun : IsTip cols below (0 + length continuation) (after cols continuation start) = tip-typed cols below 0 continuation start some c (tip-start cols below) in
    let same : 0 + length continuation ≡ length continuation = omega arith in
    let went = so below (after cols continuation start) (rw same at begun) in
    let there = seam cols from n continuation (spread cols continuation (length continuation) text) p some tip in
    record { last = went.last; tip = rw there went.tip; cell = ap (begins_at cols 1) there ∙ went.cell ∙ cell-below cols (length continuation) from n text })
    (λ n ch text printable e so from p tip.
    let piece = printable-piece ch printable in
    let went = so from (next_place cols (Wide 1) p) (tip-step cols from n p some tip) in
    record { last = went.last; tip = rw e (rw piece went.tip); cell = rw e (rw piece went.cell ∙ cell-behind cols (length continuation) from n ch text) })
    n text h from p tip

-- ---- the cursor

settled-after : (cols : ℕ) (text : List ℕ) (p : Place) → list_all is_plain text ≡ true → place_after_text cols text p ≡ after cols text p
settled-after cols text p h = ap (λ ps. end_of_pieces cols ps p) (plain_settles text h ∙ plain-pieces text h)

pub start-tip : (cols : ℕ) (prompt : List ℕ) → 0 < cols → list_all is_printable prompt ≡ true → IsTip cols 0 (length prompt) (line_start cols prompt)
start-tip cols prompt some h =
    let e : 0 + length prompt ≡ length prompt = omega arith in
    let went : IsTip cols 0 (0 + length prompt) (after cols prompt origin) = tip-typed cols 0 0 prompt origin some h (tip-start cols 0) in
    rw (ap (λ ps. end_of_pieces cols ps origin) (plain-pieces prompt (plain_from_printable prompt h))) (rw e at went)

-- the cell of the cursor is that of its row
settled-cell : (cols : ℕ) (prompt continuation before rest : List ℕ) → 0 < cols → ArePrintableRows prompt continuation before rest
    → settled_place cols prompt (shown_cut cols continuation (length prompt) before rest) ≡ row_cell cols (length prompt) (length continuation) before
settled-cell cols prompt continuation before rest some h =
    let n = length prompt in
    let first = spread cols continuation n before in
    let last = spread cols continuation (columns_behind (length continuation) n before) rest in
    let start = line_start cols prompt in
    let first_plain = spread-plain cols continuation n before h.printable_continuation h.rows_before in
    let last_plain = spread-plain cols continuation (columns_behind (length continuation) n before) rest h.printable_continuation h.rows_behind in
    let needs : needed_by_text (drop (length first) (first ++ last)) ≡ 1 = ap needed_by_text (drop-append_seam first last) ∙ plain_needs last last_plain in
    let leads_to : place_after_text cols (take (length first) (first ++ last)) start ≡ after cols first start =
    ap (λ text. place_after_text cols text start) (take-append_seam first last) ∙ settled-after cols first start first_plain in
    let from_0 : 0 + rows_down cols n (length continuation) (rows_of_text before) ≡ rows_down cols n (length continuation) (rows_of_text before) = omega arith in
    ap (λ w. begins_at cols w (place_after_text cols (take (length first) (first ++ last)) start)) needs
    ∙ ap (begins_at cols 1) leads_to
    ∙ (spread-tip cols continuation 0 n before start some h.printable_continuation h.rows_before (start-tip cols prompt some h.printable_prompt)).cell
    ∙ ap (λ m. record { x = column_after cols n (length continuation) (rows_of_text before); y = pos m }) from_0

-- a screen that is measured has columns
some-columns : (cols : ℕ) (prompt continuation before rest : List ℕ) → is_settled cols prompt (shown_cut cols continuation (length prompt) before rest) ≡ true → 0 < cols
some-columns cols prompt continuation before rest h =
    let cut = shown_cut cols continuation (length prompt) before rest in
    let two = and_parts (is_measured cols prompt (take cut.cursor cut.line)) _ h in
    let sizes = and_parts (leb 1 cols && leb cols 65535) _ two.0 in
    let one = leb-true 1 cols (and_parts (leb 1 cols) (leb cols 65535) sizes.0).0 in
    omega (arith, one)

pub row_column_leads_there : RowColumnLeadsThere
row_column_leads_there cols prompt continuation before rest h settled =
    column_leads_there cols prompt (shown_cut cols continuation (length prompt) before rest) settled
    ∙ settled-cell cols prompt continuation before rest (some-columns cols prompt continuation before rest settled) h

pub cursor_stands_in_its_row : CursorStandsInItsRow
cursor_stands_in_its_row cols prompt continuation before rest scene h settled e f =
    cursor_is_settled cols prompt (shown_cut cols continuation (length prompt) before rest) scene settled e f
    ∙ settled-cell cols prompt continuation before rest (some-columns cols prompt continuation before rest settled) h

-- ---- it is in range

-- a place in one of the first rows
abbrev IsHigh : ℕ → ℕ → Place → Type 0
IsHigh cols n p = (r : ℕ) × (p.y ≡ pos r) × (r ≤ n) × (p.x ≤ cols)

in-range : (cols n : ℕ) (p : Place) → cols ≤ 65535 → n ≤ 2147483647 → IsHigh cols n p → is_in_range p ≡ true
in-range cols n p most low (r, e, below, inside) = rw e (and_from (leb p.x 2147483647) (leb r 2147483647) (le-leb p.x 2147483647 (omega (arith, most, inside))) (le-leb r 2147483647 (omega (arith, low, below))))

next-high : (cols n ch : ℕ) (p : Place) → 0 < cols → IsHigh cols n p → IsHigh cols (n + 1) (next_place cols (plain_piece ch) p)
next-high cols n ch p some (r, e, below, inside) = by (eqb ch cr) (eqb ch lf) (leb (p.x + 1) cols) refl
  where
    down : p.y +ℤ pos 1 ≡ pos (r + 1)
    down = ap (λ y. y +ℤ pos 1) e

    by : (a b fits : Bool) → leb (p.x + 1) cols ≡ fits → IsHigh cols (n + 1) (next_place cols (if a then Cr else if b then Lf else Wide 1) p)
    by true b fits k = (r, e, omega (arith, below), omega arith)
    by false true fits k = (r + 1, down, omega (arith, below), inside)
    by false false true k = rw k (r, e, omega (arith, below), leb-true (p.x + 1) cols k)
    by false false false k = rw k (r + 1, down, omega (arith, below), omega (arith, some))

all-in-range : (cols n : ℕ) (text : List ℕ) (p : Place) → 0 < cols → cols ≤ 65535 → n + length text ≤ 2147483647 → IsHigh cols n p
    → list_all is_in_range (places_after cols (map plain_piece text) p) ≡ true
all-in-range cols n [] p some most low h = refl
all-in-range cols n (ch ∷ text) p some most low h =
    let next = next-high cols n ch p some h in
    and_from (is_in_range (next_place cols (plain_piece ch) p)) (list_all is_in_range (places_after cols (map plain_piece text) (next_place cols (plain_piece ch) p)))
    (in-range cols (n + 1) (next_place cols (plain_piece ch) p) most (omega (arith, low)) next)
    (all-in-range cols (n + 1) text (next_place cols (plain_piece ch) p) some most (omega (arith, low)) next)

-- the cell after some rows is as many columns on, or more
columns-on : (cols n continuation : ℕ) (row : List ℕ) (more : List (List ℕ)) → 0 < cols
    → n ≤ rows_down cols n continuation (row ∷ more) * cols + column_after cols n continuation (row ∷ more)
columns-on cols n continuation row [] some = omega (arith, div-add-mod' (n + length row) cols)
columns-on cols n continuation row (next ∷ more) some = omega (arith, div-add-mod' (n + length row) cols, mod_below (n + length row) cols some)

inside-column : (cols n continuation : ℕ) (row : List ℕ) (more : List (List ℕ)) → 0 < cols → column_after cols n continuation (row ∷ more) < cols
inside-column cols n continuation row [] some = mod_below (n + length row) cols some
inside-column cols n continuation row (next ∷ more) some = inside-column cols continuation continuation next more some

-- so far down and so far up again
clipped : (z : ℤ) (n m : ℕ) → z ≡ pos n -ℤ pos m → at_least_0 z ≡ n - m
clipped (pos k) n m e = omega (arith, ints, e)
clipped (negsuc k) n m e = omega (arith, ints, e)

-- such a cell is not before the place after n columns
ahead : (cols n down x : ℕ) (p q : Place) → 0 < cols → IsTip cols 0 n p → q.x ≡ x → q.y ≡ pos down → x < cols → n ≤ down * cols + x → is_ahead cols p q ≡ true
ahead cols n down x p q some tip qx qy inside on = le-leb p.x (rows_between p q * cols + q.x) (elim (cases_lt down tip.down) [
  | inl above ↦
      let d : ℕ = tip.down - (down + 1) in
      let e : tip.down ≡ down + 1 + d = omega (arith, above) in
      absurd (omega (arith, tip.columns, on, inside, ap (λ i. i * cols) e))
  | inr below ↦
      let d : ℕ = down - tip.down in
      let e : down ≡ tip.down + d = omega (arith, below) in
      let between : rows_between p q ≡ d = ap at_least_0 (ap (λ y. y -ℤ p.y) qy ∙ ap (λ y. pos down -ℤ y) tip.row)
      ∙ clipped (pos down -ℤ pos (0 + tip.down)) down tip.down (omega (arith, ints)) in
      rw (between, qx) (omega (arith, tip.columns, on, ap (λ i. i * cols) e))
])

pub row_column_is_settled : RowColumnIsSettled
row_column_is_settled cols prompt continuation before rest h one most low =
    let n = length prompt in
    let cut = shown_cut cols continuation n before rest in
    let first = spread cols continuation n before in
    let last = spread cols continuation (columns_behind (length continuation) n before) rest in
    let start : Place = line_start cols prompt in
    let tip : IsTip cols 0 n start = start-tip cols prompt one h.printable_prompt in
    let plain = spread-plain cols continuation n before h.printable_continuation h.rows_before in
    let taken : take (length first) (first ++ last) ≡ first = take-append_seam first last in
    let high : IsHigh cols n start = (0 + tip.down, tip.row, omega (arith, tip.columns, many tip.down), tip.within) in
    let prompt_in : list_all is_in_range (places_after cols (pieces prompt) origin) ≡ true =
    ap (λ ps. list_all is_in_range (places_after cols ps origin)) (plain-pieces prompt (plain_from_printable prompt h.printable_prompt))
    ∙ all-in-range cols 0 prompt origin one most (omega (arith, low)) (0, refl, omega arith, omega arith) in
    let text_in : list_all is_in_range (places_after cols (settled_pieces (take (length first) (first ++ last))) start) ≡ true =
    ap (λ text. list_all is_in_range (places_after cols (settled_pieces text) start)) taken
    ∙ ap (λ ps. list_all is_in_range (places_after cols ps start)) (plain_settles first plain ∙ plain-pieces first plain)
    ∙ all-in-range cols n first start one most low high in
    let it = some-rows before in
    let on = columns-on cols n (length continuation) it.0 it.1 one in
    let inside = inside-column cols n (length continuation) it.0 it.1 one in
    let cell = settled-cell cols prompt continuation before rest one h in
    let beyond : is_ahead cols start (settled_place cols prompt cut) ≡ true =
    rw (cell, it.2) (ahead cols n (rows_down cols n (length continuation) (it.0 ∷ it.1)) (column_after cols n (length continuation) (it.0 ∷ it.1)) start _ one tip refl refl inside on) in
    and_from (is_measured cols prompt (take cut.cursor cut.line)) (leb start.x cols && is_ahead cols start (settled_place cols prompt cut))
    (and_from (leb 1 cols && leb cols 65535) _ (and_from (leb 1 cols) (leb cols 65535) (le-leb 1 cols one) (le-leb cols 65535 most)) (and_from _ _ prompt_in text_in))
    (and_from (leb start.x cols) (is_ahead cols start (settled_place cols prompt cut)) (le-leb start.x cols tip.within) beyond)
  where
    many : (d : ℕ) → d ≤ d * cols
    many zero = omega arith
    many (suc d) = omega (arith, many d, one, add-mul d 1 cols, one-mul cols)
