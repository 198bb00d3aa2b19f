-- A screen of some rows shows a window of the screen without a bottom.
use Rattle.std.proofs.Common.{◌≡◌, ℕ, ◌+◌, ◌-◌, ◌≤◌, ◌<◌, Bool, true, false, ◌&&◌, ◌||◌, List, [], ◌∷◌, inl, inr, refl, sym, ap, ◌∙◌, subst, arith, if◌then◌else◌, eqb, ltb, leb}
use Rattle.std.proofs.lemmas.Bool.{cases_eq, cases_lt, eq-eqb, ne_eqb, lt-ltb, le-ltb}
use Rattle.tw_surface.specs.Characters.{cr, lf}
use Rattle.tw_surface.specs.ChangeView.{ChangeView, Batch}
use Rattle.tw_surface.specs.ChangeView.{Attribute, AllAttributes, Text, ClearScreen, ClearToEndOfScreen, CursorPosition}
use Rattle.tw_surface.specs.Pictures.{Picture, blank, cells_with, cells_cleared_from, picture_with, play_char, play_text, play}
use Rattle.tw_surface.specs.Scrolling.{IsWithin, scroll, play_text_on, play_on, play_all_on, play_batches_on}
use Rattle.tw_surface.proofs.TextCursor.{text-row}

-- the picture b is the picture u from row t on
pub record Sees (t : ℕ) (b u : Picture) : Type 0 where
  pub row : u.row ≡ b.row + t
  pub col : u.col ≡ b.col
  pub cell : (i j : ℕ) → b.cell i j ≡ u.cell (i + t) j

pub sees-same : (s : Picture) → Sees 0 s s
sees-same s = record { row = omega arith; col = refl; cell = λ i j. ap (λ r. s.cell r j) (omega arith) }

-- ---- a character

shift-eqb : (i r t : ℕ) → eqb i r ≡ eqb (i + t) (r + t)
shift-eqb i r t = elim (cases_eq i r) [
  | inl e ↦ rw (eq-eqb i r e, eq-eqb (i + t) (r + t) (omega (arith, e))) refl
  | inr n ↦ rw (ne_eqb i r n, ne_eqb (i + t) (r + t) (λ e. n (omega (arith, e)))) refl
]

sees-cells_with : (t ch r c : ℕ) (f g : ℕ → ℕ → ℕ) → ((i j : ℕ) → f i j ≡ g (i + t) j) → (i j : ℕ) → cells_with f r c ch i j ≡ cells_with g (r + t) c ch (i + t) j
sees-cells_with t ch r c f g h i j =
    ap (λ e. if e && eqb j c then ch else f i j) (shift-eqb i r t) ∙ ap (λ x. if eqb (i + t) (r + t) && eqb j c then ch else x) (h i j)

sees-picture_with : (w t ch : ℕ) (b u : Picture) → Sees t b u → Sees t (picture_with w ch b) (picture_with w ch u)
sees-picture_with w t ch b u s =
    subst (λ x. Sees t (picture_with w ch b) x) (sym (ap (λ c. if eqb c w then record { cell = cells_with u.cell (u.row + 1) 0 ch; row = u.row + 1; col = 1 } else record { cell = cells_with u.cell u.row u.col ch; row = u.row; col = u.col + 1 }) s.col)) (by_wrap (eqb b.col w))
  where
    by_wrap : (e : Bool) → Sees t (if e then record { cell = cells_with b.cell (b.row + 1) 0 ch; row = b.row + 1; col = 1 } else record { cell = cells_with b.cell b.row b.col ch; row = b.row; col = b.col + 1 })
        (if e then record { cell = cells_with u.cell (u.row + 1) 0 ch; row = u.row + 1; col = 1 } else record { cell = cells_with u.cell u.row u.col ch; row = u.row; col = u.col + 1 })
    by_wrap true = record {
      row = omega (arith, s.row);
      col = refl;
      cell = λ i j. sees-cells_with t ch (b.row + 1) 0 b.cell u.cell s.cell i j ∙ ap (λ r. cells_with u.cell r 0 ch (i + t) j) (omega (arith, s.row));
    }
    by_wrap false = record {
      row = s.row;
      col = omega (arith, s.col);
      cell = λ i j. sees-cells_with t ch b.row b.col b.cell u.cell s.cell i j ∙ ap (λ r. cells_with u.cell r b.col ch (i + t) j) (sym s.row) ∙ ap (λ c. cells_with u.cell u.row c ch (i + t) j) (sym s.col);
    }

pub sees-char : (w t ch : ℕ) (b u : Picture) → Sees t b u → Sees t (play_char w ch b) (play_char w ch u)
sees-char w t ch b u s = by_cr (eqb ch cr)
  where
    by_lf : (e : Bool) → Sees t (if e then record b { row = b.row + 1 } else picture_with w ch b) (if e then record u { row = u.row + 1 } else picture_with w ch u)
    by_lf true = record { row = omega (arith, s.row); col = s.col; cell = s.cell }
    by_lf false = sees-picture_with w t ch b u s

    by_cr : (e : Bool) → Sees t (if e then record b { col = 0 } else if eqb ch lf then record b { row = b.row + 1 } else picture_with w ch b) (if e then record u { col = 0 } else if eqb ch lf then record u { row = u.row + 1 } else picture_with w ch u)
    by_cr true = record { row = s.row; col = refl; cell = s.cell }
    by_cr false = by_lf (eqb ch lf)

-- ---- texts and moves

shift-ltb : (i r t : ℕ) → ltb i r ≡ ltb (i + t) (r + t)
shift-ltb i r t = elim (cases_lt i r) [
  | inl e ↦ rw (lt-ltb i r e, lt-ltb (i + t) (r + t) (omega (arith, e))) refl
  | inr n ↦ rw (le-ltb i r n, le-ltb (i + t) (r + t) (omega (arith, n))) refl
]

sees-cells_cleared_from : (t r c : ℕ) (f g : ℕ → ℕ → ℕ) → ((i j : ℕ) → f i j ≡ g (i + t) j) → (i j : ℕ) → cells_cleared_from f r c i j ≡ cells_cleared_from g (r + t) c (i + t) j
sees-cells_cleared_from t r c f g h i j =
    ap (λ e. if e || (eqb r i && leb c j) then blank else f i j) (shift-ltb r i t)
    ∙ ap (λ e. if ltb (r + t) (i + t) || (e && leb c j) then blank else f i j) (shift-eqb r i t)
    ∙ ap (λ x. if ltb (r + t) (i + t) || (eqb (r + t) (i + t) && leb c j) then blank else x) (h i j)

-- a clearing to the end
pub sees-clear : (t : ℕ) (b u : Picture) → Sees t b u → Sees t (record b { cell = cells_cleared_from b.cell b.row b.col }) (record u { cell = cells_cleared_from u.cell u.row u.col })
sees-clear t b u s = record {
  row = s.row;
  col = s.col;
  cell = λ i j. sees-cells_cleared_from t b.row b.col b.cell u.cell s.cell i j ∙ ap (λ r. cells_cleared_from u.cell r b.col (i + t) j) (sym s.row) ∙ ap (λ c. cells_cleared_from u.cell u.row c (i + t) j) (sym s.col);
}

pub sees-scrolled : (h t : ℕ) (b u : Picture) → 0 < h → Sees t b u → Sees (t + (b.row + 1 - h)) (scroll h b) u
sees-scrolled h t b u some s = record {
  row = omega (arith, s.row);
  col = s.col;
  cell = λ i j. s.cell (i + (b.row + 1 - h)) j ∙ ap (λ r. u.cell r j) (omega arith);
}

-- the first row that is seen, once the cursor has come from a row that is seen down to row r
abbrev pub seen_from : ℕ → ℕ → ℕ → ℕ
seen_from h t r = t + (r + 1 - h - t)

-- a text goes on: what is seen then is what is seen where it ends
seen-step : (h t from row last : ℕ) → 0 < h → row ≡ from + t → row ≤ last → seen_from h (t + (from + 1 - h)) last ≡ seen_from h t last
seen-step h t from row last some at down = omega arith

-- a text on h rows shows what it shows without a bottom
pub sees-text : (h w : ℕ) (text : List ℕ) (t : ℕ) (b u : Picture) → b.row < h → Sees t b u
    → Sees (seen_from h t (play_text w text u).row) (play_text_on h w text b) (play_text w text u)
sees-text h w [] t b u low s = subst (λ k. Sees k b u) (omega (arith, s.row)) s
sees-text h w (ch ∷ text) t b u low s =
    let c : Picture = play_char w ch b in
    let v : Picture = play_char w ch u in
    let one : Sees t c v = sees-char w t ch b u s in
    let rest = sees-text h w text (t + (c.row + 1 - h)) (scroll h c) v (omega arith) (sees-scrolled h t c v (omega arith) one) in
    subst (λ k. Sees k (play_text_on h w text (scroll h c)) (play_text w text v))
    (seen-step h t c.row v.row (play_text w text v).row (omega arith) one.row (text-row w text v)) rest

-- ---- a screen of h rows stays one

within-scrolled : (h : ℕ) (s : Picture) → 0 < h → ((r c : ℕ) → (h ≤ r) × (s.row < r) → s.cell r c ≡ blank) → IsWithin h (scroll h s)
within-scrolled h s some free = record {
  row = omega arith;
  below = λ r c k. free (r + (s.row + 1 - h)) c (omega arith, omega arith);
}

within-cells_with : (h r c ch : ℕ) (f : ℕ → ℕ → ℕ) → ((i j : ℕ) → h ≤ i → f i j ≡ blank) → (i j : ℕ) → (h ≤ i) × (r < i) → cells_with f r c ch i j ≡ blank
within-cells_with h r c ch f below i j k = rw (ne_eqb i r (λ e. omega (arith, e, k.1))) (below i j k.0)

within-picture_with : (h w ch : ℕ) (s : Picture) → IsWithin h s → (r c : ℕ) → (h ≤ r) × ((picture_with w ch s).row < r) → (picture_with w ch s).cell r c ≡ blank
within-picture_with h w ch s k = by_wrap (eqb s.col w)
  where
    by_wrap : (e : Bool) → let p : Picture = if e then record { cell = cells_with s.cell (s.row + 1) 0 ch; row = s.row + 1; col = 1 } else record { cell = cells_with s.cell s.row s.col ch; row = s.row; col = s.col + 1 } in
        (r c : ℕ) → (h ≤ r) × (p.row < r) → p.cell r c ≡ blank
    by_wrap true = within-cells_with h (s.row + 1) 0 ch s.cell k.below
    by_wrap false = within-cells_with h s.row s.col ch s.cell k.below

within-char : (h w ch : ℕ) (s : Picture) → IsWithin h s → IsWithin h (scroll h (play_char w ch s))
within-char h w ch s k = within-scrolled h (play_char w ch s) (omega (arith, k.row)) (by_cr (eqb ch cr))
  where
    by_lf : (e : Bool) → let p : Picture = if e then record s { row = s.row + 1 } else picture_with w ch s in (r c : ℕ) → (h ≤ r) × (p.row < r) → p.cell r c ≡ blank
    by_lf true r c q = k.below r c q.0
    by_lf false r c q = within-picture_with h w ch s k r c q

    by_cr : (e : Bool) → let p : Picture = if e then record s { col = 0 } else if eqb ch lf then record s { row = s.row + 1 } else picture_with w ch s in
        (r c : ℕ) → (h ≤ r) × (p.row < r) → p.cell r c ≡ blank
    by_cr true r c q = k.below r c q.0
    by_cr false r c q = by_lf (eqb ch lf) r c q

within-text : (h w : ℕ) (text : List ℕ) (s : Picture) → IsWithin h s → IsWithin h (play_text_on h w text s)
within-text h w [] s k = k
within-text h w (ch ∷ text) s k = within-text h w text (scroll h (play_char w ch s)) (within-char h w ch s k)

pub within-change : (h w : ℕ) (change : ChangeView) (s : Picture) → IsWithin h s → IsWithin h (play_on h w change s)
within-change h w (Attribute a) s k = k
within-change h w (AllAttributes a) s k = k
within-change h w (Text text) s k = within-text h w text s k
within-change h w (ClearScreen color) s k = record { row = omega (arith, k.row); below = λ r c q. refl }
within-change h w (ClearToEndOfScreen color) s k = record {
  row = k.row;
  below = λ r c q. ap (λ e. if e || (eqb s.row r && leb s.col c) then blank else s.cell r c) (lt-ltb s.row r (omega (arith, k.row, q)));
}
within-change h w (CursorPosition x y) s k = within-scrolled h (play w (CursorPosition x y) s) (omega (arith, k.row)) (λ r c q. k.below r c q.0)

within-batch : (h w : ℕ) (changes : Batch) (s : Picture) → IsWithin h s → IsWithin h (play_all_on h w changes s)
within-batch h w [] s k = k
within-batch h w (change ∷ changes) s k = within-batch h w changes (play_on h w change s) (within-change h w change s k)

pub stays_within : (h w : ℕ) (played : List Batch) (s : Picture) → IsWithin h s → IsWithin h (play_batches_on h w played s)
stays_within h w [] s k = k
stays_within h w (batch ∷ more) s k = stays_within h w more (play_all_on h w batch s) (within-batch h w batch s k)
